-- Lists of steps that happen one after another, and what the tests of a step say.
use Rattle.std.proofs.Common.{◌≡◌, ◌+◌, ℕ, Bool, true, false, cond, List, [], ◌∷◌, ◌++◌, Option, Some, None, refl, sym, ◌∙◌, ap, subst}
use Rattle.std.proofs.lemmas.Bool.{eq-eqb, eqb-true, and_from}
use Rattle.channel_fsm.specs.declared.ChanId.{ChanId}
use Rattle.dense_tables.specs.declared.references.Reference.{Reference}
use Rattle.radio_book.specs.declared.event.Event.{Event}
use Rattle.radio_book.specs.declared.undone.StepAt.{StepAt}
use Rattle.radio_book.specs.declared.event.Event.TheVariants as event
use Rattle.radio_book.specs.declared.event.Reply.{Reply}
use Rattle.radio_book.specs.State.{State}
use Rattle.radio_book.specs.Table.{step, reply_to}
use Rattle.radio_book.specs.Sound.{IsSound}
use Rattle.radio_book.specs.Run.{run_book, run_replies}
use Rattle.radio_book.specs.Kinds.{released_by, refusal_of}
use Rattle.radio_book.specs.Others.{IsHeldChannel, IsHeldReference}
use Rattle.radio_book.specs.Undone.{steps_from, events_of, replies_of, is_call, is_channel, is_reference, comes_from}
use Rattle.radio_tables.proofs.KeyFacts.{same_chan_itself, one_chan}
use Rattle.radio_book.proofs.SoundSteps.{sound_step}

-- runs

-- the steps happen one after another, from one book to another
abbrev pub Runs : State → List StepAt → State → Type 0
Runs b [] b' = b' ≡ b
Runs b (s ∷ ss) b' = (s.reply ≡ reply_to b s.event) × Runs (step b s.event) ss b'

pub runs_from : (n : ℕ) (b : State) (es : List Event) → Runs b (steps_from n b es) (run_book b es)
runs_from n b [] = refl
runs_from n b (e ∷ es) = (refl, runs_from (n + 1) (step b e) es)

pub runs_on : (xs ys : List StepAt) (b m b' : State) → Runs b xs m → Runs m ys b' → Runs b (xs ++ ys) b'
runs_on [] ys b m b' first rest = subst (λ m. Runs m ys b') first rest
runs_on (x ∷ xs) ys b m b' first rest = (first.0, runs_on xs ys (step b x.event) m b' first.1 rest)

pub runs_parts : (xs ys : List StepAt) (b b' : State) → Runs b (xs ++ ys) b' → (m : State) × Runs b xs m × Runs m ys b'
runs_parts [] ys b b' runs = (b, refl, runs)
runs_parts (x ∷ xs) ys b b' runs = let rest = runs_parts xs ys (step b x.event) b' runs.1 in (rest.0, (runs.0, rest.1), rest.2)

pub run_of : (ss : List StepAt) (b b' : State) → Runs b ss b' → (b' ≡ run_book b (events_of ss)) × (replies_of ss ≡ run_replies b (events_of ss))
run_of [] b b' same = (same, refl)
run_of (s ∷ ss) b b' runs =
    let rest = run_of ss (step b s.event) b' runs.1 in
    (rest.0, ap (λ reply. reply ∷ replies_of ss) runs.0 ∙ ap (λ replies. reply_to b s.event ∷ replies) rest.1)

pub sound_after : (ss : List StepAt) (b b' : State) → Runs b ss b' → IsSound b → IsSound b'
sound_after [] b b' same sound = subst IsSound (sym same) sound
sound_after (s ∷ ss) b b' runs sound = sound_after ss (step b s.event) b' runs.1 (sound_step b s.event sound)

-- lists

-- nothing was found: not the first, and nothing in the rest
pub none_found : {X : Type 0} (found : Bool) (x : X) (xs : List X) → cond found (x ∷ xs) xs ≡ [] → (found ≡ false) × (xs ≡ [])
none_found true x xs none = cc
none_found false x xs none = (refl, none)

-- tests

pub tested_call : (c : ℕ) (o : Option ℕ) → is_call c o ≡ true → o ≡ Some c
tested_call c None test = cc
tested_call c (Some d) test = ap Some (eqb-true d c test)

pub same_call : (c : ℕ) (o : Option ℕ) → o ≡ Some c → is_call c o ≡ true
same_call c o same = ap (is_call c) same ∙ eq-eqb c c refl

pub tested_channel : (target o : Option ChanId) → is_channel target o ≡ true → (t : ChanId) × (target ≡ Some t) × (o ≡ Some t)
tested_channel None o test = cc
tested_channel (Some t) None test = cc
tested_channel (Some t) (Some x) test = (t, refl, ap Some (one_chan x t test))

pub same_channel : (target o : Option ChanId) (t : ChanId) → target ≡ Some t → o ≡ Some t → is_channel target o ≡ true
same_channel target o t aims same = ap (λ p. is_channel p o) aims ∙ ap (is_channel (Some t)) same ∙ same_chan_itself t

same_reference : (k : Reference) → is_reference (Some k) (Some (record { cell = k.cell; number = k.number })) ≡ true
same_reference k = and_from _ _ (eq-eqb k.cell k.cell refl) (eq-eqb k.number k.number refl)

-- an event that acknowledges a release
pub release_of : (e : Event) (x : ChanId) → released_by e ≡ Some x → e ≡ event.Released x
release_of (event.Open d y) x is = cc
release_of (event.Clear d) x is = cc
release_of (event.Look d) x is = cc
release_of (event.Take d k y) x is = cc
release_of (event.Reserve d n) x is = cc
release_of (event.Activate d) x is = cc
release_of (event.Command d) x is = cc
release_of (event.Complete d) x is = cc
release_of (event.Undo d why) x is = cc
release_of (event.Confirm y) x is = cc
release_of (event.Refuse y) x is = cc
release_of (event.Detect y) x is = cc
release_of (event.Released y) x is = cc
release_of (event.Owner y) x is = cc
release_of (event.Require d) x is = cc
release_of (event.Order d) x is = cc
release_of (event.Left d) x is = cc

-- refusals

module _ (target : Option ChanId) (reference : Option Reference) (reply : Reply) (free : comes_from target reference (refusal_of reply) ≡ false) where
  pub for_no_channel : (t : ChanId) → target ≡ Some t → IsHeldChannel t reply → ⊥
  for_no_channel t aims held =
      let found = ap (λ answer. comes_from target reference (refusal_of answer)) held
      ∙ same_channel target (Some t) t aims refl in
      let bad : true ≡ false = sym found ∙ free in cc

  pub for_no_reference : (o : Option Reference) → reference ≡ o → IsHeldReference o reply → ⊥
  for_no_reference None has held = held
  for_no_reference (Some k) has held =
      let found = ap (λ answer. comes_from target reference (refusal_of answer)) held
      ∙ ap (λ o. is_reference o (Some (record { cell = k.cell; number = k.number }))) has ∙ same_reference k in
      let bad : true ≡ false = sym found ∙ free in cc
