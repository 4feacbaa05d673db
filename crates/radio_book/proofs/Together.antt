-- The settled attempts of a list, taken out together, leave no trace.
use Rattle.std.proofs.Common.{◌≡◌, ◌⊎◌, inl, inr, ℕ, Bool, true, false, not, cond, ◌&&◌, if◌then◌else◌, IsTrue, is_none, List, [], ◌∷◌, ◌++◌, map, Option, Some, None, refl, sym, ◌∙◌, ap, subst}
use Rattle.std.specs.Prelude.{All, Contains, filter}
use Rattle.std.specs.List.{list_any, list_all}
use Rattle.std.specs.Option.{option_to_list}
use Rattle.std.proofs.lemmas.Bool.{and_from, and_right, or_parts}
use Rattle.std.proofs.lemmas.List.{append-nil}
use Rattle.std.proofs.lemmas.List.Elements.{All-head, All-tail, All-weaker}
use Rattle.channel_fsm.specs.declared.ChanId.{ChanId}
use Rattle.radio_book.specs.declared.undone.StepAt.{StepAt}
use Rattle.radio_book.specs.declared.following.Phase.{Phase}
use Rattle.radio_book.specs.declared.following.Phase.TheVariants.{Open, Awaiting, Settled, Completed}
use Rattle.radio_book.specs.declared.following.Followed.{Followed}
use Rattle.radio_book.specs.State.{State}
use Rattle.radio_book.specs.Table.{step, reply_to}
use Rattle.radio_book.specs.Sound.{IsSound}
use Rattle.radio_book.specs.Kinds.{Opens, is_accepted}
use Rattle.radio_book.specs.Undone.{Undone, held_refusals}
use Rattle.radio_book.specs.Following.{stays, holds, after, is_settled_in, is_over, is_over_in, settles, opening_of, settling, settling_in, followed_on, remains, remaining_from}
use Rattle.radio_book.specs.Together.{stands_in}
use Rattle.radio_book.proofs.SoundSteps.{sound_step}
use Rattle.radio_book.proofs.OwnSteps.{openings_add_the_attempt}
use Rattle.radio_book.proofs.RemainderFacts.{IsOpening, opening_is}
use Rattle.radio_book.proofs.StepFacts.{Runs, none_found}
use Rattle.radio_book.proofs.Passing.{without, without_in, IsIn, IsGone, EndsProperly, passes, sound_without, still_gone, untouched}
use Rattle.radio_book.proofs.Standing.{Follows}
use Rattle.radio_book.proofs.Remaining.{Stands, AreAll, held_same, stands_next}

-- THE BOOK WITHOUT SEVERAL ATTEMPTS

abbrev pub without_all : List Followed → State → State
without_all [] b = b
without_all (p ∷ ps) b = without_all ps (without p b)

-- each is in the book that those before it leave
abbrev pub AreIn : List Followed → State → Type 0
AreIn [] b = Unit {0}
AreIn (p ∷ ps) b = IsIn p b × AreIn ps (without p b)

sound_all : (ps : List Followed) (b : State) → IsSound b → AreIn ps b → IsSound (without_all ps b)
sound_all [] b sound are_in = sound
sound_all (p ∷ ps) b sound are_in = sound_all ps (without p b) (sound_without p b sound are_in.0) are_in.1

-- one more, behind all others
without_more : (ps : List Followed) (q : Followed) (b : State) → without_all (ps ++ (q ∷ [])) b ≡ without q (without_all ps b)
without_more [] q b = refl
without_more (p ∷ ps) q b = without_more ps q (without p b)

are_in_more : (ps : List Followed) (q : Followed) (b : State) → AreIn ps b → IsIn q (without_all ps b) → AreIn (ps ++ (q ∷ [])) b
are_in_more [] q b are_in here = (here, tt)
are_in_more (p ∷ ps) q b are_in here = (are_in.0, are_in_more ps q (without p b) are_in.1 here)

-- one that is over is in the book no more
over_without : (p : Followed) (b : State) → is_over p ≡ true → without p b ≡ b
over_without p b = by p.phase
  where
    by : (phase : Phase) → is_over_in phase ≡ true → without_in phase p.call p.target b ≡ b
    by (Open number) over = cc
    by Awaiting over = cc
    by Settled over = refl
    by Completed over = refl

abbrev goes_on : Followed → Bool
goes_on p = not (is_over p)

without_going : (ps : List Followed) (b : State) → without_all (filter goes_on ps) b ≡ without_all ps b
without_going [] b = refl
without_going (p ∷ ps) b = by (without_going ps) (is_over p) refl
  where
    by : ((b : State) → without_all (filter goes_on ps) b ≡ without_all ps b) → (q : Bool) → is_over p ≡ q → without_all (cond (not q) (p ∷ filter goes_on ps) (filter goes_on ps)) b ≡ without_all ps (without p b)
    by rest true over = rest b ∙ ap (without_all ps) (sym (over_without p b over))
    by rest false open' = rest (without p b)

are_in_going : (ps : List Followed) (b : State) → AreIn ps b → AreIn (filter goes_on ps) b
are_in_going [] b are_in = tt
are_in_going (p ∷ ps) b are_in = by (are_in_going ps) (is_over p) refl
  where
    by : ((b : State) → AreIn ps b → AreIn (filter goes_on ps) b) → (q : Bool) → is_over p ≡ q → AreIn (cond (not q) (p ∷ filter goes_on ps) (filter goes_on ps)) b
    by rest true over = rest b (subst (AreIn ps) (over_without p b over) are_in.1)
    by rest false open' = (are_in.0, rest (without p b) are_in.1)

-- ONE STEP

abbrev moved : StepAt → List Followed → List Followed
moved s ps = map (λ p. after p s) ps

-- a step that was taken out moves none
stay_put : (ps : List Followed) (b : State) (s : StepAt) → AreIn ps b → IsGone s.event b → moved s ps ≡ ps
stay_put [] b s are_in gone = refl
stay_put (p ∷ ps) b s are_in gone = λ i. untouched p b s are_in.0 gone i ∷ stay_put ps (without p b) s are_in.1 (still_gone p b are_in.0 s.event gone) i

record AllStay (ps : List Followed) (b : State) (s : StepAt) : Type 0 where
  stay : list_all (λ p. stays p s) ps ≡ true
  book : without_all (moved s ps) (step b s.event) ≡ step (without_all ps b) s.event
  reply : reply_to b s.event ≡ reply_to (without_all ps b) s.event
  are_in : AreIn (moved s ps) (step b s.event)

record OneGoes (ps : List Followed) (b : State) (s : StepAt) : Type 0 where
  stay : list_all (λ p. stays p s) ps ≡ false
  book : without_all (moved s ps) (step b s.event) ≡ without_all ps b
  are_in : AreIn (moved s ps) (step b s.event)
  opens_none : (d : ℕ) (o : Option ChanId) → Opens d o s.event → IsTrue (is_accepted s.reply) → ⊥

one_step : (ps : List Followed) (b : State) (s : StepAt) → IsSound b → AreIn ps b → s.reply ≡ reply_to b s.event → All (λ p. EndsProperly p s) ps → list_any (λ p. holds p s) ps ≡ false → AllStay ps b s ⊎ OneGoes ps b s
one_step [] b s sound are_in answered proper free = inl (record { stay = refl; book = refl; reply = refl; are_in = tt })
one_step (p ∷ ps) b s sound are_in answered proper free =
    let none = or_parts (holds p s) (list_any (λ p. holds p s) ps) free in
    elim (passes p b s sound are_in.0 answered (All-head (λ p. EndsProperly p s) p ps proper) none.0) [
      | inl (stay, same) ↦
          elim (one_step ps (without p b) s (sound_without p b sound are_in.0) are_in.1 (answered ∙ same.reply) (All-tail (λ p. EndsProperly p s) p ps proper) none.1) [
            | inl all ↦ inl (record {
              stay = and_from (stays p s) (list_all (λ p. stays p s) ps) stay all.stay;
              book = ap (without_all (moved s ps)) same.book ∙ all.book;
              reply = same.reply ∙ all.reply;
              are_in = (same.still, subst (AreIn (moved s ps)) (sym same.book) all.are_in);
            })
            | inr one ↦ inr (record {
              stay = ap (λ q. q && list_all (λ p. stays p s) ps) stay ∙ one.stay;
              book = ap (without_all (moved s ps)) same.book ∙ one.book;
              are_in = (same.still, subst (AreIn (moved s ps)) (sym same.book) one.are_in);
              opens_none = one.opens_none;
            })
          ]
      | inr (left, goes) ↦
          let put : moved s ps ≡ ps = stay_put ps (without p b) s are_in.1 goes.gone in
          inr (record {
            stay = ap (λ q. q && list_all (λ p. stays p s) ps) left;
            book = (λ i. without_all (put i) (goes.book i));
            are_in = (goes.still, subst (AreIn (moved s ps)) (sym goes.book) (subst (λ qs. AreIn qs (without p b)) (sym put) are_in.1));
            opens_none = goes.opens_none;
          })
    ]

-- AN OPENING

-- what an attempt that settles says of the step that opens it
pub opens_with : (s : StepAt) (ss : List StepAt) (p : Followed) → settling s ss ≡ Some p → IsOpening s p
opens_with s ss p = by (opening_of s) refl
  where
    settled : (q : Followed) (t : Bool) → opening_of s ≡ Some q → (if t then Some q else None) ≡ Some p → IsOpening s p
    settled q true opens is = opening_is s p (opens ∙ is)
    settled q false opens is = cc

    by : (o : Option Followed) → opening_of s ≡ o → settling_in o ss ≡ Some p → IsOpening s p
    by None opens is = cc
    by (Some q) opens is = settled q (settles q ss) opens is

-- MANY STEPS

-- in the end all attempts are settled
without_settled : (us : List Undone) (ps : List Followed) (b : State) → All (λ p. (u : Undone) × Contains us u × (is_settled_in p.phase ≡ true)) ps → without_all ps b ≡ b
without_settled us [] b all = refl
without_settled us (p ∷ ps) b all =
    ap (without_all ps) (over_without p b (over p.phase (All-head (λ p. (u : Undone) × Contains us u × (is_settled_in p.phase ≡ true)) p ps all).2))
    ∙ without_settled us ps b (All-tail (λ p. (u : Undone) × Contains us u × (is_settled_in p.phase ≡ true)) p ps all)
  where
    over : (phase : Phase) → is_settled_in phase ≡ true → is_over_in phase ≡ true
    over (Open number) settled = cc
    over Awaiting settled = cc
    over Settled settled = refl
    over Completed settled = cc

module _ (us : List Undone) where
  abbrev held_among : List StepAt → List StepAt
  held_among ss = filter (λ s. list_any (λ u. stands_in (held_refusals u) s) us) ss

  -- what is claimed of the steps that are left
  abbrev LeadsOn : List StepAt → Type 0
  LeadsOn ss =
      (ps : List Followed) (b b' : State) → IsSound b → AreIn ps b → Stands us ps ss → AreAll us ss → Runs b ss b' → held_among ss ≡ [] → Runs (without_all ps b) (remaining_from ps ss) b'

  module _ (s : StepAt) (ss : List StepAt) (further : LeadsOn ss) (ps : List Followed) (b b' : State) (sound : IsSound b) (are_in : AreIn ps b) (stands : Stands us ps (s ∷ ss)) (are_all : AreAll us (s ∷ ss))
      (answered : s.reply ≡ reply_to b s.event) (runs : Runs (step b s.event) ss b') (none : held_among ss ≡ []) where
    abbrev going : List Followed
    going = filter goes_on (moved s ps)

    -- from the next book on
    on : AreIn (followed_on ps s ss) (step b s.event) → Runs (without_all (followed_on ps s ss) (step b s.event)) (remaining_from (followed_on ps s ss) ss) b'
    on next = further (followed_on ps s ss) (step b s.event) b' (sound_step b s.event sound) next (stands_next us ps s ss stands are_all) are_all.1 runs none

    -- no attempt that settles opens
    module _ (is : settling s ss ≡ None) where
      same_next : followed_on ps s ss ≡ going
      same_next = ap (λ o. going ++ option_to_list o) is ∙ append-nil going

      nothing_opens : AllStay ps b s ⊎ OneGoes ps b s → Runs (without_all ps b) (remaining_from ps (s ∷ ss)) b'
      nothing_opens (inl all) =
          let next : AreIn (followed_on ps s ss) (step b s.event) = subst (λ qs. AreIn qs (step b s.event)) (sym same_next) (are_in_going (moved s ps) (step b s.event) all.are_in) in
          let book : without_all (followed_on ps s ss) (step b s.event) ≡ step (without_all ps b) s.event
          = ap (λ qs. without_all qs (step b s.event)) same_next ∙ without_going (moved s ps) (step b s.event) ∙ all.book in
          let test : remains ps s ss ≡ true = and_from (is_none (settling s ss)) (list_all (λ p. stays p s) ps) (ap is_none is) all.stay in
          subst (λ q. Runs (without_all ps b) (cond q (s ∷ remaining_from (followed_on ps s ss) ss) (remaining_from (followed_on ps s ss) ss)) b') (sym test)
          (answered ∙ all.reply, subst (λ v. Runs v (remaining_from (followed_on ps s ss) ss) b') book (on next))
      nothing_opens (inr one) =
          let next : AreIn (followed_on ps s ss) (step b s.event) = subst (λ qs. AreIn qs (step b s.event)) (sym same_next) (are_in_going (moved s ps) (step b s.event) one.are_in) in
          let book : without_all (followed_on ps s ss) (step b s.event) ≡ without_all ps b
          = ap (λ qs. without_all qs (step b s.event)) same_next ∙ without_going (moved s ps) (step b s.event) ∙ one.book in
          let test : remains ps s ss ≡ false = and_right (is_none (settling s ss)) (list_all (λ p. stays p s) ps) one.stay in
          subst (λ q. Runs (without_all ps b) (cond q (s ∷ remaining_from (followed_on ps s ss) ss) (remaining_from (followed_on ps s ss) ss)) b') (sym test)
          (subst (λ v. Runs v (remaining_from (followed_on ps s ss) ss) b') book (on next))

    -- one opens
    module _ (q : Followed) (is : settling s ss ≡ Some q) where
      opens : IsOpening s q
      opens = opens_with s ss q is

      same_with : followed_on ps s ss ≡ going ++ (q ∷ [])
      same_with = ap (λ o. going ++ option_to_list o) is

      one_opens : AllStay ps b s ⊎ OneGoes ps b s → Runs (without_all ps b) (remaining_from ps (s ∷ ss)) b'
      one_opens (inl all) =
          let m : State = without_all ps b in
          let accepted : IsTrue (is_accepted (reply_to m s.event)) = subst (λ reply. IsTrue (is_accepted reply)) (answered ∙ all.reply) opens.accepted in
          let adds = openings_add_the_attempt s.event q.call q.target m (sound_all ps b sound are_in) opens.opens accepted in
          let rest : without_all going (step b s.event) ≡ step m s.event = without_going (moved s ps) (step b s.event) ∙ all.book in
          let here : IsIn q (without_all going (step b s.event)) = subst (IsIn q) (sym rest) (subst (λ p. IsIn p (step m s.event)) (sym opens.begins) adds.opened) in
          let next : AreIn (followed_on ps s ss) (step b s.event)
          = subst (λ qs. AreIn qs (step b s.event)) (sym same_with) (are_in_more going q (step b s.event) (are_in_going (moved s ps) (step b s.event) all.are_in) here) in
          let book : without_all (followed_on ps s ss) (step b s.event) ≡ m
          = ap (λ qs. without_all qs (step b s.event)) same_with ∙ without_more going q (step b s.event) ∙ ap (without q) rest ∙ ap (λ p. without p (step m s.event)) opens.begins ∙ adds.rest in
          let test : remains ps s ss ≡ false = ap (λ o. is_none o && list_all (λ p. stays p s) ps) is in
          subst (λ t. Runs m (cond t (s ∷ remaining_from (followed_on ps s ss) ss) (remaining_from (followed_on ps s ss) ss)) b') (sym test)
          (subst (λ v. Runs v (remaining_from (followed_on ps s ss) ss) b') book (on next))
      one_opens (inr one) = absurd (one.opens_none q.call q.target opens.opens opens.accepted)

    by : (o : Option Followed) → settling s ss ≡ o → AllStay ps b s ⊎ OneGoes ps b s → Runs (without_all ps b) (remaining_from ps (s ∷ ss)) b'
    by None is step_of = nothing_opens is step_of
    by (Some q) is step_of = one_opens q is step_of

  -- a followed attempt ends properly
  ends_properly : (ps : List Followed) (s : StepAt) (ss : List StepAt) → Stands us ps (s ∷ ss) → All (λ p. EndsProperly p s) ps
  ends_properly ps s ss stands =
      All-weaker (λ p. (u : Undone) × Contains us u × Follows u p (s ∷ ss)) (λ p. EndsProperly p s) (λ p of. of.2.0.proper) ps stands.followed

  pub lead_on : (ss : List StepAt) → LeadsOn ss
  lead_on [] ps b b' sound are_in stands are_all runs none = runs ∙ sym (without_settled us ps b stands.followed)
  lead_on (s ∷ ss) ps b b' sound are_in stands are_all runs none =
      let found = none_found (list_any (λ u. stands_in (held_refusals u) s) us) s (held_among ss) none in
      by s ss (lead_on ss) ps b b' sound are_in stands are_all runs.0 runs.1 found.1 (settling s ss) refl
      (one_step ps b s sound are_in runs.0 (ends_properly ps s ss stands) (sym (held_same us ps s ss stands are_all) ∙ found.0))
