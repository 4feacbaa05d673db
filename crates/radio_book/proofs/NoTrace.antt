-- An undone attempt leaves no trace: its list of events, part by part, runs alike without it.
use Rattle.std.proofs.Common.{◌≡◌, ◌⊎◌, inl, inr, ℕ, Bool, true, false, not, ◌||◌, if◌then◌else◌, IsTrue, List, [], ◌∷◌, ◌++◌, map as each, Option, Some, None, refl, sym, ◌∙◌, ap, subst}
use Rattle.std.specs.Prelude.{filter, slice_get}
use Rattle.std.specs.List.{list_any}
use Rattle.std.specs.Option.{option_map}
use Rattle.std.specs.FinMap as map
use Rattle.channel_fsm.specs.declared.ChanId.{ChanId}
use Rattle.channel_fsm.specs.declared.ChanState.{ChanState}
use Rattle.channel_fsm.specs.declared.ChanState.TheVariants.{Free, Held, Pending, On, Off}
use Rattle.radio_tables.specs.declared.kinds.Attempt.{Attempt}
use Rattle.radio_tables.specs.declared.kinds.CallRecord.{CallRecord}
use Rattle.radio_book.specs.declared.event.Event.{Event}
use Rattle.radio_book.specs.declared.event.Event.TheVariants as event
use Rattle.radio_book.specs.declared.event.Refusal.{Refusal}
use Rattle.radio_book.specs.declared.event.Refusal.TheVariants.{WrongPhase, NotArmed}
use Rattle.radio_book.specs.declared.event.Why.{Why}
use Rattle.radio_book.specs.declared.event.Why.TheVariants.{Asked, Expired}
use Rattle.radio_book.specs.declared.event.Reply.{Reply}
use Rattle.radio_book.specs.declared.undone.StepAt.{StepAt}
use Rattle.radio_book.specs.State.{State, apply, or_free, state_of, record_of}
use Rattle.radio_book.specs.Table.{step, reply_of, reply_to, book_after, undo_row, undo_by, undo_attempt, is_armed, undo_change, left_state, needs}
use Rattle.radio_book.specs.Sound.{IsSound}
use Rattle.radio_book.specs.Run.{run_book, run_replies}
use Rattle.radio_book.specs.Kinds.{Undoes, is_accepted}
use Rattle.radio_book.specs.Others.{without_channel, without_attempt_of, IsOpen}
use Rattle.radio_book.specs.Undone.{Undone, IsUndoneAttempt, first_held, held_refusals, places_of, events_of, is_settled, steps_from, is_off, is_target_off, is_on_target, releases, refused_for, up_to_first, after_first, awaiting, settled_tail, others, others_between, others_awaiting, reference_reserved, reserves}
use Rattle.radio_book.specs.NoTrace.{UndoneAttemptsLeaveNoTrace}
use Rattle.radio_tables.proofs.KeyFacts.{chan_total, chan_exact}
use Rattle.radio_tables.proofs.MapFacts.{put_again, channel_same}
use Rattle.radio_book.proofs.SoundSteps.{sound_step}
use Rattle.radio_book.proofs.OthersPhases.{undone_is_removed}
use Rattle.radio_book.proofs.OwnSteps.{openings_add_the_attempt}
use Rattle.radio_book.proofs.StepFacts.{Runs, runs_from, runs_on, runs_parts, run_of, sound_after}
use Rattle.radio_book.proofs.Answered.{IsAnswered, all_answered, at_places, of_others}
use Rattle.radio_book.proofs.OpenPhase.{without_is, without_reference}
use Rattle.radio_book.proofs.OffPhase.{leads_off}

-- the undo of an open attempt
module _ (c : ℕ) (r : CallRecord) (a : Attempt) (b : State) (is : record_of b c ≡ Some r) (has : r.attempt ≡ Some a) where
  abbrev undone : State
  undone = apply (undo_change c r a (state_of b) (map.get b.timers c)) b

  by_attempt : (refusal : Refusal) → book_after (undo_attempt c refusal r r.attempt (state_of b) (map.get b.timers c)) b ≡ undone
  by_attempt refusal = ap (λ o. book_after (undo_attempt c refusal r o (state_of b) (map.get b.timers c)) b) has

  guarded : (armed : Bool) → IsTrue (is_accepted (reply_of (needs armed NotArmed (undo_attempt c NotArmed r r.attempt (state_of b) (map.get b.timers c))))) →
      book_after (needs armed NotArmed (undo_attempt c NotArmed r r.attempt (state_of b) (map.get b.timers c))) b ≡ undone
  guarded true accepted = by_attempt NotArmed
  guarded false accepted = cc

  by_why : (why : Why) → IsTrue (is_accepted (reply_of (undo_by c why r (state_of b) (map.get b.timers c)))) → book_after (undo_by c why r (state_of b) (map.get b.timers c)) b ≡ undone
  by_why Asked accepted = by_attempt WrongPhase
  by_why (Expired m) accepted = guarded (is_armed m (map.get b.timers c)) accepted

  undone_step : (why : Why) → IsTrue (is_accepted (reply_to b (event.Undo c why))) → step b (event.Undo c why) ≡ undone
  undone_step why = subst (λ f. IsTrue (is_accepted (reply_of (undo_row c why f (state_of b) (map.get b.timers c)))) → book_after (undo_row c why f (state_of b) (map.get b.timers c)) b ≡ undone) (sym is) (by_why why)

-- an undo leaves a channel off, or free
left_cases : (s : ChanState) → (left_state s ≡ None) ⊎ (left_state s ≡ Some Off)
left_cases Free = inl refl
left_cases (Held c) = inl refl
left_cases (Pending c) = inr refl
left_cases (On c) = inr refl
left_cases Off = inr refl

-- after the undo nothing is left of the attempt, or its target alone, which is off
abbrev pub IsOver : Option ChanId → State → State → Type 0
IsOver target b without = (is_target_off b target ≡ false) × (without ≡ b)

abbrev pub IsAwaited : Option ChanId → State → State → Type 0
IsAwaited target b without = (t : ChanId) × (target ≡ Some t) × (state_of b t ≡ Off) × (without ≡ apply (without_channel (Some t)) b)

module _ (c : ℕ) (target : Option ChanId) (number : Option ℕ) (b : State) (opened : IsOpen c target number b) (why : Why) (accepted : IsTrue (is_accepted (reply_to b (event.Undo c why)))) where
  abbrev pub after : State
  after = step b (event.Undo c why)

  taken_back : after ≡ undone c opened.call_record opened.attempt b opened.of_call opened.of_record
  taken_back = undone_step c opened.call_record opened.attempt b opened.of_call opened.of_record why accepted

  but_target : without_attempt_of c b ≡ apply (without_channel target) after
  but_target =
      without_is c opened.call_record opened.attempt b opened.of_call opened.of_record
      ∙ sym (undone_is_removed c opened.call_record opened.attempt b)
      ∙ (λ i. apply (without_channel (opened.aims i)) (sym taken_back i))

  -- the entry of the target
  pub left : (t : ChanId) → target ≡ Some t → map.get after.channels t ≡ left_state (state_of b t)
  left t aims =
      ap (λ v. map.get v.channels t) taken_back
      ∙ ap (λ o. map.get (apply (record (undo_change c opened.call_record opened.attempt (state_of b) (map.get b.timers c)) { channel = option_map (λ (x : ChanId). (x, left_state (state_of b x))) o }) b).channels t) (opened.aims ∙ aims)
      ∙ channel_same b.channels t (left_state (state_of b t))

  of_target : (o : Option ChanId) → target ≡ o → IsOver target after (without_attempt_of c b) ⊎ IsAwaited target after (without_attempt_of c b)
  of_target None aims = inl (ap (is_target_off after) aims, but_target ∙ ap (λ o. apply (without_channel o) after) aims)
  of_target (Some t) aims = elim (left_cases (state_of b t)) [
    | inl gone ↦ inl (
      ap (is_target_off after) aims ∙ ap (λ o. is_off (or_free o)) (left t aims ∙ gone),
      but_target ∙ ap (λ o. apply (without_channel o) after) aims
          ∙ (λ i. record { site = after.site; channels = put_again chan_total chan_exact after.channels t None (left t aims ∙ gone) i; calls = after.calls; references = after.references; timers = after.timers }),
    )
    | inr off ↦ inr (t, aims, ap or_free (left t aims ∙ off), but_target ∙ ap (λ o. apply (without_channel o) after) aims)
  ]

pub after_undo : (c : ℕ) (target : Option ChanId) (number : Option ℕ) (b : State) → IsOpen c target number b → (e : Event) → Undoes c e → IsTrue (is_accepted (reply_to b e)) →
    IsOver target (step b e) (without_attempt_of c b) ⊎ IsAwaited target (step b e) (without_attempt_of c b)
after_undo c target number b opened e (why, same) =
    subst (λ e. IsTrue (is_accepted (reply_to b e)) → IsOver target (step b e) (without_attempt_of c b) ⊎ IsAwaited target (step b e) (without_attempt_of c b)) (sym same)
    (λ accepted. of_target c target number b opened why accepted target refl)

-- what follows the undo, where its target is off
tail_awaited : (t : ChanId) (tail : List StepAt) (awaited : Bool) (b b' : State) → IsSound b → state_of b t ≡ Off → Runs b tail b' → awaited ≡ true →
    not awaited || list_any (releases (Some t)) tail ≡ true →
    refused_for (Some t) None (filter (λ s. not (is_on_target (Some t) s)) (if awaited then up_to_first (releases (Some t)) tail else [])) ≡ [] →
    Runs (apply (without_channel (Some t)) b) (filter (λ s. not (is_on_target (Some t) s)) (if awaited then up_to_first (releases (Some t)) tail else []) ++ (if awaited then after_first (releases (Some t)) tail else tail)) b'
tail_awaited t tail true b b' sound off runs waits settled none = leads_off t tail b b' sound off runs settled none
tail_awaited t tail false b b' sound off runs waits settled none = cc

-- and where nothing is left
tail_over : (target : Option ChanId) (tail : List StepAt) (awaited : Bool) (b b' : State) → Runs b tail b' → awaited ≡ false →
    Runs b (filter (λ s. not (is_on_target target s)) (if awaited then up_to_first (releases target) tail else []) ++ (if awaited then after_first (releases target) tail else tail)) b'
tail_over target tail true b b' runs over = cc
tail_over target tail false b b' runs over = runs

module _ (u : Undone) (b b' without : State) (sound : IsSound b) (runs : Runs b u.tail b') (waits : u.awaited ≡ is_target_off b u.target) where
  -- what the tail without the attempt's steps leads to
  abbrev TailLeads : Option ChanId → State → Type 0
  TailLeads target v =
      not u.awaited || list_any (releases target) u.tail ≡ true →
      refused_for target None (filter (λ s. not (is_on_target target s)) (if u.awaited then up_to_first (releases target) u.tail else [])) ≡ [] →
      Runs v (filter (λ s. not (is_on_target target s)) (if u.awaited then up_to_first (releases target) u.tail else []) ++ (if u.awaited then after_first (releases target) u.tail else u.tail)) b'

  tail_leads : IsOver u.target b without ⊎ IsAwaited u.target b without → TailLeads u.target without
  tail_leads (inl over) = subst (TailLeads u.target) (sym over.1) (λ settled none. tail_over u.target u.tail u.awaited b b' runs (waits ∙ over.0))
  tail_leads (inr (t, aims, off, same)) =
      let waited : u.awaited ≡ true = waits ∙ ap (is_target_off b) aims ∙ ap is_off off in
      subst (TailLeads u.target) (sym same)
      (subst (λ target. TailLeads target (apply (without_channel (Some t)) b)) (sym aims) (λ settled none. tail_awaited t u.tail u.awaited b b' sound off runs waited settled none))

-- two lists without an element
none_in : {X : Type 0} (xs ys : List X) → xs ++ ys ≡ [] → (xs ≡ []) × (ys ≡ [])
none_in [] ys none = (refl, none)
none_in (x ∷ xs) ys none = cc

pub no_trace : UndoneAttemptsLeaveNoTrace
no_trace b sound es u is settled held =
    let parts = is.among in
    let runs : Runs b (u.head ++ (u.opening ∷ (u.between ++ (u.undo ∷ u.tail)))) (run_book b es) = subst (λ ss. Runs b ss (run_book b es)) parts.parts (runs_from 0 b es) in
    -- the books between the parts
    let (b1, head, from_opening) = runs_parts u.head (u.opening ∷ (u.between ++ (u.undo ∷ u.tail))) b (run_book b es) runs in
    let b2 : State = step b1 u.opening.event in
    let (b3, between, from_undo) = runs_parts u.between (u.undo ∷ u.tail) b2 (run_book b es) from_opening.1 in
    let b4 : State = step b3 u.undo.event in
    let sound1 : IsSound b1 = sound_after u.head b b1 head sound in
    let sound2 : IsSound b2 = sound_step b1 u.opening.event sound1 in
    let sound3 : IsSound b3 = sound_after u.between b2 b3 between sound2 in
    -- the opening, what came between, and the undo
    let adds = openings_add_the_attempt u.opening.event u.call u.target b1 sound1 parts.opens (subst (λ reply. IsTrue (is_accepted reply)) from_opening.0 parts.opening_accepted) in
    let before = none_in (refused_for u.target None (others_between u (up_to_first (reserves u.call) u.between)))
    (refused_for u.target (reference_reserved u) (others_between u (after_first (reserves u.call) u.between)) ++ refused_for u.target None (others_awaiting u (awaiting u))) held in
    let later = none_in (refused_for u.target (reference_reserved u) (others_between u (after_first (reserves u.call) u.between))) (refused_for u.target None (others_awaiting u (awaiting u))) before.1 in
    let leads = without_reference u.call u.target u.between b2 b3 sound2 adds.opened between parts.stays_open before.0 later.0 in
    let over : IsOver u.target b4 (without_attempt_of u.call b3) ⊎ IsAwaited u.target b4 (without_attempt_of u.call b3)
    = after_undo u.call u.target leads.number b3 leads.opened u.undo.event parts.undoes (subst (λ reply. IsTrue (is_accepted reply)) from_undo.0 parts.undo_accepted) in
    -- the book right after the undo is this one
    let up_to_undo : Runs b (u.head ++ (u.opening ∷ (u.between ++ (u.undo ∷ [])))) b4
    = runs_on u.head (u.opening ∷ (u.between ++ (u.undo ∷ []))) b b1 b4 head (from_opening.0, runs_on u.between (u.undo ∷ []) b2 b3 b4 between (from_undo.0, refl)) in
    let waits : u.awaited ≡ is_target_off b4 u.target = is.awaited ∙ ap (λ v. is_target_off v u.target) (sym (run_of (u.head ++ (u.opening ∷ (u.between ++ (u.undo ∷ [])))) b b4 up_to_undo).0) in
    let tail : Runs (without_attempt_of u.call b3) (others_awaiting u (awaiting u) ++ settled_tail u) (run_book b es)
    = tail_leads u b4 (run_book b es) (without_attempt_of u.call b3) (sound_step b3 u.undo.event sound3) from_undo.1 waits over settled later.1 in
    let all : Runs b (others u) (run_book b es)
    = runs_on u.head (others_between u u.between ++ (others_awaiting u (awaiting u) ++ settled_tail u)) b b1 (run_book b es) head
    (runs_on (others_between u u.between) (others_awaiting u (awaiting u) ++ settled_tail u) b1 (without_attempt_of u.call b3) (run_book b es)
    (subst (λ v. Runs v (others_between u u.between) (without_attempt_of u.call b3)) adds.rest leads.alike) tail) in
    let answered = run_of (others u) b (run_book b es) all in
    record {
      book = answered.0;
      replies = at_places (run_replies b es) (others u) (of_others (IsAnswered (run_replies b es)) (steps_from 0 b es) u parts (all_answered b es)) ∙ ap (each Some) answered.1;
    }

-- where no held refusal is the first, there is none
none_first : (ss : List StepAt) → option_map (λ (s : StepAt). s.place) (slice_get ss 0) ≡ None → ss ≡ []
none_first [] none = refl
none_first (s ∷ ss) none = cc

-- books and replies of a list with an undone attempt, and of the list without it, agree as they are answered
pub same_without :
    (b : State) (es : List Event) (u : Undone) (whole without : State) (whole_replies without_replies : List Reply) (places : List ℕ) →
    IsSound b → IsUndoneAttempt b es u →
    whole ≡ run_book b es → whole_replies ≡ run_replies b es →
    places ≡ places_of (others u) → without ≡ run_book b (events_of (others u)) → without_replies ≡ run_replies b (events_of (others u)) →
    is_settled u ≡ true → first_held u ≡ None →
    (whole ≡ without) × (each (slice_get whole_replies) places ≡ each Some without_replies)
same_without b es u whole without whole_replies without_replies places sound is whole_is replies_are places_are without_is left_are settled held =
    let same = no_trace b sound es u is settled (none_first (held_refusals u) held) in
    (whole_is ∙ same.book ∙ sym without_is, (λ i. each (slice_get (replies_are i)) (places_are i)) ∙ same.replies ∙ ap (each Some) (sym left_are))
