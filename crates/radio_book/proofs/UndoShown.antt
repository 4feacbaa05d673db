-- The record that an undo shows says whether its target is left off.
use Rattle.std.proofs.Common.{◌≡◌, ℕ, Bool, true, false, IsTrue, List, [], ◌∷◌, ◌++◌, Option, Some, None, refl, sym, ◌∙◌, ap, subst}
use Rattle.std.specs.Prelude.{All}
use Rattle.std.specs.FinMap as map
use Rattle.std.proofs.lemmas.List.Elements.{All-head, All-tail}
use Rattle.channel_fsm.specs.declared.ChanId.{ChanId}
use Rattle.channel_fsm.specs.declared.ChanState.{ChanState}
use Rattle.channel_fsm.specs.declared.ChanState.TheVariants.{Held, Pending, On}
use Rattle.radio_tables.specs.declared.kinds.Attempt.{Attempt}
use Rattle.radio_tables.specs.declared.kinds.CallRecord.{CallRecord}
use Rattle.radio_book.specs.declared.event.Event.{Event}
use Rattle.radio_book.specs.declared.event.Event.TheVariants as event
use Rattle.dense_tables.specs.declared.references.Reference.{Reference}
use Rattle.radio_book.specs.declared.event.Refusal.{Refusal}
use Rattle.radio_book.specs.declared.event.Refusal.TheVariants.{WrongPhase, NotArmed}
use Rattle.radio_book.specs.declared.event.Reply.{Reply}
use Rattle.radio_tables.specs.declared.kinds.Stage.{Stage}
use Rattle.radio_tables.specs.declared.kinds.Stage.TheVariants.{Taken, Reserved, Sent, Refused, Confirmed, Commanded, Detected, Required, Ordered}
use Rattle.radio_book.specs.declared.event.Why.{Why}
use Rattle.radio_book.specs.declared.event.Why.TheVariants.{Asked, Expired}
use Rattle.radio_book.specs.declared.undone.StepAt.{StepAt}
use Rattle.radio_book.specs.State.{State, or_free, state_of}
use Rattle.radio_tables.specs.Stages.{stage_row}
use Rattle.radio_book.specs.Table.{step, reply_of, reply_to, reference_held, left_state, needs, is_armed, undo_row, undo_by, undo_attempt}
use Rattle.radio_book.specs.Sound.{IsSound, HasTarget}
use Rattle.radio_book.specs.Run.{run_book}
use Rattle.radio_book.specs.Kinds.{Undoes, is_accepted}
use Rattle.radio_book.specs.Others.{IsHeldReference, IsOpen, number_after}
use Rattle.radio_book.specs.Undone.{Undone, IsUndoneAttempt, Ends, is_off, is_target_off}
use Rattle.radio_book.specs.Following.{may_be_active, leaves_off}
use Rattle.radio_book.proofs.SoundSteps.{sound_step}
use Rattle.radio_book.proofs.OwnSteps.{openings_add_the_attempt}
use Rattle.radio_book.proofs.StepFacts.{Runs, runs_from, runs_on, runs_parts, run_of, sound_after}
use Rattle.radio_book.proofs.OpenPhase.{is_kept, kept_is_other, left_is_own, own_goes, other_alike}
use Rattle.radio_book.proofs.NoTrace.{left}
use Rattle.radio_book.proofs.Refusing.{refused_stays}

-- AN ATTEMPT STAYS OPEN

not_held : (o : Option Reference) (reply : Reply) → is_accepted reply ≡ true → IsHeldReference o reply → ⊥
not_held None reply accepted held = held
not_held (Some k) reply accepted held = let bad : false ≡ true = sym (ap is_accepted held) ∙ accepted in cc

module _ (c : ℕ) (target : Option ChanId) where
  still_open : (number : Option ℕ) (b : State) (s : StepAt) → IsSound b → IsOpen c target number b → s.reply ≡ reply_to b s.event → (Ends c s → ⊥) →
      (n : Option ℕ) × IsOpen c target n (step b s.event)
  still_open number b s sound opened answered goes_on = by (is_kept c target s) refl
    where
      -- a step of others, which is accepted, or changes nothing
      as_before : (q : Bool) → is_accepted (reply_to b s.event) ≡ q → is_kept c target s ≡ true → IsOpen c target number (step b s.event)
      as_before false refused kept = subst (IsOpen c target number) (sym (refused_stays b s.event refused)) opened
      as_before true accepted kept =
          let other = kept_is_other c target s kept in
          (other_alike c target number b s.event sound opened other.0
          (λ t aims. record { event = other.1 t aims; reply = λ held. let bad : false ≡ true = sym (ap is_accepted held) ∙ accepted in cc })
          (not_held (reference_held target number) (reply_to b s.event) accepted)).opened

      by : (q : Bool) → is_kept c target s ≡ q → (n : Option ℕ) × IsOpen c target n (step b s.event)
      by true kept = (number, as_before (is_accepted (reply_to b s.event)) refl kept)
      by false left = (number_after number s.event (reply_to b s.event), (own_goes c target number b s [] b sound opened answered goes_on (left_is_own c target s left)).opened)

  pub open_along : (ss : List StepAt) (number : Option ℕ) (b b' : State) → IsSound b → IsOpen c target number b → Runs b ss b' → All (λ s. Ends c s → ⊥) ss →
      (n : Option ℕ) × IsOpen c target n b'
  open_along [] number b b' sound opened runs goes_on = (number, subst (IsOpen c target number) (sym runs) opened)
  open_along (s ∷ ss) number b b' sound opened runs goes_on =
      let next = still_open number b s sound opened runs.0 (All-head (λ s. Ends c s → ⊥) s ss goes_on) in
      open_along ss next.0 (step b s.event) b' (sound_step b s.event sound) next.1 runs.1 (All-tail (λ s. Ends c s → ⊥) s ss goes_on)

-- WHAT IS LEFT OF THE TARGET

abbrev off_left : Option ChanId → (ChanId → ChanState) → Bool
off_left None look = false
off_left (Some t) look = is_off (or_free (left_state (look t)))

-- by the state that a stage says
by_state : (target : Option ChanId) (look : ChanId → ChanState) (c : ℕ) (state : ℕ → ChanState) (q : Bool) → is_off (or_free (left_state (state c))) ≡ q → HasTarget c (Some state) target look → q ≡ off_left target look
by_state None look c state q left has = absurd has
by_state (Some t) look c state q left has = sym left ∙ ap (λ s. is_off (or_free (left_state s))) (sym has)

by_none : (target : Option ChanId) (look : ChanId → ChanState) (c : ℕ) → HasTarget c None target look → false ≡ off_left target look
by_none None look c has = refl
by_none (Some t) look c has = absurd has

by_stage : (g : Stage) (c : ℕ) (target : Option ChanId) (look : ChanId → ChanState) → HasTarget c (stage_row g).target target look → (stage_row g).may_be_active ≡ off_left target look
by_stage Taken c target look has = by_state target look c Held false refl has
by_stage Reserved c target look has = by_state target look c Held false refl has
by_stage Sent c target look has = by_state target look c Pending true refl has
by_stage Refused c target look has = by_state target look c Held false refl has
by_stage Confirmed c target look has = by_state target look c On true refl has
by_stage Commanded c target look has = by_state target look c On true refl has
by_stage Detected c target look has = by_state target look c On true refl has
by_stage Required c target look has = by_none target look c has
by_stage Ordered c target look has = by_none target look c has

-- WHAT AN UNDO SHOWS

module _ (c : ℕ) (target : Option ChanId) (number : Option ℕ) (b : State) (sound : IsSound b) (opened : IsOpen c target number b) where
  abbrev r : CallRecord
  r = opened.call_record

  abbrev a : Attempt
  a = opened.attempt

  abbrev Shows : Reply → Type 0
  Shows reply = leaves_off reply ≡ (stage_row a.stage).may_be_active

  by_attempt : (refusal : Refusal) → Shows (reply_of (undo_attempt c refusal r r.attempt (state_of b) (map.get b.timers c)))
  by_attempt refusal =
      ap (λ o. leaves_off (reply_of (undo_attempt c refusal r o (state_of b) (map.get b.timers c)))) opened.of_record ∙ ap may_be_active opened.of_record

  guarded : (armed : Bool) → IsTrue (is_accepted (reply_of (needs armed NotArmed (undo_attempt c NotArmed r r.attempt (state_of b) (map.get b.timers c))))) →
      Shows (reply_of (needs armed NotArmed (undo_attempt c NotArmed r r.attempt (state_of b) (map.get b.timers c))))
  guarded true accepted = by_attempt NotArmed
  guarded false accepted = cc

  by_why : (why : Why) → IsTrue (is_accepted (reply_of (undo_by c why r (state_of b) (map.get b.timers c)))) → Shows (reply_of (undo_by c why r (state_of b) (map.get b.timers c)))
  by_why Asked accepted = by_attempt WrongPhase
  by_why (Expired m) accepted = guarded (is_armed m (map.get b.timers c)) accepted

  shows : (why : Why) → IsTrue (is_accepted (reply_to b (event.Undo c why))) → Shows (reply_to b (event.Undo c why))
  shows why = subst (λ f. IsTrue (is_accepted (reply_of (undo_row c why f (state_of b) (map.get b.timers c)))) → Shows (reply_of (undo_row c why f (state_of b) (map.get b.timers c)))) (sym opened.of_call) (by_why why)

  off_after : (why : Why) → IsTrue (is_accepted (reply_to b (event.Undo c why))) → (o : Option ChanId) → target ≡ o → is_target_off (step b (event.Undo c why)) o ≡ off_left o (state_of b)
  off_after why accepted None aims = refl
  off_after why accepted (Some t) aims = ap (λ e. is_off (or_free e)) (left c target number b opened why accepted t aims)

  of_event : (e : Event) → Undoes c e → IsTrue (is_accepted (reply_to b e)) → leaves_off (reply_to b e) ≡ is_target_off (step b e) target
  of_event e (why, same) =
      subst (λ e. IsTrue (is_accepted (reply_to b e)) → leaves_off (reply_to b e) ≡ is_target_off (step b e) target) (sym same)
      (λ accepted. shows why accepted ∙ by_stage a.stage c a.target (state_of b) (sound.target_by_stage c r a opened.of_call opened.of_record)
      ∙ ap (λ o. off_left o (state_of b)) opened.aims ∙ sym (off_after why accepted target refl))

pub undo_shows : (c : ℕ) (target : Option ChanId) (number : Option ℕ) (b : State) → IsSound b → IsOpen c target number b → (e : Event) → Undoes c e → IsTrue (is_accepted (reply_to b e)) →
    leaves_off (reply_to b e) ≡ is_target_off (step b e) target
undo_shows c target number b sound opened e undoes accepted = of_event c target number b sound opened e undoes accepted

pub awaited_shown : (b : State) (es : List Event) (u : Undone) → IsSound b → IsUndoneAttempt b es u → u.awaited ≡ leaves_off u.undo.reply
awaited_shown b es u sound is =
    let parts = is.among in
    let runs : Runs b (u.head ++ (u.opening ∷ (u.between ++ (u.undo ∷ u.tail)))) (run_book b es) = subst (λ ss. Runs b ss (run_book b es)) parts.parts (runs_from 0 b es) in
    let (b1, head, from_opening) = runs_parts u.head (u.opening ∷ (u.between ++ (u.undo ∷ u.tail))) b (run_book b es) runs in
    let b2 : State = step b1 u.opening.event in
    let (b3, between, from_undo) = runs_parts u.between (u.undo ∷ u.tail) b2 (run_book b es) from_opening.1 in
    let b4 : State = step b3 u.undo.event in
    let sound1 : IsSound b1 = sound_after u.head b b1 head sound in
    let sound2 : IsSound b2 = sound_step b1 u.opening.event sound1 in
    let sound3 : IsSound b3 = sound_after u.between b2 b3 between sound2 in
    let adds = openings_add_the_attempt u.opening.event u.call u.target b1 sound1 parts.opens (subst (λ reply. IsTrue (is_accepted reply)) from_opening.0 parts.opening_accepted) in
    let opened = open_along u.call u.target u.between None b2 b3 sound2 adds.opened between parts.stays_open in
    let up_to_undo : Runs b (u.head ++ (u.opening ∷ (u.between ++ (u.undo ∷ [])))) b4
    = runs_on u.head (u.opening ∷ (u.between ++ (u.undo ∷ []))) b b1 b4 head (from_opening.0, runs_on u.between (u.undo ∷ []) b2 b3 b4 between (from_undo.0, refl)) in
    is.awaited ∙ ap (λ v. is_target_off v u.target) (sym (run_of (u.head ++ (u.opening ∷ (u.between ++ (u.undo ∷ [])))) b b4 up_to_undo).0)
    ∙ sym (undo_shows u.call u.target opened.0 b3 sound3 opened.1 u.undo.event parts.undoes (subst (λ reply. IsTrue (is_accepted reply)) from_undo.0 parts.undo_accepted))
    ∙ ap leaves_off (sym from_undo.0)
