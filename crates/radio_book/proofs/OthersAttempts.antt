-- Take, Reserve, Activate and Undo by another call agree, whatever is gone.
use Rattle.std.proofs.Common.{◌≡◌, ℕ, Bool, true, false, Option, Some, None, refl, ap, ◌∙◌, ◌==◌}
use Rattle.std.specs.Option.{option_map}
use Rattle.std.specs.FinMap as map
use Rattle.channel_fsm.specs.declared.ChanId.{ChanId}
use Rattle.channel_fsm.specs.declared.ChanState.{ChanState}
use Rattle.channel_fsm.specs.declared.ChanState.TheVariants.{Free, Held, Pending, On, Off}
use Rattle.radio_tables.specs.declared.kinds.AttemptKind.TheVariants.{Incoming}
use Rattle.radio_book.specs.declared.event.Kind.{Kind}
use Rattle.radio_book.specs.declared.event.Kind.TheVariants as kind
use Rattle.attempt_journal.specs.declared.Timer.{Timer}
use Rattle.radio_book.specs.declared.event.Why.{Why}
use Rattle.radio_book.specs.declared.event.Why.TheVariants.{Asked, Expired}
use Rattle.radio_tables.specs.declared.kinds.Stage.{Stage}
use Rattle.radio_tables.specs.declared.kinds.Stage.TheVariants as stage
use Rattle.radio_tables.specs.declared.kinds.Attempt.{Attempt}
use Rattle.radio_tables.specs.declared.kinds.CallRecord.{CallRecord}
use Rattle.dense_tables.specs.declared.references.Reference.{Reference}
use Rattle.radio_book.specs.declared.event.Event.TheVariants as event
use Rattle.radio_book.specs.declared.event.Refusal.{Refusal}
use Rattle.radio_book.specs.declared.event.Refusal.TheVariants.{NoCall, WrongPhase, NoChannel, SameCell, ChannelBusy, RefBusy, NotArmed}
use Rattle.radio_book.specs.declared.event.Reply.TheVariants.{Record, Refused}
use Rattle.cell_table.specs.Site.{is_traffic}
use Rattle.radio_book.specs.State.{State, Change, apply, state_of, record_of}
use Rattle.radio_book.specs.Table.{in_way, Accepts, reply_of, undo_row, undo_attempt, is_armed, left_state, resting_record, reference_held, taken_attempt, take_row, reserve_row, reference_at, activate_row, needs}
use Rattle.radio_book.specs.Sound.{IsSound, reference_of}
use Rattle.radio_book.proofs.Rows.{take_at, take_from, reserve_by, reserve_at, reserve_number, activate_by, activate_at}
use Rattle.radio_book.proofs.Changes.{Misses, option_apart, record_kept, state_kept, user_kept, timer_kept}
use Rattle.radio_book.proofs.Agreement.{Agrees, refused, as_read, Hides, AgreesWithOthers, requires_free, states_kept, serving_missed, target_missed}
use Rattle.radio_book.proofs.OthersCalls.{begin_agrees}

-- Take
module _ (removal : Change) (b : State) (hides : Hides removal b) (d : ℕ) (y : ChanId) (other : Misses removal.call d) where
  from_agrees : (r : CallRecord) (serving : ChanState) (traffic same : Bool) →
      ((w : ChanId) → reply_of (take_from d y r serving traffic same (in_way b y)) ≡ Refused (ChannelBusy w) → Misses removal.channel w) →
      Agrees removal (take_from d y r serving traffic same (in_way b y)) (take_from d y r serving traffic same (in_way (apply removal b) y))
  from_agrees r Free traffic same h = refused removal WrongPhase
  from_agrees r (Held c) traffic same h = refused removal WrongPhase
  from_agrees r (Pending c) traffic same h = refused removal WrongPhase
  from_agrees r Off traffic same h = refused removal WrongPhase
  from_agrees r (On c) false same h = refused removal NoChannel
  from_agrees r (On c) true true h = refused removal SameCell
  from_agrees r (On c) true false h =
      requires_free removal b hides y (take_from d y r (On c) true false) (λ w. refl)
      (λ missed. record { channel = missed; call = other; reference = tt; timer = tt }) h

  internal_agrees : (r : CallRecord) (o : Option Attempt) (serving : Option ChanId) (traffic : Bool) → ((s : ChanId) → serving ≡ Some s → Misses removal.channel s) →
      ((w : ChanId) → reply_of (take_at d y r o serving (state_of b) traffic) ≡ Refused (ChannelBusy w) → Misses removal.channel w) →
      Agrees removal (take_at d y r o serving (state_of b) traffic) (take_at d y r o serving (state_of (apply removal b)) traffic)
  internal_agrees r (Some a) serving traffic missed h = refused removal WrongPhase
  internal_agrees r None None traffic missed h = refused removal WrongPhase
  internal_agrees r None (Some s) traffic missed h =
      as_read (ap (λ v. take_from d y r v traffic (s.cell == y.cell) (in_way (apply removal b) y)) (state_kept removal b s (missed s refl)))
      (from_agrees r (state_of b s) traffic (s.cell == y.cell) h)

pub take_agrees : (d : ℕ) (k : Kind) (y : ChanId) → AgreesWithOthers (event.Take d k y)
take_agrees d k y removal b sound hides other not_held =
    as_read (ap (λ o. take_row d k y o (state_of (apply removal b)) (is_traffic b.site y)) (record_kept removal b d other))
    (by k (record_of b d) refl not_held.channel)
  where
    by : (k : Kind) (o : Option CallRecord) → record_of b d ≡ o →
        ((w : ChanId) → reply_of (take_row d k y o (state_of b) (is_traffic b.site y)) ≡ Refused (ChannelBusy w) → Misses removal.channel w) →
        Agrees removal (take_row d k y o (state_of b) (is_traffic b.site y)) (take_row d k y o (state_of (apply removal b)) (is_traffic b.site y))
    by kind.Internal None is h = refused removal NoCall
    by kind.Internal (Some r) is h = internal_agrees removal b hides d y other r r.attempt r.serving (is_traffic b.site y) (serving_missed removal b sound hides d other r is) h
    by kind.Incoming o is h = begin_agrees removal b hides d y other (record { serving = None; attempt = Some (taken_attempt Incoming y) }) (Held d) o (is_traffic b.site y) h

-- Reserve
module _ (removal : Change) (b : State) (hides : Hides removal b) (d n : ℕ) (other : Misses removal.call d) (r : CallRecord) where
  -- the reference is none that is gone, or the refusal comes from it
  number_agrees : (a : Attempt) (t : ChanId) (o : Option ℕ) → map.get b.references (reference_at t n) ≡ o →
      (reply_of (reserve_number d n r a t o) ≡ Refused (RefBusy t.cell n) → Misses removal.reference (reference_at t n)) →
      Agrees removal (reserve_number d n r a t o) (reserve_number d n r a t (map.get (apply removal b).references (reference_at t n)))
  number_agrees a t None is h =
      let missed = hides.free_reference (reference_at t n) is in
      record {
        same = ap (reserve_number d n r a t) (user_kept removal b (reference_at t n) missed ∙ is);
        away = record { channel = tt; call = other; reference = missed; timer = tt };
      }
  number_agrees a t (Some c) is h = record {
    same = ap (reserve_number d n r a t) (user_kept removal b (reference_at t n) (h refl) ∙ is);
    away = tt;
  }

  reserve_at_agrees : (a : Attempt) (s : Stage) (target : Option ChanId) →
      ((k : Reference) → reply_of (reserve_at d n r a s target (map.get b.references)) ≡ Refused (RefBusy k.cell k.number) → Misses removal.reference k) →
      Agrees removal (reserve_at d n r a s target (map.get b.references)) (reserve_at d n r a s target (map.get (apply removal b).references))
  reserve_at_agrees a stage.Taken None h = refused removal WrongPhase
  reserve_at_agrees a stage.Taken (Some t) h = number_agrees a t (map.get b.references (reference_at t n)) refl (h (reference_at t n))
  reserve_at_agrees a stage.Reserved target h = refused removal WrongPhase
  reserve_at_agrees a stage.Sent target h = refused removal WrongPhase
  reserve_at_agrees a stage.Refused target h = refused removal WrongPhase
  reserve_at_agrees a stage.Confirmed target h = refused removal WrongPhase
  reserve_at_agrees a stage.Commanded target h = refused removal WrongPhase
  reserve_at_agrees a stage.Detected target h = refused removal WrongPhase
  reserve_at_agrees a stage.Required target h = refused removal WrongPhase
  reserve_at_agrees a stage.Ordered target h = refused removal WrongPhase

  reserve_by_agrees : (o : Option Attempt) →
      ((k : Reference) → reply_of (reserve_by d n r o (map.get b.references)) ≡ Refused (RefBusy k.cell k.number) → Misses removal.reference k) →
      Agrees removal (reserve_by d n r o (map.get b.references)) (reserve_by d n r o (map.get (apply removal b).references))
  reserve_by_agrees None h = refused removal WrongPhase
  reserve_by_agrees (Some a) h = reserve_at_agrees a a.stage a.target h

pub reserve_agrees : (d n : ℕ) → AgreesWithOthers (event.Reserve d n)
reserve_agrees d n removal b sound hides other not_held =
    as_read (ap (λ o. reserve_row d n o (map.get (apply removal b).references)) (record_kept removal b d other)) (by (record_of b d) not_held.reference)
  where
    by : (o : Option CallRecord) → ((k : Reference) → reply_of (reserve_row d n o (map.get b.references)) ≡ Refused (RefBusy k.cell k.number) → Misses removal.reference k) →
        Agrees removal (reserve_row d n o (map.get b.references)) (reserve_row d n o (map.get (apply removal b).references))
    by None h = refused removal NoCall
    by (Some r) h = reserve_by_agrees removal b hides d n other r r.attempt h

-- Activate reads the record alone
pub activate_agrees : (d : ℕ) → AgreesWithOthers (event.Activate d)
activate_agrees d removal b sound hides other not_held = as_read (ap (activate_row d) (record_kept removal b d other)) (by (record_of b d) refl)
  where
    at : (r : CallRecord) (a : Attempt) (s : Stage) (target : Option ChanId) → ((t : ChanId) → target ≡ Some t → Misses removal.channel t) →
        Agrees removal (activate_at d r a s target) (activate_at d r a s target)
    at r a stage.Reserved None missed = refused removal WrongPhase
    at r a stage.Reserved (Some t) missed = record { same = refl; away = record { channel = missed t refl; call = other; reference = tt; timer = tt } }
    at r a stage.Taken target missed = refused removal WrongPhase
    at r a stage.Sent target missed = refused removal WrongPhase
    at r a stage.Refused target missed = refused removal WrongPhase
    at r a stage.Confirmed target missed = refused removal WrongPhase
    at r a stage.Commanded target missed = refused removal WrongPhase
    at r a stage.Detected target missed = refused removal WrongPhase
    at r a stage.Required target missed = refused removal WrongPhase
    at r a stage.Ordered target missed = refused removal WrongPhase

    of : (r : CallRecord) → record_of b d ≡ Some r → (o : Option Attempt) → r.attempt ≡ o → Agrees removal (activate_by d r o) (activate_by d r o)
    of r is None has = refused removal WrongPhase
    of r is (Some a) has = at r a a.stage a.target (target_missed removal b sound hides d other r is a has)

    by : (o : Option CallRecord) → record_of b d ≡ o → Agrees removal (activate_row d o) (activate_row d o)
    by None is = refused removal NoCall
    by (Some r) is = of r is r.attempt refl

-- Undo
module _ (removal : Change) (b : State) (sound : IsSound b) (hides : Hides removal b) (d : ℕ) (other : Misses removal.call d) (r : CallRecord) (is : record_of b d ≡ Some r) where
  undo_attempt_agrees : (refusal : Refusal) (armed : Option Timer) (o : Option Attempt) → r.attempt ≡ o →
      Agrees removal (undo_attempt d refusal r o (state_of b) armed) (undo_attempt d refusal r o (state_of (apply removal b)) armed)
  undo_attempt_agrees refusal armed None has = refused removal refusal
  undo_attempt_agrees refusal armed (Some a) has =
      let target = target_missed removal b sound hides d other r is a has in
      record {
        same = λ i. Accepts (record {
          channel = states_kept removal b (λ x s. (x, left_state s)) a.target target i;
          call = Some (d, resting_record a.kind r);
          reference = option_map (λ k. (k, None)) (reference_held a.target a.reference);
          timer = option_map (λ m. (d, None)) armed;
        }) (Record r (states_kept removal b (λ x s. s) r.serving (serving_missed removal b sound hides d other r is) i));
        away = record {
          channel = option_apart (λ x. (x, left_state (state_of b x))) a.target removal.channel target;
          call = other;
          reference = option_apart (λ k. (k, None)) (reference_held a.target a.reference) removal.reference
              (λ k held. hides.others_reference k d (sound.reference_is_used d r k is (ap reference_of has ∙ held)) other);
          timer = option_apart (λ m. (d, None)) armed removal.timer (λ m e. hides.others_timer d other);
        };
      }

  undo_expired_agrees : (armed : Option Timer) (expired : Bool) →
      Agrees removal (needs expired NotArmed (undo_attempt d NotArmed r r.attempt (state_of b) armed))
      (needs expired NotArmed (undo_attempt d NotArmed r r.attempt (state_of (apply removal b)) armed))
  undo_expired_agrees armed true = undo_attempt_agrees NotArmed armed r.attempt refl
  undo_expired_agrees armed false = refused removal NotArmed

pub undo_agrees : (d : ℕ) (why : Why) → AgreesWithOthers (event.Undo d why)
undo_agrees d why removal b sound hides other not_held =
    as_read (λ i. undo_row d why (record_kept removal b d other i) (state_of (apply removal b)) (timer_kept removal b d (hides.others_timer d other) i))
    (by why (record_of b d) refl (map.get b.timers d))
  where
    by : (why : Why) (o : Option CallRecord) → record_of b d ≡ o → (armed : Option Timer) →
        Agrees removal (undo_row d why o (state_of b) armed) (undo_row d why o (state_of (apply removal b)) armed)
    by why None is armed = refused removal NoCall
    by Asked (Some r) is armed = undo_attempt_agrees removal b sound hides d other r is WrongPhase armed r.attempt refl
    by (Expired m) (Some r) is armed = undo_expired_agrees removal b sound hides d other r is armed (is_armed m armed)
