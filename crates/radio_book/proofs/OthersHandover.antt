-- Command, Complete, Require, Order and Left of another call agree, whatever is gone.
use Rattle.std.proofs.Common.{◌≡◌, ℕ, Option, Some, None, refl, ap, ◌∙◌}
use Rattle.channel_fsm.specs.declared.ChanId.{ChanId}
use Rattle.channel_fsm.specs.declared.ChanState.{ChanState}
use Rattle.channel_fsm.specs.declared.ChanState.TheVariants.{Free, Held, Pending, On, Off}
use Rattle.radio_tables.specs.declared.kinds.Stage.{Stage}
use Rattle.radio_tables.specs.declared.kinds.Stage.TheVariants as stage
use Rattle.radio_tables.specs.declared.kinds.Attempt.{Attempt}
use Rattle.radio_tables.specs.declared.kinds.CallRecord.{CallRecord}
use Rattle.dense_tables.specs.declared.references.Reference.{Reference}
use Rattle.radio_book.specs.declared.event.Event.TheVariants as event
use Rattle.radio_book.specs.declared.event.Refusal.TheVariants.{NoCall, WrongPhase}
use Rattle.radio_book.specs.State.{State, Change, apply, state_of, record_of}
use Rattle.radio_book.specs.Table.{reference_held, command_row, complete_change, complete_row, require_row, order_row, left_row}
use Rattle.radio_book.specs.Sound.{IsSound, reference_of}
use Rattle.radio_book.proofs.Rows.{command_by, command_at, complete_by, complete_at, require_at, require_from, order_by, order_at, left_by, left_at}
use Rattle.radio_book.proofs.Changes.{Misses, ChangesApart, option_apart, record_kept, state_kept}
use Rattle.radio_book.proofs.Agreement.{Agrees, refused, as_read, Hides, AgreesWithOthers, serving_missed}

module _ (removal : Change) (b : State) (sound : IsSound b) (hides : Hides removal b) (d : ℕ) (other : Misses removal.call d) where
  unarmed_other : Misses removal.timer d
  unarmed_other = hides.others_timer d other

  command_at_agrees : (r : CallRecord) (a : Attempt) (g : Stage) → Agrees removal (command_at d r a g) (command_at d r a g)
  command_at_agrees r a stage.Taken = refused removal WrongPhase
  command_at_agrees r a stage.Reserved = refused removal WrongPhase
  command_at_agrees r a stage.Sent = refused removal WrongPhase
  command_at_agrees r a stage.Refused = refused removal WrongPhase
  command_at_agrees r a stage.Confirmed = record { same = refl; away = record { channel = tt; call = other; reference = tt; timer = unarmed_other } }
  command_at_agrees r a stage.Commanded = refused removal WrongPhase
  command_at_agrees r a stage.Detected = refused removal WrongPhase
  command_at_agrees r a stage.Required = refused removal WrongPhase
  command_at_agrees r a stage.Ordered = refused removal WrongPhase

  command_by_agrees : (r : CallRecord) (o : Option Attempt) → Agrees removal (command_by d r o) (command_by d r o)
  command_by_agrees r None = refused removal WrongPhase
  command_by_agrees r (Some a) = command_at_agrees r a a.stage

  command_row_agrees : (o : Option CallRecord) → Agrees removal (command_row d o) (command_row d o)
  command_row_agrees None = refused removal NoCall
  command_row_agrees (Some r) = command_by_agrees r r.attempt

  order_at_agrees : (r : CallRecord) (a : Attempt) (g : Stage) → Agrees removal (order_at d r a g) (order_at d r a g)
  order_at_agrees r a stage.Taken = refused removal WrongPhase
  order_at_agrees r a stage.Reserved = refused removal WrongPhase
  order_at_agrees r a stage.Sent = refused removal WrongPhase
  order_at_agrees r a stage.Refused = refused removal WrongPhase
  order_at_agrees r a stage.Confirmed = refused removal WrongPhase
  order_at_agrees r a stage.Commanded = refused removal WrongPhase
  order_at_agrees r a stage.Detected = refused removal WrongPhase
  order_at_agrees r a stage.Required = record { same = refl; away = record { channel = tt; call = other; reference = tt; timer = unarmed_other } }
  order_at_agrees r a stage.Ordered = refused removal WrongPhase

  order_by_agrees : (r : CallRecord) (o : Option Attempt) → Agrees removal (order_by d r o) (order_by d r o)
  order_by_agrees r None = refused removal WrongPhase
  order_by_agrees r (Some a) = order_at_agrees r a a.stage

  order_row_agrees : (o : Option CallRecord) → Agrees removal (order_row d o) (order_row d o)
  order_row_agrees None = refused removal NoCall
  order_row_agrees (Some r) = order_by_agrees r r.attempt

  -- what is changed of a call is its own
  completed_away : (r : CallRecord) (a : Attempt) → record_of b d ≡ Some r → r.attempt ≡ Some a → ChangesApart (complete_change d r a) removal
  completed_away r a is has = record {
    channel = option_apart (λ s. (s, Some Off)) r.serving removal.channel (serving_missed removal b sound hides d other r is);
    call = other;
    reference = option_apart (λ (k : Reference). (k, None)) (reference_held a.target a.reference) removal.reference
        (λ k held. hides.others_reference k d (sound.reference_is_used d r k is (ap reference_of has ∙ held)) other);
    timer = unarmed_other;
  }

  complete_at_agrees : (r : CallRecord) (a : Attempt) (g : Stage) → record_of b d ≡ Some r → r.attempt ≡ Some a → Agrees removal (complete_at d r a g) (complete_at d r a g)
  complete_at_agrees r a stage.Taken is has = refused removal WrongPhase
  complete_at_agrees r a stage.Reserved is has = refused removal WrongPhase
  complete_at_agrees r a stage.Sent is has = refused removal WrongPhase
  complete_at_agrees r a stage.Refused is has = refused removal WrongPhase
  complete_at_agrees r a stage.Confirmed is has = refused removal WrongPhase
  complete_at_agrees r a stage.Commanded is has = record { same = refl; away = completed_away r a is has }
  complete_at_agrees r a stage.Detected is has = record { same = refl; away = completed_away r a is has }
  complete_at_agrees r a stage.Required is has = refused removal WrongPhase
  complete_at_agrees r a stage.Ordered is has = refused removal WrongPhase

  complete_by_agrees : (r : CallRecord) (o : Option Attempt) → record_of b d ≡ Some r → r.attempt ≡ o → Agrees removal (complete_by d r o) (complete_by d r o)
  complete_by_agrees r None is has = refused removal WrongPhase
  complete_by_agrees r (Some a) is has = complete_at_agrees r a a.stage is has

  complete_row_agrees : (o : Option CallRecord) → record_of b d ≡ o → Agrees removal (complete_row d o) (complete_row d o)
  complete_row_agrees None is = refused removal NoCall
  complete_row_agrees (Some r) is = complete_by_agrees r r.attempt is refl

  left_at_agrees : (r : CallRecord) (g : Stage) → record_of b d ≡ Some r → Agrees removal (left_at d r g) (left_at d r g)
  left_at_agrees r stage.Taken is = refused removal WrongPhase
  left_at_agrees r stage.Reserved is = refused removal WrongPhase
  left_at_agrees r stage.Sent is = refused removal WrongPhase
  left_at_agrees r stage.Refused is = refused removal WrongPhase
  left_at_agrees r stage.Confirmed is = refused removal WrongPhase
  left_at_agrees r stage.Commanded is = refused removal WrongPhase
  left_at_agrees r stage.Detected is = refused removal WrongPhase
  left_at_agrees r stage.Required is = refused removal WrongPhase
  left_at_agrees r stage.Ordered is = record {
    same = refl;
    away = record {
      channel = option_apart (λ s. (s, Some Off)) r.serving removal.channel (serving_missed removal b sound hides d other r is);
      call = other;
      reference = tt;
      timer = unarmed_other;
    };
  }

  left_by_agrees : (r : CallRecord) (o : Option Attempt) → record_of b d ≡ Some r → Agrees removal (left_by d r o) (left_by d r o)
  left_by_agrees r None is = refused removal WrongPhase
  left_by_agrees r (Some a) is = left_at_agrees r a.stage is

  left_row_agrees : (o : Option CallRecord) → record_of b d ≡ o → Agrees removal (left_row d o) (left_row d o)
  left_row_agrees None is = refused removal NoCall
  left_row_agrees (Some r) is = left_by_agrees r r.attempt is

  require_from_agrees : (r : CallRecord) (s : ChanState) → Agrees removal (require_from d r s) (require_from d r s)
  require_from_agrees r Free = refused removal WrongPhase
  require_from_agrees r (Held c) = refused removal WrongPhase
  require_from_agrees r (Pending c) = refused removal WrongPhase
  require_from_agrees r (On c) = record { same = refl; away = record { channel = tt; call = other; reference = tt; timer = unarmed_other } }
  require_from_agrees r Off = refused removal WrongPhase

  require_at_agrees : (r : CallRecord) (o : Option Attempt) (serving : Option ChanId) → ((s : ChanId) → serving ≡ Some s → Misses removal.channel s) →
      Agrees removal (require_at d r o serving (state_of b)) (require_at d r o serving (state_of (apply removal b)))
  require_at_agrees r (Some a) serving missed = refused removal WrongPhase
  require_at_agrees r None None missed = refused removal WrongPhase
  require_at_agrees r None (Some s) missed = as_read (ap (require_from d r) (state_kept removal b s (missed s refl))) (require_from_agrees r (state_of b s))

  require_row_agrees : (o : Option CallRecord) → record_of b d ≡ o → Agrees removal (require_row d o (state_of b)) (require_row d o (state_of (apply removal b)))
  require_row_agrees None is = refused removal NoCall
  require_row_agrees (Some r) is = require_at_agrees r r.attempt r.serving (serving_missed removal b sound hides d other r is)

pub command_agrees : (d : ℕ) → AgreesWithOthers (event.Command d)
command_agrees d removal b sound hides other not_held = as_read (ap (command_row d) (record_kept removal b d other)) (command_row_agrees removal b sound hides d other (record_of b d))

pub complete_agrees : (d : ℕ) → AgreesWithOthers (event.Complete d)
complete_agrees d removal b sound hides other not_held = as_read (ap (complete_row d) (record_kept removal b d other)) (complete_row_agrees removal b sound hides d other (record_of b d) refl)

pub require_agrees : (d : ℕ) → AgreesWithOthers (event.Require d)
require_agrees d removal b sound hides other not_held =
    as_read (ap (λ o. require_row d o (state_of (apply removal b))) (record_kept removal b d other)) (require_row_agrees removal b sound hides d other (record_of b d) refl)

pub order_agrees : (d : ℕ) → AgreesWithOthers (event.Order d)
order_agrees d removal b sound hides other not_held = as_read (ap (order_row d) (record_kept removal b d other)) (order_row_agrees removal b sound hides d other (record_of b d))

pub left_agrees : (d : ℕ) → AgreesWithOthers (event.Left d)
left_agrees d removal b sound hides other not_held = as_read (ap (left_row d) (record_kept removal b d other)) (left_row_agrees removal b sound hides d other (record_of b d) refl)
