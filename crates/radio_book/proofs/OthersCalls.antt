-- Open, Clear and Look by another call agree, whatever is gone.
use Rattle.std.proofs.Common.{◌≡◌, ℕ, Bool, true, false, Option, Some, None, refl, ap}
use Rattle.channel_fsm.specs.declared.ChanId.{ChanId}
use Rattle.channel_fsm.specs.declared.ChanState.{ChanState}
use Rattle.channel_fsm.specs.declared.ChanState.TheVariants.{Pending}
use Rattle.radio_tables.specs.declared.kinds.Attempt.{Attempt}
use Rattle.radio_tables.specs.declared.kinds.CallRecord.{CallRecord}
use Rattle.radio_book.specs.declared.event.Event.TheVariants as event
use Rattle.radio_book.specs.declared.event.Refusal.TheVariants.{NoCall, CallExists, WrongPhase, NoChannel, ChannelBusy}
use Rattle.radio_book.specs.declared.event.Reply.TheVariants.{Done, Record, Refused}
use Rattle.cell_table.specs.Site.{is_traffic}
use Rattle.radio_book.specs.State.{State, Change, apply, state_of, record_of}
use Rattle.radio_book.specs.Table.{in_way, Accepts, reply_of, no_change, begin_row, open_row, clear_row, left_state, look_row}
use Rattle.radio_book.proofs.Rows.{clear_at}
use Rattle.radio_book.proofs.Changes.{Misses, option_apart, record_kept}
use Rattle.radio_book.proofs.Agreement.{Agrees, refused, as_read, Hides, AgreesWithOthers, requires_free, states_kept, serving_missed}

-- another call begins, by whichever event
pub begin_agrees : (removal : Change) (b : State) (hides : Hides removal b) (d : ℕ) (y : ChanId) (other : Misses removal.call d) (r : CallRecord) (v : ChanState) (o : Option CallRecord) (traffic : Bool) →
    ((w : ChanId) → reply_of (begin_row d y r v o traffic (in_way b y)) ≡ Refused (ChannelBusy w) → Misses removal.channel w) →
    Agrees removal (begin_row d y r v o traffic (in_way b y)) (begin_row d y r v o traffic (in_way (apply removal b) y))
begin_agrees removal b hides d y other r v (Some old) traffic h = refused removal CallExists
begin_agrees removal b hides d y other r v None false h = refused removal NoChannel
begin_agrees removal b hides d y other r v None true h =
    requires_free removal b hides y (begin_row d y r v None true) (λ w. refl)
    (λ missed. record { channel = missed; call = other; reference = tt; timer = tt }) h

pub open_agrees : (d : ℕ) (y : ChanId) → AgreesWithOthers (event.Open d y)
open_agrees d y removal b sound hides other not_held =
    as_read (ap (λ o. open_row d y o (is_traffic b.site y) (in_way (apply removal b) y)) (record_kept removal b d other))
    (begin_agrees removal b hides d y other (record { serving = Some y; attempt = None }) (Pending d) (record_of b d) (is_traffic b.site y) not_held.channel)

pub clear_agrees : (d : ℕ) → AgreesWithOthers (event.Clear d)
clear_agrees d removal b sound hides other not_held =
    as_read (ap (λ o. clear_row d o (state_of (apply removal b))) (record_kept removal b d other)) (by (record_of b d) refl)
  where
    rested : (r : CallRecord) → record_of b d ≡ Some r → Agrees removal (clear_at d r None (state_of b)) (clear_at d r None (state_of (apply removal b)))
    rested r is =
        let missed = serving_missed removal b sound hides d other r is in
        record {
          same = ap (λ entry. Accepts (record { channel = entry; call = Some (d, None); reference = None; timer = None }) Done)
              (states_kept removal b (λ x s. (x, left_state s)) r.serving missed);
          away = record { channel = option_apart (λ x. (x, left_state (state_of b x))) r.serving removal.channel missed; call = other; reference = tt; timer = tt };
        }

    at : (r : CallRecord) → record_of b d ≡ Some r → (o : Option Attempt) → Agrees removal (clear_at d r o (state_of b)) (clear_at d r o (state_of (apply removal b)))
    at r is (Some a) = refused removal WrongPhase
    at r is None = rested r is

    by : (o : Option CallRecord) → record_of b d ≡ o → Agrees removal (clear_row d o (state_of b)) (clear_row d o (state_of (apply removal b)))
    by None is = refused removal NoCall
    by (Some r) is = at r is r.attempt

pub look_agrees : (d : ℕ) → AgreesWithOthers (event.Look d)
look_agrees d removal b sound hides other not_held =
    as_read (ap (λ o. look_row o (state_of (apply removal b))) (record_kept removal b d other)) (by (record_of b d) refl)
  where
    by : (o : Option CallRecord) → record_of b d ≡ o → Agrees removal (look_row o (state_of b)) (look_row o (state_of (apply removal b)))
    by None is = refused removal NoCall
    by (Some r) is = record {
      same = ap (λ s. Accepts no_change (Record r s)) (states_kept removal b (λ x s. s) r.serving (serving_missed removal b sound hides d other r is));
      away = record { channel = tt; call = tt; reference = tt; timer = tt };
    }
