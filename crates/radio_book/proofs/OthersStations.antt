-- Confirm, Refuse, Detect, Released and Owner on another channel agree, whatever is gone.
use Rattle.std.proofs.Common.{◌≡◌, inl, inr, ℕ, Bool, true, false, if◌then◌else◌, Option, Some, None, refl, sym, ◌∙◌, ap, subst}
use Rattle.channel_fsm.specs.declared.ChanId.{ChanId}
use Rattle.channel_fsm.specs.declared.ChanState.{ChanState}
use Rattle.channel_fsm.specs.declared.ChanState.TheVariants.{Free, Held, Pending, On, Off}
use Rattle.radio_tables.specs.declared.kinds.Stage.{Stage}
use Rattle.radio_tables.specs.declared.kinds.Stage.TheVariants as stage
use Rattle.radio_tables.specs.declared.kinds.Attempt.{Attempt}
use Rattle.radio_tables.specs.declared.kinds.CallRecord.{CallRecord}
use Rattle.radio_book.specs.declared.event.Event.TheVariants as event
use Rattle.radio_book.specs.declared.event.Refusal.TheVariants.{Unexpected}
use Rattle.radio_book.specs.declared.event.Reply.TheVariants.{Owned}
use Rattle.radio_book.specs.State.{State, Change, apply, state_of, record_of}
use Rattle.radio_book.specs.Table.{owner, detect_row, detect_by, owner_row, Accepts, with_entry, at_stage, is_target, attempt_entry, moved_entry, confirm_row, refuse_row, released_row, needs}
use Rattle.radio_book.proofs.Rows.{detect_of, detect_at}
use Rattle.radio_book.proofs.Changes.{Misses, AreApart, state_kept, record_kept}
use Rattle.radio_book.proofs.Agreement.{Agrees, Avoids, refused, as_read, AgreesWithOthers}

module _ (removal : Change) (c : ℕ) (other : Misses removal.call c) (x : ChanId) (s : Stage) where
  with_record_apart : (aimed : Bool) (r : CallRecord) → AreApart (if aimed then with_entry c r else None) removal.call
  with_record_apart true r = other
  with_record_apart false r = tt

  attempt_entry_apart : (r : CallRecord) (o : Option Attempt) → AreApart (attempt_entry x s c r o) removal.call
  attempt_entry_apart r None = tt
  attempt_entry_apart r (Some a) = with_record_apart (is_target x a.target) (at_stage r a s)

  moved_entry_apart : (o : Option CallRecord) → AreApart (moved_entry x s c o) removal.call
  moved_entry_apart None = tt
  moved_entry_apart (Some r) = attempt_entry_apart r r.attempt

  -- the station's answer on a channel of another call
  answer_agrees : (b : State) (state : ChanState) → Misses removal.channel x →
      Agrees removal (Accepts (record { channel = with_entry x state; call = moved_entry x s c (record_of b c); reference = None; timer = None }) (Owned c))
      (Accepts (record { channel = with_entry x state; call = moved_entry x s c (record_of (apply removal b) c); reference = None; timer = None }) (Owned c))
  answer_agrees b state missed = record {
    same = ap (λ o. Accepts (record { channel = with_entry x state; call = moved_entry x s c o; reference = None; timer = None }) (Owned c)) (record_kept removal b c other);
    away = record { channel = missed; call = moved_entry_apart (record_of b c); reference = tt; timer = tt };
  }

pub confirm_agrees : (y : ChanId) → AgreesWithOthers (event.Confirm y)
confirm_agrees y removal b sound hides other not_held =
    as_read (ap (λ s. confirm_row y s (record_of (apply removal b))) (state_kept removal b y other)) (by (state_of b y) refl)
  where
    by : (s : ChanState) → state_of b y ≡ s → Agrees removal (confirm_row y s (record_of b)) (confirm_row y s (record_of (apply removal b)))
    by Free is = refused removal (Unexpected y)
    by (Held c) is = refused removal (Unexpected y)
    by (Pending c) is = answer_agrees removal c (hides.others_pending y c is other) y stage.Confirmed b (On c) other
    by (On c) is = refused removal (Unexpected y)
    by Off is = refused removal (Unexpected y)

pub refuse_agrees : (y : ChanId) → AgreesWithOthers (event.Refuse y)
refuse_agrees y removal b sound hides other not_held =
    as_read (ap (λ s. refuse_row y s (record_of (apply removal b))) (state_kept removal b y other)) (by (state_of b y) refl)
  where
    by : (s : ChanState) → state_of b y ≡ s → Agrees removal (refuse_row y s (record_of b)) (refuse_row y s (record_of (apply removal b)))
    by Free is = refused removal (Unexpected y)
    by (Held c) is = refused removal (Unexpected y)
    by (Pending c) is = answer_agrees removal c (hides.others_pending y c is other) y stage.Refused b (Held c) other
    by (On c) is = refused removal (Unexpected y)
    by Off is = refused removal (Unexpected y)

pub released_agrees : (y : ChanId) → AgreesWithOthers (event.Released y)
released_agrees y removal b sound hides other not_held = as_read (ap (released_row y) (state_kept removal b y other)) (by (state_of b y))
  where
    by : (s : ChanState) → Agrees removal (released_row y s) (released_row y s)
    by Free = refused removal (Unexpected y)
    by (Held c) = refused removal (Unexpected y)
    by (Pending c) = refused removal (Unexpected y)
    by (On c) = refused removal (Unexpected y)
    by Off = record { same = refl; away = record { channel = other; call = tt; reference = tt; timer = tt } }

-- Detect: the channel is no target of a call that is gone, or that call's record isn't
module _ (removal : Change) (x : ChanId) (c : ℕ) (other : Misses removal.call c) where
  detect_at_agrees : (r : CallRecord) (a : Attempt) (g : Stage) → Agrees removal (detect_at x c r a g) (detect_at x c r a g)
  detect_at_agrees r a stage.Taken = refused removal (Unexpected x)
  detect_at_agrees r a stage.Reserved = refused removal (Unexpected x)
  detect_at_agrees r a stage.Sent = refused removal (Unexpected x)
  detect_at_agrees r a stage.Refused = refused removal (Unexpected x)
  detect_at_agrees r a stage.Confirmed = refused removal (Unexpected x)
  detect_at_agrees r a stage.Commanded = record { same = refl; away = record { channel = tt; call = other; reference = tt; timer = tt } }
  detect_at_agrees r a stage.Detected = refused removal (Unexpected x)
  detect_at_agrees r a stage.Required = refused removal (Unexpected x)
  detect_at_agrees r a stage.Ordered = refused removal (Unexpected x)

  detect_if_agrees : (r : CallRecord) (a : Attempt) (aimed : Bool) →
      Agrees removal (needs aimed (Unexpected x) (detect_at x c r a a.stage)) (needs aimed (Unexpected x) (detect_at x c r a a.stage))
  detect_if_agrees r a true = detect_at_agrees r a a.stage
  detect_if_agrees r a false = refused removal (Unexpected x)

  detect_of_agrees : (r : CallRecord) (o : Option Attempt) → Agrees removal (detect_of x c r o) (detect_of x c r o)
  detect_of_agrees r None = refused removal (Unexpected x)
  detect_of_agrees r (Some a) = detect_if_agrees r a (is_target x a.target)

  detect_by_agrees : (o : Option CallRecord) → Agrees removal (detect_by x c o) (detect_by x c o)
  detect_by_agrees None = refused removal (Unexpected x)
  detect_by_agrees (Some r) = detect_of_agrees r r.attempt

pub detect_agrees : (y : ChanId) → AgreesWithOthers (event.Detect y)
detect_agrees y removal b sound hides other not_held =
    as_read (ap (λ s. detect_row y s (record_of (apply removal b))) (state_kept removal b y other)) (by (state_of b y) refl)
  where
    on : (c : ℕ) → state_of b y ≡ On c → Agrees removal (detect_by y c (record_of b c)) (detect_by y c (record_of (apply removal b) c))
    on c is = elim (hides.others_on y c is other) [
      | inl missed ↦ as_read (ap (detect_by y c) (record_kept removal b c missed)) (detect_by_agrees removal y c missed (record_of b c))
      | inr none ↦ record { same = none.1 ∙ sym none.0; away = subst (λ o. Avoids o removal) (sym none.0) tt }
    ]

    by : (s : ChanState) → state_of b y ≡ s → Agrees removal (detect_row y s (record_of b)) (detect_row y s (record_of (apply removal b)))
    by Free is = refused removal (Unexpected y)
    by (Held c) is = refused removal (Unexpected y)
    by (Pending c) is = refused removal (Unexpected y)
    by (On c) is = on c is
    by Off is = refused removal (Unexpected y)

pub owner_agrees : (y : ChanId) → AgreesWithOthers (event.Owner y)
owner_agrees y removal b sound hides other not_held = as_read (ap (λ s. owner_row y (owner s)) (state_kept removal b y other)) (by (owner (state_of b y)))
  where
    by : (o : Option ℕ) → Agrees removal (owner_row y o) (owner_row y o)
    by None = refused removal (Unexpected y)
    by (Some c) = record { same = refl; away = record { channel = tt; call = tt; reference = tt; timer = tt } }
