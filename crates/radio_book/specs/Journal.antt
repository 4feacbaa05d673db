-- The stored inverses of an attempt, and what running them does. Ours, of no standard.
use Rattle.std.specs.Prelude.{◌≡◌, ℕ, if◌then◌else◌, List, [], ◌∷◌, Option, Some, None}
use Rattle.std.specs.Option.{option_map}
use Rattle.std.specs.FinMap as map
use Rattle.channel_fsm.specs.declared.ChanEvent.TheVariants as chan
use Rattle.radio_tables.specs.declared.kinds.Attempt.{Attempt}
use Rattle.radio_tables.specs.declared.kinds.CallRecord.{CallRecord}
use Rattle.dense_tables.specs.declared.references.Reference.{Reference}
use Rattle.attempt_journal.specs.declared.Inverse.{Inverse}
use Rattle.attempt_journal.specs.declared.Inverse.TheVariants.{FreeChannel, Settle, Forget, DropReference, SwitchOff, Uncommand, Undetect, Disarm, Rearm}
use Rattle.radio_tables.specs.Maps.{Entry}
use Rattle.attempt_journal.specs.declared.Timer.{Timer}
use Rattle.radio_book.specs.Channels.{channel_step}
use Rattle.radio_book.specs.State.{State, Change, apply, state_of, record_of}
use Rattle.radio_book.specs.Table.{no_change, undo_change, reference_held, is_armed}
use Rattle.radio_book.specs.Sound.{IsSound}
pub use Rattle.radio_tables.specs.Journal.{or_zero, or_origin, journal_of, stage_before, back_one_stage}

-- the reference with this number in the cell of the attempt's target is in use no more
abbrev pub reference_removal_of_attempt : ℕ → Option Attempt → Option (Entry Reference ℕ)
reference_removal_of_attempt n None = None
reference_removal_of_attempt n (Some a) = option_map (λ k. (k, None)) (reference_held a.target (Some n))

-- and so of the call's attempt
abbrev pub reference_removal_of_call : ℕ → Option CallRecord → Option (Entry Reference ℕ)
reference_removal_of_call n None = None
reference_removal_of_call n (Some r) = reference_removal_of_attempt n r.attempt

-- a change of the record of a call that the book has; of the timer that stands with it
abbrev pub record_change : ℕ → (CallRecord → CallRecord) → Option CallRecord → Option (Entry ℕ CallRecord)
record_change c f found = option_map (λ r. (c, Some (f r))) found

abbrev pub timer_change : ℕ → Option Timer → Option CallRecord → Option (Entry ℕ Timer)
timer_change c m found = option_map (λ r. (c, m)) found

-- this timer of a call is gone; another one that is armed stays
abbrev pub disarming : ℕ → Timer → Option Timer → Option CallRecord → Option (Entry ℕ Timer)
disarming c m armed found = if is_armed m armed then timer_change c None found else None

-- what one inverse of a call changes
abbrev pub inverse_change : ℕ → Inverse → State → Change
inverse_change c (FreeChannel x) b = record no_change { channel = channel_step x chan.Drop (state_of b x) }
inverse_change c (SwitchOff x) b = record no_change { channel = channel_step x chan.SwitchOff (state_of b x) }
inverse_change c (DropReference n) b = record no_change { reference = reference_removal_of_call n (record_of b c) }
inverse_change c Settle b = record no_change { call = record_change c (λ r. record r { attempt = None }) (record_of b c) }
-- with the record goes what stands with it
inverse_change c Forget b = record no_change { call = Some (c, None); timer = Some (c, None) }
inverse_change c Uncommand b = record no_change { call = record_change c back_one_stage (record_of b c) }
inverse_change c Undetect b = record no_change { call = record_change c back_one_stage (record_of b c) }
inverse_change c (Disarm m) b = record no_change { timer = disarming c m (map.get b.timers c) (record_of b c) }
inverse_change c (Rearm m) b = record no_change { timer = timer_change c (Some m) (record_of b c) }

abbrev pub run_inverse : ℕ → Inverse → State → State
run_inverse c j b = apply (inverse_change c j b) b

-- the inverses, last pushed first
abbrev pub run_back : ℕ → List Inverse → State → State
run_back c [] b = b
run_back c (j ∷ js) b = run_inverse c j (run_back c js b)

-- in a sound book the stored inverses of an open attempt, run last first, are its undo
abbrev pub InversesUndo : Type 0
InversesUndo =
    (c : ℕ) (r : CallRecord) (a : Attempt) (b : State) → IsSound b → record_of b c ≡ Some r → r.attempt ≡ Some a →
    run_back c (journal_of r.attempt) b ≡ apply (undo_change c r a (state_of b) (map.get b.timers c)) b
