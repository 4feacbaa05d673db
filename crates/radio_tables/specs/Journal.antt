-- The stored inverses of an attempt, which follow from it. Ours, of no standard.
use Rattle.std.specs.Prelude.{ℕ, List, [], Option, Some, None}
use Rattle.std.specs.Option.{option_map}
use Rattle.timeslots.specs.declared.Sub.TheVariants.{Full}
use Rattle.channel_fsm.specs.declared.ChanId.{ChanId}
use Rattle.attempt_journal.specs.declared.Inverse.{Inverse}
use Rattle.radio_tables.specs.declared.kinds.Stage.{Stage}
use Rattle.radio_tables.specs.declared.kinds.Stage.TheVariants.{Taken, Reserved, Sent, Refused, Confirmed, Commanded, Detected, Required, Ordered}
use Rattle.radio_tables.specs.declared.kinds.Attempt.{Attempt}
use Rattle.radio_tables.specs.declared.kinds.CallRecord.{CallRecord}
use Rattle.radio_tables.specs.Stages.{stage_row, opening_inverse}

-- Only a stage that has a reference reads this, and has one in a sound book; so the 0 never counts.
abbrev pub or_zero : Option ℕ → ℕ
or_zero None = 0
or_zero (Some n) = n

-- And only a stage that has a target reads this.
abbrev pub or_origin : Option ChanId → ChanId
or_origin None = record { cell = 0; trx = 0; tn = 0; sub = Full }
or_origin (Some t) = t

-- what a call's journal holds follows from its attempt alone
abbrev pub journal_of : Option Attempt → List Inverse
journal_of None = []
journal_of (Some a) = (stage_row a.stage).inverses (opening_inverse a.kind) (or_origin a.target) (or_zero a.reference)

-- the stage before; of these two alone, since no other step is taken back by going back one stage
abbrev pub stage_before : Stage → Stage
stage_before Commanded = Confirmed
stage_before Detected = Commanded
stage_before Taken = Taken
stage_before Reserved = Reserved
stage_before Sent = Sent
stage_before Refused = Refused
stage_before Confirmed = Confirmed
stage_before Required = Required
stage_before Ordered = Ordered

abbrev pub back_one_stage : CallRecord → CallRecord
back_one_stage r = record r { attempt = option_map (λ (a : Attempt). record a { stage = stage_before a.stage }) r.attempt }
