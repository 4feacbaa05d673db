-- The record of a call as an attempt at handover goes on (TS 44.018 clause 3.4.4, TS 48.008 clause 3.1.5).
use Rattle.std.specs.Prelude.{ℕ, Some, None}
use Rattle.channel_fsm.specs.declared.ChanId.{ChanId}
use Rattle.radio_tables.specs.declared.kinds.AttemptKind.{AttemptKind}
use Rattle.radio_tables.specs.declared.kinds.AttemptKind.TheVariants.{Outgoing}
use Rattle.radio_tables.specs.declared.kinds.Stage.{Stage}
use Rattle.radio_tables.specs.declared.kinds.Stage.TheVariants as stage
use Rattle.radio_tables.specs.declared.kinds.Attempt.{Attempt}
use Rattle.radio_tables.specs.declared.kinds.CallRecord.{CallRecord}

abbrev pub with_attempt : CallRecord → Attempt → CallRecord
with_attempt r a = record r { attempt = Some a }

-- the record, its attempt at another stage
abbrev pub at_stage : CallRecord → Attempt → Stage → CallRecord
at_stage r a s = with_attempt r (record a { stage = s })

abbrev pub taken_attempt : AttemptKind → ChanId → Attempt
taken_attempt k x = record { kind = k; stage = stage.Taken; target = Some x; reference = None }

-- an attempt towards another controller, which has the target (TS 48.008 clause 3.1.5)
abbrev pub required_attempt : Attempt
required_attempt = record { kind = Outgoing; stage = stage.Required; target = None; reference = None }

-- the record, its attempt with a reference
abbrev pub reserved_record : CallRecord → Attempt → ℕ → CallRecord
reserved_record r a n = with_attempt r (record a { stage = stage.Reserved; reference = Some n })
