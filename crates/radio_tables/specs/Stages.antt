-- The stages of an attempt at handover (TS 44.018 clause 3.4.4, TS 48.008 clause 3.1.5), and what each says of it.
use Rattle.std.specs.Prelude.{ℕ, Bool, true, false, List, [], ◌∷◌, ◌++◌, Option, Some, None}
use Rattle.channel_fsm.specs.declared.ChanId.{ChanId}
use Rattle.channel_fsm.specs.declared.ChanState.{ChanState}
use Rattle.channel_fsm.specs.declared.ChanState.TheVariants.{Held, Pending, On}
use Rattle.attempt_journal.specs.declared.Timer.{Timer}
use Rattle.attempt_journal.specs.declared.Timer.TheVariants.{T3103, T7, T8}
use Rattle.attempt_journal.specs.declared.Inverse.{Inverse}
use Rattle.attempt_journal.specs.declared.Inverse.TheVariants.{FreeChannel, Settle, Forget, DropReference, SwitchOff, Uncommand, Undetect, Disarm, Rearm}
use Rattle.radio_tables.specs.declared.kinds.AttemptKind.{AttemptKind}
use Rattle.radio_tables.specs.declared.kinds.AttemptKind.TheVariants.{Internal, Incoming, Outgoing}
use Rattle.radio_tables.specs.declared.kinds.Stage.{Stage}
use Rattle.radio_tables.specs.declared.kinds.Stage.TheVariants.{Taken, Reserved, Sent, Refused, Confirmed, Commanded, Detected, Required, Ordered}

-- the inverses of an attempt's steps in the order of pushing, by the inverse of its opening, its target and its reference

abbrev pub taken_inverses : Inverse → ChanId → ℕ → List Inverse
taken_inverses opening t n = opening ∷ FreeChannel t ∷ []

abbrev pub reserved_inverses : Inverse → ChanId → ℕ → List Inverse
reserved_inverses opening t n = taken_inverses opening t n ++ DropReference n ∷ []

abbrev pub sent_inverses : Inverse → ChanId → ℕ → List Inverse
sent_inverses opening t n = reserved_inverses opening t n ++ SwitchOff t ∷ []

abbrev pub commanded_inverses : Inverse → ChanId → ℕ → List Inverse
commanded_inverses opening t n = sent_inverses opening t n ++ Uncommand ∷ Disarm T3103 ∷ []

abbrev pub detected_inverses : Inverse → ChanId → ℕ → List Inverse
detected_inverses opening t n = commanded_inverses opening t n ++ Undetect ∷ []

abbrev pub required_inverses : Inverse → ChanId → ℕ → List Inverse
required_inverses opening t n = opening ∷ Disarm T7 ∷ []

abbrev pub ordered_inverses : Inverse → ChanId → ℕ → List Inverse
ordered_inverses opening t n = required_inverses opening t n ++ Rearm T7 ∷ Disarm T8 ∷ []

-- the inverse of the opening
abbrev pub opening_inverse : AttemptKind → Inverse
opening_inverse Internal = Settle
opening_inverse Incoming = Forget
opening_inverse Outgoing = Settle

pub record StageRow : Type 0 where
  -- the state that the target is in for the call; where there is none, the attempt is outgoing and has no target
  pub target : Option (ℕ → ChanState)
  -- the attempt has a handover reference
  pub has_reference : Bool
  -- the timer that is armed
  pub timer : Option Timer
  -- the station may have activated the target
  pub may_be_active : Bool
  pub inverses : Inverse → ChanId → ℕ → List Inverse

-- the table of stages
abbrev pub stage_row : Stage → StageRow
stage_row Taken = record { target = Some Held; has_reference = false; timer = None; may_be_active = false; inverses = taken_inverses }
stage_row Reserved = record { target = Some Held; has_reference = true; timer = None; may_be_active = false; inverses = reserved_inverses }
stage_row Sent = record { target = Some Pending; has_reference = true; timer = None; may_be_active = true; inverses = sent_inverses }
stage_row Refused = record { target = Some Held; has_reference = true; timer = None; may_be_active = false; inverses = sent_inverses }
stage_row Confirmed = record { target = Some On; has_reference = true; timer = None; may_be_active = true; inverses = sent_inverses }
stage_row Commanded = record { target = Some On; has_reference = true; timer = Some T3103; may_be_active = true; inverses = commanded_inverses }
stage_row Detected = record { target = Some On; has_reference = true; timer = Some T3103; may_be_active = true; inverses = detected_inverses }
stage_row Required = record { target = None; has_reference = false; timer = Some T7; may_be_active = false; inverses = required_inverses }
stage_row Ordered = record { target = None; has_reference = false; timer = Some T8; may_be_active = false; inverses = ordered_inverses }

-- the steps of an attempt that a stage allows
pub record Allows : Type 0 where
  pub reserve : Bool
  pub activate : Bool
  pub command : Bool
  pub detect : Bool
  pub complete : Bool
  pub order : Bool
  pub left : Bool

-- the mask of each stage
abbrev pub stage_allows : Stage → Allows
stage_allows Taken = record { reserve = true; activate = false; command = false; detect = false; complete = false; order = false; left = false }
stage_allows Reserved = record { reserve = false; activate = true; command = false; detect = false; complete = false; order = false; left = false }
stage_allows Sent = record { reserve = false; activate = false; command = false; detect = false; complete = false; order = false; left = false }
stage_allows Refused = record { reserve = false; activate = false; command = false; detect = false; complete = false; order = false; left = false }
stage_allows Confirmed = record { reserve = false; activate = false; command = true; detect = false; complete = false; order = false; left = false }
stage_allows Commanded = record { reserve = false; activate = false; command = false; detect = true; complete = true; order = false; left = false }
stage_allows Detected = record { reserve = false; activate = false; command = false; detect = false; complete = true; order = false; left = false }
stage_allows Required = record { reserve = false; activate = false; command = false; detect = false; complete = false; order = true; left = false }
stage_allows Ordered = record { reserve = false; activate = false; command = false; detect = false; complete = false; order = false; left = true }
