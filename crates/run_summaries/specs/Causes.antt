-- Why an attempt at handover is taken back, by the input that undoes it. Ours, of no standard.
use Rattle.std.specs.Prelude.{◌≡◌, ◌⊎◌, ℕ, Bool, true, false, if◌then◌else◌, List}
use Rattle.rr_messages.specs.declared.message.Rr.{Rr}
use Rattle.rr_messages.specs.declared.message.Rr.TheVariants as rr
use Rattle.rr_messages.specs.declared.fault.RrFault.{RrFault}
use Rattle.rr_messages.specs.Rr.{IsRrText, HasRrFault}
use Rattle.exchange.specs.declared.Line.{Line}
use Rattle.exchange.specs.declared.Line.TheVariants as line
use Rattle.rsl_messages.specs.declared.message.Rsl.{Rsl}
use Rattle.rsl_messages.specs.declared.message.Rsl.TheVariants as rsl
use Rattle.bssmap_messages.specs.declared.message.Bssmap.{Bssmap}
use Rattle.bssmap_messages.specs.declared.message.Bssmap.TheVariants as bssmap
use Rattle.run_counts.specs.declared.told.Cause.{Cause}
use Rattle.run_counts.specs.declared.told.Cause.TheVariants.{ActivationRefused, MobileReturned, CentreRejected, Operator, CallCleared, Untold}

-- a message of the radio path is HANDOVER FAILURE
abbrev pub is_failure : Rr → Bool
is_failure (rr.HandoverFailure cause) = true
is_failure (rr.HandoverCommand cell channel reference power) = false
is_failure (rr.HandoverComplete cause) = false
is_failure (rr.ChannelRelease cause) = false
is_failure (rr.PhysicalInformation advance) = false
is_failure (rr.MeasurementReport results) = false

-- a mobile says that by these octets, or it doesn't: they are another message, or none
abbrev pub SaysFailure : List ℕ → Bool → Type 0
SaysFailure octets says =
    ((message : Rr) × IsRrText message octets × (says ≡ is_failure message))
    ⊎ ((fault : RrFault) × HasRrFault octets fault × (says ≡ false))

abbrev pub IsCauseOfMobile : List ℕ → Cause → Type 0
IsCauseOfMobile octets cause = (says : Bool) × SaysFailure octets says × (cause ≡ (if says then MobileReturned else Untold))

-- A message on Abis undoes an attempt where a station refuses its channel, or passes on the mobile's HANDOVER FAILURE.
abbrev pub IsCauseOfAbis : {A : Type 0} → Rsl A → Cause → Type 0
IsCauseOfAbis (rsl.ChannelActivationNack channel reason) cause = cause ≡ ActivationRefused
IsCauseOfAbis (rsl.DataIndication channel link layer3) cause = IsCauseOfMobile layer3 cause
IsCauseOfAbis (rsl.DataRequest channel link layer3) cause = cause ≡ Untold
IsCauseOfAbis (rsl.ChannelActivation channel activation mode reference) cause = cause ≡ Untold
IsCauseOfAbis (rsl.ChannelActivationAck channel frame) cause = cause ≡ Untold
IsCauseOfAbis (rsl.ConnectionFailureIndication channel reason) cause = cause ≡ Untold
IsCauseOfAbis (rsl.HandoverDetection channel delay) cause = cause ≡ Untold
IsCauseOfAbis (rsl.MeasurementResult channel number uplink power layer3) cause = cause ≡ Untold
IsCauseOfAbis (rsl.RfChannelRelease channel) cause = cause ≡ Untold
IsCauseOfAbis (rsl.RfChannelReleaseAck channel) cause = cause ≡ Untold

-- a message on A, where the centre rejects it or clears the call
abbrev pub cause_of_a : {A : Type 0} → Bssmap A → Cause
cause_of_a (bssmap.HandoverRequiredReject cause) = CentreRejected
cause_of_a (bssmap.ClearCommand cause) = CallCleared
cause_of_a (bssmap.HandoverRequest channel encryption classmark serving target) = Untold
cause_of_a (bssmap.HandoverRequired cause response cells) = Untold
cause_of_a (bssmap.HandoverRequestAck layer3) = Untold
cause_of_a (bssmap.HandoverCommand layer3) = Untold
cause_of_a (bssmap.HandoverComplete rr) = Untold
cause_of_a (bssmap.HandoverFailure cause rr) = Untold
cause_of_a (bssmap.HandoverPerformed cause cell) = Untold
cause_of_a bssmap.HandoverDetect = Untold
cause_of_a bssmap.ClearComplete = Untold
cause_of_a (bssmap.ClearRequest cause) = Untold

-- an operator's line, where it takes the attempt back or clears the call
abbrev pub cause_of_line : Line → Cause
cause_of_line (line.Undo call) = Operator
cause_of_line (line.Clear call) = CallCleared
cause_of_line (line.Open call chan) = Untold
cause_of_line (line.Seize call cell rate) = Untold
cause_of_line (line.Handover call cell) = Untold
