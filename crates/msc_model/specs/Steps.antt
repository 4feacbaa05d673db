-- What comes of octets that a controller sends for a call (TS 48.008 clauses 3.1.5 and 3.1.9).
use Rattle.std.specs.Prelude.{◌≡◌, ℕ, if◌then◌else◌, List, [], ◌∷◌, map, Option, Some, None, IsSome, slice_get}
use Rattle.bssmap_messages.specs.declared.message.Bssmap.{Bssmap}
use Rattle.bssmap_messages.specs.declared.message.Bssmap.TheVariants.{HandoverRequest, HandoverRequired, HandoverRequestAck, HandoverCommand, HandoverComplete, HandoverFailure, HandoverPerformed, HandoverRequiredReject, HandoverDetect, ClearCommand, ClearComplete, ClearRequest}
use Rattle.bssmap_messages.specs.Causes.{call_control, reversion_to_old_channel, handover_successful, no_radio_resource_available}
use Rattle.bssmap_messages.specs.Messages.{KeepsList}
use Rattle.bssmap_messages.specs.Texts.{IsTextOf, canonical_text}
use Rattle.msc_model.specs.declared.connection.Connection.{Connection}
use Rattle.msc_model.specs.declared.connection.Join.{Join}
use Rattle.msc_model.specs.declared.out.CentreOut.{CentreOut}
use Rattle.msc_model.specs.declared.route.Route.{Route}
use Rattle.msc_model.specs.Centre.{CentreState, without, joining}
use Rattle.msc_model.specs.Joins.{is_same, join_of, IsLowest}
use Rattle.msc_model.specs.Messages.{request}
use Rattle.msc_model.specs.Routes.{route_of}

-- the centre after it, and the messages that it sends, each to a call
pub record Outcome (A : Type 0) : Type 0 where
  pub centre : CentreState
  pub sent : List (Connection × Bssmap A)

-- a message for a call, in octets
abbrev pub out_of : {A : Type 0} → Connection × Bssmap A → CentreOut A
out_of p = record { controller = p.0.controller; call = p.0.call; bytes = canonical_text p.1 }

-- this is the centre after it, and these are the messages
abbrev pub Gives : {A : Type 0} → Outcome A → CentreState → List (CentreOut A) → Type 0
Gives o w outs = (w ≡ o.centre) × (outs ≡ map out_of o.sent)

-- nothing comes of it
abbrev pub unmoved : {A : Type 0} → CentreState → Outcome A
unmoved w = record { centre = w; sent = [] }

-- HANDOVER REQUIRED (clause 3.1.5.1): a join of the asker ends. Where no other controller has the cell, or there is no
-- number left, it is rejected with 'no radio resource available'.
abbrev pub rejected : {A : Type 0} → CentreState → Connection → Outcome A
rejected w asker = record { centre = without w asker; sent = (asker, HandoverRequiredReject no_radio_resource_available) ∷ [] }

-- Else HANDOVER REQUEST goes to the controller of the target cell for a new call (clause 3.1.5.2), to which the asker is
-- joined.
abbrev pub requested : {A : Type 0} → CentreState → Connection → Connection → Route → Outcome A
requested w asker target r = record { centre = joining (without w asker) asker target; sent = (target, request r) ∷ [] }

abbrev pub at_number : {A : Type 0} → CentreState → Connection → Route → Option ℕ → Outcome A
at_number w asker r None = rejected w asker
at_number w asker r (Some n) = requested w asker (record { controller = r.target.controller; call = n }) r

abbrev pub ComesOfRequired : {A : Type 0} → CentreState → Connection → Option Route → CentreState → List (CentreOut A) → Type 0
ComesOfRequired w asker None w' outs = Gives (rejected w asker) w' outs
ComesOfRequired w asker (Some r) w' outs = (number : Option ℕ) × IsLowest w.stood r.target.controller number × Gives (at_number w asker r number) w' outs

-- HANDOVER REQUEST ACKNOWLEDGE (clause 3.1.5.2): the asker gets HANDOVER COMMAND with its layer 3 information (3.1.5.3).
abbrev pub acknowledged : {A : Type 0} → CentreState → List ℕ → Option Join → Outcome A
acknowledged w layer3 None = unmoved w
acknowledged w layer3 (Some j) = record { centre = w; sent = (j.asker, HandoverCommand layer3) ∷ [] }

-- HANDOVER COMPLETE (clauses 3.1.5.3 and 3.1.9): the asker is cleared with 'handover successful', and the join ends.
abbrev pub completed : {A : Type 0} → CentreState → Connection → Option Join → Outcome A
completed w from None = unmoved w
completed w from (Some j) = record { centre = without w from; sent = (j.asker, ClearCommand handover_successful) ∷ [] }

-- HANDOVER FAILURE: from the target's side (clause 3.1.5.2) the asker is rejected with its cause; from the asker (3.1.5.3)
-- the target's side is cleared with 'radio interface failure, reversion to old channel'. The join ends.
abbrev pub failed_to : {A : Type 0} → Connection → ℕ → Join → Connection × Bssmap A
failed_to from cause j = if is_same from j.asker then (j.target, ClearCommand reversion_to_old_channel) else (j.asker, HandoverRequiredReject cause)

abbrev pub failed : {A : Type 0} → CentreState → Connection → ℕ → Option Join → Outcome A
failed w from cause None = unmoved w
failed w from cause (Some j) = record { centre = without w from; sent = failed_to from cause j ∷ [] }

-- CLEAR REQUEST (clause 3.1.9): the call is cleared with its cause, and the target's side too where the asker sent it. The
-- join ends.
abbrev pub also_cleared : {A : Type 0} → Connection → ℕ → Option Join → List (Connection × Bssmap A)
also_cleared from cause None = []
also_cleared from cause (Some j) = if is_same from j.asker then (j.target, ClearCommand cause) ∷ [] else []

abbrev pub cleared : {A : Type 0} → CentreState → Connection → ℕ → Option Join → Outcome A
cleared w from cause join = record { centre = without w from; sent = (from, ClearCommand cause) ∷ also_cleared from cause join }

-- The centre hangs up (clause 3.1.9): the call is cleared with 'call control'.
abbrev pub hung_up : {A : Type 0} → Connection → Connection × Bssmap A
hung_up call = (call, ClearCommand call_control)

-- What comes of a message. What else may stand on A isn't for the centre, or needs no answer.
abbrev pub Comes : {A : Type 0} → CentreState → Connection → Bssmap A → CentreState → List (CentreOut A) → Type 0
Comes w from (HandoverRequest channel encryption classmark serving target) w' outs = Gives (unmoved w) w' outs
Comes w from (HandoverRequired cause response cells) w' outs = ComesOfRequired w from (route_of w.cells from.controller (slice_get cells 0)) w' outs
Comes w from (HandoverRequestAck layer3) w' outs = Gives (acknowledged w layer3 (join_of w.joins from)) w' outs
Comes w from (HandoverCommand layer3) w' outs = Gives (unmoved w) w' outs
Comes w from (HandoverComplete rr) w' outs = Gives (completed w from (join_of w.joins from)) w' outs
Comes w from (HandoverFailure cause rr) w' outs = Gives (failed w from cause (join_of w.joins from)) w' outs
Comes w from (HandoverPerformed cause cell) w' outs = Gives (unmoved w) w' outs
Comes w from (HandoverRequiredReject cause) w' outs = Gives (unmoved w) w' outs
Comes w from HandoverDetect w' outs = Gives (unmoved w) w' outs
Comes w from (ClearCommand cause) w' outs = Gives (unmoved w) w' outs
Comes w from ClearComplete w' outs = Gives (unmoved w) w' outs
Comes w from (ClearRequest cause) w' outs = Gives (cleared w from cause (join_of w.joins from)) w' outs

-- the message that octets say to the centre, if any
abbrev pub IsSaid : {A : Type 0} → List ℕ → Option (Bssmap A) → Type 0
IsSaid octets (Some message) = IsTextOf message octets
IsSaid {A} octets None = (message : Bssmap A) → IsTextOf message octets → ⊥

-- what comes of the message that octets say; nothing where they say none
abbrev pub ComesIf : {A : Type 0} → CentreState → Connection → Option (Bssmap A) → CentreState → List (CentreOut A) → Type 0
ComesIf w from None w' outs = Gives (unmoved w) w' outs
ComesIf w from (Some message) w' outs = Comes w from message w' outs

-- the call of a controller with these numbers
abbrev pub call_of : ℕ → ℕ → Connection
call_of k call = record { controller = k; call = call }

-- what comes of octets
abbrev pub Steps : {A : Type 0} → CentreState → ℕ → ℕ → List ℕ → CentreState → List (CentreOut A) → Type 0
Steps {A} w k call octets w' outs = (said : Option (Bssmap A)) × IsSaid octets said × ComesIf w (call_of k call) said w' outs

-- Memory may be needed for a message that keeps octets, and where something is sent.
abbrev pub NeedsMemory : {A : Type 0} → CentreState → Connection → Bssmap A → Type 0
NeedsMemory {A} w from (HandoverRequest channel encryption classmark serving target) = KeepsList {A = A} (HandoverRequest channel encryption classmark serving target)
NeedsMemory w from (HandoverRequired cause response cells) = Unit {0}
NeedsMemory w from (HandoverRequestAck layer3) = Unit {0}
NeedsMemory {A} w from (HandoverCommand layer3) = KeepsList {A = A} (HandoverCommand layer3)
NeedsMemory w from (HandoverComplete rr) = IsSome (join_of w.joins from)
NeedsMemory w from (HandoverFailure cause rr) = IsSome (join_of w.joins from)
NeedsMemory w from (HandoverPerformed cause cell) = ⊥
NeedsMemory w from (HandoverRequiredReject cause) = ⊥
NeedsMemory w from HandoverDetect = ⊥
NeedsMemory w from (ClearCommand cause) = ⊥
NeedsMemory w from ClearComplete = ⊥
NeedsMemory w from (ClearRequest cause) = Unit {0}

abbrev pub StepNeedsMemory : (A : Type 0) → CentreState → ℕ → ℕ → List ℕ → Type 0
StepNeedsMemory A w k call octets = (message : Bssmap A) × IsTextOf message octets × NeedsMemory w (call_of k call) message
