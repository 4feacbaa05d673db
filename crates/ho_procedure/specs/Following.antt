-- What comes of an input's row where it isn't followed to its end.
use Rattle.std.specs.Prelude.{◌≡◌, ◌⊎◌, ◌<◌, ◌≤◌, List, length}
use Rattle.bssmap_messages.specs.declared.message.Bssmap.{Bssmap}
use Rattle.bssmap_messages.specs.declared.message.Bssmap.TheVariants as bssmap
use Rattle.radio_desk.specs.declared.desk.DeskFault.{DeskFault}
use Rattle.radio_desk.specs.declared.desk.DeskFault.TheVariants as fault
use Rattle.exchange.specs.declared.Link.{Link}
use Rattle.exchange.specs.declared.Bad.{Bad}
use Rattle.ho_procedure.specs.declared.following.Stop.{Stop}
use Rattle.ho_procedure.specs.declared.following.Stop.TheVariants as stop
use Rattle.ho_procedure.specs.declared.decoding.Unreadable.{Unreadable}
use Rattle.ho_procedure.specs.declared.decoding.Unreadable.TheVariants as unreadable
use Rattle.ho_procedure.specs.declared.work.Work.{Work}
use Rattle.ho_procedure.specs.Claims.{Entry, Claim}
use Rattle.ho_procedure.specs.Plan.{Plan, Until, AtMemory, AtDesk}
use Rattle.ho_procedure.specs.Going.{Goes}

-- a row of the input was followed so far
abbrev pub StopsInRow : {D A : Type 0} → (D → List Entry) → (D → List Entry → Claim → Type 0) → Work D A → (Plan → Type 0) → Work D A → Until → Type 0
StopsInRow log says w IsRow w' u = (p : Plan) × IsRow p × Goes log says w p w' u

-- Octets that can't be read, or whose memory was refused, leave all as it was; else the row was followed up to a step that
-- takes memory, or that asks the desk, which doesn't know the view's last receipt.
abbrev pub Stopped : {D A : Type 0} → (D → List Entry) → (D → List Entry → Claim → Type 0) → Work D A → (Plan → Type 0) → (Link → Bad → Type 0) → Type 0 → Work D A → Stop → Type 0
Stopped log says w IsRow CantBeRead MayRefuse w' (stop.Undecoded l b) = CantBeRead l b × (w' ≡ w)
Stopped log says w IsRow CantBeRead MayRefuse w' stop.NoMemory = StopsInRow log says w IsRow w' AtMemory ⊎ (MayRefuse × (w' ≡ w))
Stopped log says w IsRow CantBeRead MayRefuse w' (stop.Desk place) = StopsInRow log says w IsRow w' (AtDesk place)

-- why a row stops by such a fault
abbrev pub IsStopFor : DeskFault → Stop → Type 0
IsStopFor (fault.Foreign place) s = s ≡ stop.Desk place
IsStopFor fault.NoMemory s = s ≡ stop.NoMemory

abbrev pub IsStopOf : Unreadable → Stop → Type 0
IsStopOf (unreadable.Undecoded l b) s = s ≡ stop.Undecoded l b
IsStopOf unreadable.NoMemory s = s ≡ stop.NoMemory

-- what a message on A has for the mobile can be passed on in a DATA REQUEST, unread
abbrev pub CanBePassedOn : {A : Type 0} → Bssmap A → Type 0
CanBePassedOn (bssmap.HandoverCommand layer3) = (0 < length layer3) × (length layer3 ≤ 1015)
CanBePassedOn (bssmap.HandoverRequest channel encryption classmark serving target) = Unit {0}
CanBePassedOn (bssmap.HandoverRequired cause response cells) = Unit {0}
CanBePassedOn (bssmap.HandoverRequestAck layer3) = Unit {0}
CanBePassedOn (bssmap.HandoverComplete cause) = Unit {0}
CanBePassedOn (bssmap.HandoverFailure cause inner) = Unit {0}
CanBePassedOn (bssmap.HandoverPerformed cause cell) = Unit {0}
CanBePassedOn (bssmap.HandoverRequiredReject cause) = Unit {0}
CanBePassedOn bssmap.HandoverDetect = Unit {0}
CanBePassedOn (bssmap.ClearCommand cause) = Unit {0}
CanBePassedOn bssmap.ClearComplete = Unit {0}
CanBePassedOn (bssmap.ClearRequest cause) = Unit {0}
