-- What is heard of a mobile that gets a message (TS 44.018 clause 3.4.4).
use Rattle.std.specs.Prelude.{ℕ, ◌<◌, Bool, false, ◌==◌, ◌&&◌, List, Option, Some, None, option_map, find}
use Rattle.std.specs.FinMap as map
use Rattle.rr_elements.specs.CellDescription.{Cell}
use Rattle.rr_elements.specs.ChanDescription.{Chan}
use Rattle.rr_messages.specs.declared.message.Rr.{Rr}
use Rattle.rr_messages.specs.declared.message.Rr.TheVariants.{HandoverCommand, HandoverComplete, HandoverFailure, ChannelRelease, PhysicalInformation, MeasurementReport}
use Rattle.rr_messages.specs.Rr.{IsRrText}
use Rattle.bts_model.specs.declared.place.Place.{Place}
use Rattle.bts_model.specs.declared.trx.Trx.{Trx}
use Rattle.bts_model.specs.declared.setting.Habit.{Habit}
use Rattle.bts_model.specs.declared.setting.Habit.TheVariants.{Arrive, Return, Vanish}
use Rattle.bts_model.specs.declared.slots.Activity.{Activity}
use Rattle.bts_model.specs.declared.slots.Activity.TheVariants.{Inactive, Active}
use Rattle.bts_model.specs.declared.slots.Slot.{Slot}
use Rattle.bts_model.specs.declared.mobile.Destination.{Destination}
use Rattle.bts_model.specs.declared.mobile.Response.{Response}
use Rattle.bts_model.specs.declared.mobile.Response.TheVariants.{Unheard, Returned, Arrived}
use Rattle.bts_model.specs.Keys.{key_cmp}
use Rattle.bts_model.specs.World.{slot_in}

-- where a HANDOVER COMMAND sends a mobile (TS 44.018 clause 9.1.15)
abbrev pub destination_of : Cell → Chan → ℕ → Destination
destination_of cell channel reference = record { bcch = cell.arfcn; ncc = cell.ncc; bcc = cell.bcc; carrier = channel.carrier; tn = channel.tn; sub = channel.sub; reference = reference }

-- the channel is active with this handover reference
abbrev pub is_active_with : Activity → ℕ → Bool
is_active_with Inactive reference = false
is_active_with (Active None) reference = false
is_active_with (Active (Some own)) reference = own == reference

-- the channel of a TRX to which a mobile is sent
abbrev pub place_on : Trx → Destination → Place
place_on t d = record { controller = t.controller; channel = record { cell = t.cell; trx = t.trx; tn = d.tn; sub = d.sub } }

-- the destination is on this TRX: its cell has the colour, it has the carrier, and its channel is active with the reference
abbrev pub is_there : map.FinMap key_cmp Slot → Destination → Trx → Bool
is_there slots d t =
    (t.bcch == d.bcch)
    && ((t.ncc == d.ncc)
    && ((t.bcc == d.bcc)
    && ((t.carrier == d.carrier) && is_active_with (slot_in slots (place_on t d)).activity d.reference)))

-- the channel to which a mobile goes: the first controller's lowest cell that has it
abbrev pub target_of : List Trx → map.FinMap key_cmp Slot → Destination → Option Place
target_of trxs slots d = option_map (λ t. place_on t d) (find (is_there slots d) trxs)

-- a mobile that is to arrive goes to the target; where there is none it comes back
abbrev pub arriving : Option Place → Response
arriving None = Returned
arriving (Some y) = Arrived y

-- what a mobile does by its habit
abbrev pub by_habit : Habit → Option Place → Response
by_habit Arrive target = arriving target
by_habit Return target = Returned
by_habit Vanish target = Unheard

-- there is a mobile on an active channel alone
abbrev pub on_active : Activity → Response → Response
on_active Inactive response = Unheard
on_active (Active own) response = response

-- what the mobile on a channel does with a HANDOVER COMMAND
abbrev pub commanded : List Trx → map.FinMap key_cmp Slot → Place → Destination → Response
commanded trxs slots x d = on_active (slot_in slots x).activity (by_habit (slot_in slots x).habit (target_of trxs slots d))

-- and with any message: PHYSICAL INFORMATION is seen by the mobile alone (clause 3.4.4.2.2)
abbrev pub response_to : List Trx → map.FinMap key_cmp Slot → Place → Rr → Response
response_to trxs slots x (HandoverCommand cell channel reference power) = commanded trxs slots x (destination_of cell channel reference)
response_to trxs slots x (HandoverComplete cause) = Unheard
response_to trxs slots x (HandoverFailure cause) = Unheard
response_to trxs slots x (ChannelRelease cause) = Unheard
response_to trxs slots x (PhysicalInformation advance) = Unheard
response_to trxs slots x (MeasurementReport results) = Unheard

-- a channel that a mobile arrives on is on one of the eight timeslots of its TRX
abbrev pub IsOnTimeslot : Response → Type 0
IsOnTimeslot Unheard = Unit {0}
IsOnTimeslot Returned = Unit {0}
IsOnTimeslot (Arrived y) = y.channel.tn < 8

-- what the layer 3 octets say to a mobile, if anything
abbrev pub IsHeard : List ℕ → Option Rr → Type 0
IsHeard octets (Some message) = IsRrText message octets
IsHeard octets None = (message : Rr) → IsRrText message octets → ⊥
