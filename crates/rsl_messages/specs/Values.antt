-- What the value of an element says, and how it is written (TS 48.058 clause 9.3).
use Rattle.std.specs.Prelude.{ℕ, ◌+◌, ◌*◌, ◌/◌, ◌%◌, List, [], ◌∷◌, Option, Some, None, Result, Ok, Err}
use Rattle.octet_elements.specs.ChannelTypes.{type_of, sub_of}
use Rattle.timeslots.specs.declared.Sub.{Sub}
use Rattle.octet_elements.specs.declared.values.ValueFault.{ValueFault}
use Rattle.octet_elements.specs.declared.values.ValueFault.TheVariants.{Absent, Bad}
use Rattle.rsl_messages.specs.declared.message.ChanBits.{ChanBits}
use Rattle.rsl_messages.specs.Forms.{CHANNEL_NUMBER}
use Rattle.rsl_messages.specs.declared.fault.RslFault.{RslFault}
use Rattle.rsl_messages.specs.declared.fault.RslFault.TheVariants.{Missing, BadElement}

-- the fault that a message has by its element
abbrev pub fault_of : ValueFault → RslFault
fault_of (Absent i) = Missing i
fault_of (Bad i) = BadElement i

-- Channel number (clause 9.3.1): bits 8 to 4 are the channel type, that of a traffic channel, and bits 3 to 1 the timeslot.
abbrev pub channel_with : Option Sub → ℕ → Result ChanBits ValueFault
channel_with None tn = Err (Bad CHANNEL_NUMBER)
channel_with (Some sub) tn = Ok (record { tn = tn; sub = sub })

abbrev pub channel_in : Option (List ℕ) → Result ChanBits ValueFault
channel_in None = Err (Absent CHANNEL_NUMBER)
channel_in (Some []) = Err (Bad CHANNEL_NUMBER)
channel_in (Some (octet ∷ v)) = channel_with (sub_of (octet / 8)) (octet % 8)

abbrev pub channel_octet : ChanBits → ℕ
channel_octet channel = 8 * type_of channel.sub + channel.tn

-- The link identifier (clause 9.3.2) of the main signalling channel, SAPI 0.
abbrev pub main_signalling : ℕ
main_signalling = 0

-- A cause (clause 9.3.26).
abbrev pub equipment_failure : ℕ
equipment_failure = 0x20
