-- The messages: head, and the rows of their elements in the order in which they are read and written.
use Rattle.std.specs.Prelude.{ℕ, ◌<◌, List, Result, Ok}
use Rattle.octet_elements.specs.Elements.{Element}
use Rattle.octet_elements.specs.Lookup.{Lookup}
use Rattle.octet_elements.specs.Rows.{Row, ◌>>=◌, octet, ◌▸◌}
use Rattle.octet_elements.specs.declared.values.ValueFault.{ValueFault}
use Rattle.rsl_messages.specs.declared.message.ChanBits.{ChanBits}
use Rattle.rsl_messages.specs.Forms.{LINK_IDENTIFIER}
use Rattle.rsl_messages.specs.Messages.{channel_number}
use Rattle.station_messages.specs.declared.reading.MessageKind.{MessageKind}
use Rattle.station_messages.specs.declared.reading.MessageKind.TheVariants as kind
use Rattle.station_messages.specs.declared.message.StationMessage.{StationMessage}
use Rattle.station_messages.specs.declared.message.StationMessage.TheVariants.{ReleaseIndication, DeactivateSacch}

-- discriminator and type as they are written (clauses 9.1 and 9.2)
abbrev pub kind_head : MessageKind → ℕ × ℕ
kind_head kind.ReleaseIndication = (0x02, 0x09)
kind_head kind.DeactivateSacch = (0x08, 0x25)

-- RELEASE INDICATION (clause 8.3.9): channel number (9.3.1), link identifier (9.3.2).
abbrev pub release_indication_rows : Row (ChanBits × ℕ)
release_indication_rows = channel_number ▸ octet LINK_IDENTIFIER

-- the message that elements say, or the first fault in the order of its rows. DEACTIVATE SACCH (clause 8.4.5) has the channel
-- number alone.
abbrev pub said : MessageKind → Lookup → Result StationMessage ValueFault
said kind.ReleaseIndication found = release_indication_rows.read found >>= λ (channel, link). Ok (ReleaseIndication channel link)
said kind.DeactivateSacch found = channel_number.read found >>= λ channel. Ok (DeactivateSacch channel)

abbrev pub kind_of : StationMessage → MessageKind
kind_of (ReleaseIndication channel link) = kind.ReleaseIndication
kind_of (DeactivateSacch channel) = kind.DeactivateSacch

abbrev pub elements_of : StationMessage → List Element
elements_of (ReleaseIndication channel link) = release_indication_rows.written (channel, link)
elements_of (DeactivateSacch channel) = channel_number.written channel

-- the channel that it is about
abbrev pub channel_of : StationMessage → ChanBits
channel_of (ReleaseIndication channel link) = channel
channel_of (DeactivateSacch channel) = channel

-- its fields can be said: the timeslot is one
abbrev pub CanBeSaid : StationMessage → Type 0
CanBeSaid message = (channel_of message).tn < 8
