-- What an input says to channels. Ours, of no standard.
use Rattle.std.specs.Prelude.{◌≡◌, ℕ, Bool, false, List, Option, Some, None, Result, Ok, Err, if◌then◌else◌}
use Rattle.attempt_journal.specs.declared.Timer.{Timer}
use Rattle.channel_fsm.specs.declared.ChanId.{ChanId}
use Rattle.exchange.specs.declared.Inbound.{Inbound}
use Rattle.exchange.specs.declared.Inbound.TheVariants as input
use Rattle.link_tables.specs.declared.Heard.{Heard}
use Rattle.link_tables.specs.declared.Heard.TheVariants.{HandoverFailure}
use Rattle.link_tables.specs.Hearing.{same_heard}
use Rattle.link_machine.specs.declared.stations.Said.{Said}
use Rattle.link_machine.specs.Stations.{said_by}
use Rattle.octet_elements.specs.Texts.{Decodes}
use Rattle.rsl_messages.specs.declared.fault.RslFault.{RslFault}
use Rattle.station_messages.specs.declared.head.Head.{Head}
use Rattle.station_messages.specs.Types.{head_codec}

abbrev pub said_if : ℕ → ℕ → Result Head RslFault → Option Said
said_if cell trx (Ok head) = Some (said_by cell trx head)
said_if cell trx (Err fault) = None

-- Octets from a TRX say this to a channel: by their head, if it can be read.
abbrev pub IsSaidAt : ℕ → ℕ → List ℕ → Option Said → Type 0
IsSaidAt cell trx octets said = (head : Result Head RslFault) × Decodes head_codec octets head × (said ≡ said_if cell trx head)

-- An input says this to a channel: that of a station by its head, every other nothing.
abbrev pub Says : {A : Type 0} → Inbound A → Option Said → Type 0
Says (input.Abis cell trx octets) said = IsSaidAt cell trx octets said
Says (input.A c octets) said = said ≡ None
Says (input.Expiry c t) said = said ≡ None
Says (input.Operator line) said = said ≡ None

-- the channel that it is about
abbrev pub chan_of : Option Said → Option ChanId
chan_of None = None
chan_of (Some said) = Some said.chan

-- it hears HANDOVER FAILURE (44.018 clause 9.1.17)
abbrev pub is_failure : Option Heard → Bool
is_failure None = false
is_failure (Some h) = same_heard h HandoverFailure

-- the channel on which the mobile says that it came back
abbrev pub back_on : Option Said → Option ChanId
back_on None = None
back_on (Some said) = if is_failure said.heard then Some said.chan else None

-- the timer of a call that ran out
abbrev pub expired_of : {A : Type 0} → Inbound A → Option (ℕ × Timer)
expired_of (input.Abis cell trx octets) = None
expired_of (input.A c octets) = None
expired_of (input.Expiry c t) = Some (c, t)
expired_of (input.Operator line) = None
