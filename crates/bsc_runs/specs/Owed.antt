-- What the controller is given in another's place. Ours, of no standard.
use Rattle.std.specs.Prelude.{ℕ, ◌==◌, Option, Some, None, if◌then◌else◌}
use Rattle.channel_fsm.specs.declared.ChanId.{ChanId}
use Rattle.cell_table.specs.Site.{is_traffic}
use Rattle.exchange.specs.declared.Inbound.{Inbound}
use Rattle.exchange.specs.declared.Inbound.TheVariants as input
use Rattle.exchange.specs.declared.Line.TheVariants as line
use Rattle.radio_book.specs.State.{State, state_of}
use Rattle.radio_book.specs.Table.{owner}
use Rattle.rsl_messages.specs.declared.message.ChanBits.{ChanBits}
use Rattle.rsl_messages.specs.declared.message.Rsl.{Rsl}
use Rattle.rsl_messages.specs.declared.message.Rsl.TheVariants.{ChannelActivationNack, ConnectionFailureIndication, RfChannelReleaseAck}
use Rattle.rsl_messages.specs.Texts.{canonical_text}
use Rattle.bsc_runs.specs.declared.in_place.Next.{Next}
use Rattle.bsc_runs.specs.declared.in_place.Next.TheVariants.{Settled, Passed, Given}
use Rattle.link_machine.specs.declared.channel.InPlace.{InPlace}
use Rattle.link_machine.specs.declared.channel.InPlace.TheVariants.{Refusal, Release, Failure, OpenBar, EndBar}

-- equipment failure (TS 48.058 clause 9.3.26)
abbrev pub EQUIPMENT_FAILURE : ℕ
EQUIPMENT_FAILURE = 0x20

abbrev pub bits_of : ChanId → ChanBits
bits_of x = record { tn = x.tn; sub = x.sub }

-- the message that its station didn't send
abbrev pub from_station : {A : Type 0} → ChanId → Rsl A → Inbound A
from_station x message = input.Abis x.cell x.trx (canonical_text message)

abbrev pub refusal_on : {A : Type 0} → ChanId → Rsl A
refusal_on x = ChannelActivationNack (bits_of x) EQUIPMENT_FAILURE

abbrev pub release_on : {A : Type 0} → ChanId → Rsl A
release_on x = RfChannelReleaseAck (bits_of x)

abbrev pub failure_on : {A : Type 0} → ChanId → Rsl A
failure_on x = ConnectionFailureIndication (bits_of x) EQUIPMENT_FAILURE

-- the call ends, if it has the channel
abbrev pub ending : {A : Type 0} → ℕ → Option ℕ → Option (Inbound A)
ending c None = None
ending c (Some owner) = if owner == c then Some (input.Operator (line.Clear c)) else None

-- what is given about a channel of the site, for a bar's number
abbrev pub input_for : {A : Type 0} → State → ℕ → ChanId → InPlace → Option (Inbound A)
input_for {A} b fresh x Refusal = Some (from_station x (refusal_on {A = A} x))
input_for {A} b fresh x Release = Some (from_station x (release_on {A = A} x))
input_for {A} b fresh x Failure = Some (from_station x (failure_on {A = A} x))
input_for b fresh x (OpenBar kind) = Some (input.Operator (line.Open fresh x))
input_for b fresh x (EndBar c) = ending c (owner (state_of b x))

abbrev pub in_place : {A : Type 0} → State → ℕ → ChanId → InPlace → Option (Inbound A)
in_place b fresh x what = if is_traffic b.site x then input_for b fresh x what else None

-- what comes next: nothing is owed; what is owed asks for nothing; or this is given about a channel
abbrev pub next_about : {A : Type 0} → ChanId → Option (Inbound A) → Next A
next_about x None = Passed x
next_about x (Some given) = Given x given

abbrev pub next_for : {A : Type 0} → State → ℕ → Option (ChanId × InPlace) → Next A
next_for b fresh None = Settled
next_for b fresh (Some (x, what)) = next_about x (in_place b fresh x what)
