-- The messages of the procedure, each in its canonical text.
use Rattle.std.specs.Prelude.{ℕ, Bool, true, false, nat_lt, if◌then◌else◌, List, [], ◌∷◌, Option, Some, None, option_map, option_and_then, slice_get}
use Rattle.timeslots.specs.declared.Rate.{Rate}
use Rattle.timeslots.specs.declared.Rate.TheVariants.{Full, Half}
use Rattle.timeslots.specs.Parts.{rate_of}
use Rattle.channel_fsm.specs.declared.ChanId.{ChanId}
use Rattle.cell_table.specs.declared.tables.CellIdentity.{CellIdentity}
use Rattle.cell_table.specs.Site.{SiteView, CellView, TrxView, is_traffic, identity_at}
use Rattle.rr_messages.specs.declared.message.Rr.{Rr}
use Rattle.rr_messages.specs.declared.message.Rr.TheVariants.{HandoverCommand, ChannelRelease}
use Rattle.rr_messages.specs.Rr.{rr_text}
use Rattle.rsl_messages.specs.declared.message.ChanBits.{ChanBits}
use Rattle.rsl_messages.specs.declared.message.Rsl.{Rsl}
use Rattle.rsl_messages.specs.declared.message.Rsl.TheVariants.{DataRequest, ChannelActivation, RfChannelRelease}
use Rattle.rsl_messages.specs.Texts as abis
use Rattle.rsl_messages.specs.Values.{main_signalling}
use Rattle.bssmap_messages.specs.declared.message.CellId.{CellId}
use Rattle.bssmap_messages.specs.declared.message.Bssmap.{Bssmap}
use Rattle.bssmap_messages.specs.declared.message.Bssmap.TheVariants.{HandoverRequired, HandoverRequestAck, HandoverComplete, HandoverFailure, HandoverPerformed, HandoverDetect, ClearComplete, ClearRequest}
use Rattle.bssmap_messages.specs.Causes.{better_cell}
use Rattle.bssmap_messages.specs.Texts as interface_a
use Rattle.ho_procedure.specs.Sent.{Sent, OnAbis, OnA}

-- Messages on Abis (TS 48.058).

-- a message about a channel: it goes to the channel's TRX and names its timeslot, or the half of it
abbrev pub about : ChanId → (ChanBits → Rsl Unit) → Sent
about x message = OnAbis x.cell x.trx (abis.canonical_text (message (record { tn = x.tn; sub = x.sub })))

-- a message can name the timeslot of the channel (clause 9.3.1)
abbrev pub is_nameable : ChanId → Bool
is_nameable x = nat_lt x.tn 8

-- speech, version 1, at the full rate (Bm) or half of it (Lm), without discontinuous transmission (clause 9.3.6)
abbrev pub speech : Rate → List ℕ
speech Full = 0 ∷ 1 ∷ 8 ∷ 1 ∷ []
speech Half = 0 ∷ 1 ∷ 9 ∷ 1 ∷ []

-- CHANNEL ACTIVATION for an immediate assignment, type 0 (clauses 8.4.1 and 9.3.3)
abbrev pub activation : ChanId → Sent
activation x = about x (λ channel. ChannelActivation channel 0 (speech (rate_of x.sub)) None)

-- CHANNEL ACTIVATION for an asynchronous handover, type 2, with its reference (clauses 8.4.1, 9.3.3 and 9.3.9)
abbrev pub target_activation : ChanId → ℕ → Sent
target_activation x n = about x (λ channel. ChannelActivation channel 2 (speech (rate_of x.sub)) (Some n))

-- RF CHANNEL RELEASE (clause 8.4.14)
abbrev pub release : ChanId → Sent
release x = about x RfChannelRelease

-- DATA REQUEST on the main signalling channel, SAPI 0 (clauses 8.3.1 and 9.3.2), with octets that weren't read
abbrev pub data_request : ChanId → List ℕ → Sent
data_request x layer3 = about x (λ channel. DataRequest channel main_signalling layer3)

-- Radio resource messages to a mobile (TS 44.018), each in a DATA REQUEST.

abbrev pub to_mobile : ChanId → Rr → Sent
to_mobile x message = data_request x (rr_text message)

-- HANDOVER COMMAND (clause 9.1.15): the cell (10.5.2.2), the channel, whose training sequence code is the cell's BCC
-- (10.5.2.5a), the reference (10.5.2.15), and the cell's power level, the handover access not left out (10.5.2.28a)
abbrev pub handover_command : CellView → TrxView → ChanId → ℕ → Rr
handover_command cell trx x n =
    HandoverCommand (record { arfcn = cell.identity.bcch; ncc = cell.identity.ncc; bcc = cell.identity.bcc }) (record { tn = x.tn; sub = x.sub; tsc = cell.identity.bcc; carrier = trx.arfcn }) n
    (record { atc = false; level = cell.power })

-- the command to a channel of the site; to one that isn't its traffic channel there is none
abbrev pub command_to : SiteView → ChanId → ℕ → Option Rr
command_to site x n =
    if is_traffic site x then option_and_then (λ cell. option_map (λ trx. handover_command cell trx x n) (slice_get cell.trx x.trx)) (slice_get site.cells x.cell) else None

-- CHANNEL RELEASE (clause 9.1.7) with its RR cause (10.5.2.31)
abbrev pub channel_release : ChanId → ℕ → Sent
channel_release x cause = to_mobile x (ChannelRelease (record { 0 = cause }))

-- Messages on A (TS 48.008).

abbrev pub about_call : ℕ → Bssmap Unit → Sent
about_call c message = OnA c (interface_a.canonical_text message)

-- a cell by its location area code and cell identity (clause 3.2.2.17)
abbrev pub cell_id : CellIdentity → CellId
cell_id identity = record { lac = Some identity.lac; ci = identity.ci }

-- the identity of a cell of the site, own or outside
abbrev pub cell_id_at : SiteView → ℕ → Option CellId
cell_id_at site cell = option_map cell_id (identity_at site cell)

-- CLEAR REQUEST (clause 3.2.1.20)
abbrev pub clear_request : ℕ → ℕ → Sent
clear_request c cause = about_call c (ClearRequest cause)

-- CLEAR COMPLETE (clause 3.2.1.22)
abbrev pub clear_complete : ℕ → Sent
clear_complete c = about_call c ClearComplete

-- HANDOVER PERFORMED (clause 3.2.1.25): cause better cell, and the new cell
abbrev pub handover_performed : ℕ → CellId → Sent
handover_performed c cell = about_call c (HandoverPerformed better_cell cell)

-- HANDOVER REQUIRED (clause 3.2.1.9): cause better cell, with a response request, and one cell
abbrev pub handover_required : ℕ → CellId → Sent
handover_required c cell = about_call c (HandoverRequired better_cell true (cell ∷ []))

-- HANDOVER REQUEST ACKNOWLEDGE (clause 3.2.1.10) with the message for the mobile
abbrev pub handover_request_ack : ℕ → Rr → Sent
handover_request_ack c message = about_call c (HandoverRequestAck (rr_text message))

-- HANDOVER DETECT (clause 3.2.1.40)
abbrev pub handover_detect : ℕ → Sent
handover_detect c = about_call c HandoverDetect

-- HANDOVER COMPLETE (clause 3.2.1.12) with the mobile's RR cause
abbrev pub handover_complete : ℕ → ℕ → Sent
handover_complete c rr = about_call c (HandoverComplete (Some rr))

-- HANDOVER FAILURE (clause 3.2.1.16), with the mobile's RR cause where it gave one
abbrev pub handover_failure : ℕ → ℕ → Option ℕ → Sent
handover_failure c cause rr = about_call c (HandoverFailure cause rr)
