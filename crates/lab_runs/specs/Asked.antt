-- What a line asks of its controller's book, as that is when the line is played. Ours, of no standard; the octets are those of
-- TS 48.058 clause 8.
use Rattle.std.specs.Prelude.{◌≡◌, ◌↔◌, ◌⊎◌, ◌++◌, ◌+◌, ◌*◌, ◌==◌, ◌&&◌, ℕ, Bool, true, false, not, if◌then◌else◌, List, [], ◌∷◌, length, take, replicate, Option, Some, None, option_and_then, Result, Ok, Err}
use Rattle.std.specs.List.{list_any}
use Rattle.std.specs.Option.{option_or}
use Rattle.channel_fsm.specs.declared.ChanId.{ChanId}
use Rattle.channel_fsm.specs.Keys.{same_chan}
use Rattle.cell_table.specs.Site.{SiteView, channels}
use Rattle.cell_table.specs.Neighbours.{IsNamedCell}
use Rattle.rr_elements.specs.declared.measurement.MeasHead.{MeasHead}
use Rattle.rr_elements.specs.declared.measurement.Ncell.{Ncell}
use Rattle.rr_elements.specs.MeasResults.{Results, ResultsFit}
use Rattle.rr_messages.specs.declared.message.Rr.TheVariants.{MeasurementReport}
use Rattle.rr_messages.specs.Rr.{rr_text}
use Rattle.rsl_messages.specs.declared.message.Rsl.TheVariants.{MeasurementResult}
use Rattle.rsl_messages.specs.Texts.{canonical_text}
use Rattle.radio_tables.specs.declared.kinds.CallRecord.{CallRecord}
use Rattle.radio_tables.specs.States.{channel_row, owner}
use Rattle.radio_book.specs.declared.event.Event.{Event}
use Rattle.radio_book.specs.declared.event.Reply.{Reply}
use Rattle.radio_book.specs.Facts.{event_facts}
use Rattle.radio_book.specs.Kinds.{is_accepted}
use Rattle.radio_book.specs.State.{State, state_of, record_of}
use Rattle.radio_desk.specs.Desk.{DeskState}
use Rattle.exchange.specs.declared.Inbound.{Inbound}
use Rattle.exchange.specs.declared.Inbound.TheVariants as inbound
use Rattle.bts_model.specs.declared.answer.Answer.{Answer}
use Rattle.bts_model.specs.declared.answer.Answer.TheVariants as answer
use Rattle.bts_model.specs.Answers.{octets_of}
use Rattle.bts_model.specs.Names.{bits_of}
use Rattle.lab_script.specs.declared.asked.Heard.{Heard}
use Rattle.lab_script.specs.declared.asked.Report.{Report}
use Rattle.lab_script.specs.declared.asked.Whom.{Whom}
use Rattle.lab_script.specs.declared.asked.Whom.TheVariants as whom
use Rattle.lab_script.specs.declared.asked.Asked.{Asked}
use Rattle.lab_script.specs.declared.asked.Asked.TheVariants as asks
use Rattle.run_listeners.specs.declared.unmet.Unmet.{Unmet}

-- an entry of a history
abbrev pub Entry : Type 0
Entry = Event × Reply

-- the channel that a call is on
abbrev pub serving_channel : Option CallRecord → Option ChanId
serving_channel known = option_and_then (λ r. r.serving) known

-- the one that it is to move to; where it isn't, the one that it is on
abbrev pub target_of : CallRecord → Option ChanId
target_of r = option_or (option_and_then (λ a. a.target) r.attempt) r.serving

abbrev pub target_channel : Option CallRecord → Option ChanId
target_channel known = option_and_then target_of known

-- the one whose mobile is the call's
abbrev pub mobile_channel : State → ℕ → Option ChanId
mobile_channel b call = option_or (serving_channel (record_of b call)) (target_channel (record_of b call))

-- the call to which an event gives a channel, and that channel
abbrev pub given_by : Event → Option (ℕ × ChanId)
given_by e = (event_facts e).gives

-- the call to which an entry gave a channel, and that channel; an event that was refused gave none
abbrev pub given_in : Entry → Option (ℕ × ChanId)
given_in e = if is_accepted e.1 then given_by e.0 else None

-- the channel that an entry gave a call
abbrev pub taken_by : ℕ → Entry → Option ChanId
taken_by call e = option_and_then (λ p. if p.0 == call then Some p.1 else None) (given_in e)

-- an entry gave this channel to a call
abbrev pub is_given : ChanId → Option (ℕ × ChanId) → Bool
is_given x None = false
is_given x (Some p) = same_chan p.1 x

abbrev pub takes : ChanId → Entry → Bool
takes x e = is_given x (given_in e)

-- nobody got a channel since, and its release is awaited
abbrev pub is_left : State → List Entry → ChanId → Bool
is_left b later x = not (list_any (takes x) later) && (channel_row (state_of b x)).off

-- the last such channel that a call got: it was the call's
abbrev pub released_by : State → List Entry → Option ChanId → Option ChanId
released_by b later None = None
released_by b later (Some x) = if is_left b later x then Some x else None

abbrev pub released_in : State → ℕ → List Entry → Option ChanId
released_in b call [] = None
released_in b call (e ∷ later) = option_or (released_in b call later) (released_by b later (taken_by call e))

abbrev pub released_channel : DeskState → ℕ → Option ChanId
released_channel d call = released_in d.book call d.history

-- The channel of a call that an answer is about: that its activation was answered, and what is heard of a mobile that comes, is
-- about its target, or the channel that it begins on; that a mobile came back is about the channel that it is on (TS 44.018
-- clause 3.4.4.4); that a channel was released, about the last that it left.
abbrev pub channel_of : DeskState → ℕ → Answer → Option ChanId
channel_of d call answer.ActivationAck = target_channel (record_of d.book call)
channel_of d call answer.ActivationNack = target_channel (record_of d.book call)
channel_of d call answer.ReleaseAck = released_channel d call
channel_of d call answer.Detection = target_channel (record_of d.book call)
channel_of d call answer.Complete = target_channel (record_of d.book call)
channel_of d call answer.Failure = serving_channel (record_of d.book call)

-- octets that come from a channel's TRX
abbrev pub from_station : {A : Type 0} → ChanId → List ℕ → Inbound A
from_station x octets = inbound.Abis x.cell x.trx octets

-- what a station says of a channel
abbrev pub answered : {A : Type 0} → ChanId → Answer → Inbound A
answered x answer = from_station x (octets_of (bits_of x) answer)

-- what a mobile in a cell measures of a neighbour, which it names by its position and its code (TS 44.018 clause 10.5.2.20)
pub record IsHeard (site : SiteView) (cell : ℕ) (h : Heard) (n : Ncell) : Type 0 where
  pub level : n.level ≡ h.level
  pub named : IsNamedCell site cell n.position n.bsic h.cell

-- and of all that it hears
abbrev pub AreHeard : SiteView → ℕ → List (Option Heard) → List Ncell → Type 0
AreHeard site cell [] [] = Unit {0}
AreHeard site cell [] (n ∷ ns) = ⊥
AreHeard site cell (None ∷ hs) ns = AreHeard site cell hs ns
AreHeard site cell (Some h ∷ hs) [] = ⊥
AreHeard site cell (Some h ∷ hs) (n ∷ ns) = IsHeard site cell h n × AreHeard site cell hs ns

-- nothing of what it hears is left out, behind what was measured before; or it can't measure one of them
abbrev pub Measures : SiteView → ℕ → List (Option Heard) → List Ncell → Result Unit Unmet → List Ncell → Type 0
Measures site cell hs before (Ok done) all = (ns : List Ncell) × (all ≡ before ++ ns) × ((others : List Ncell) → AreHeard site cell hs others ↔ (others ≡ ns))
Measures site cell hs before (Err unmet) all = (ns : List Ncell) → AreHeard site cell hs ns → ⊥

-- the results that a mobile reports: they are valid, and go by the one list of neighbours
abbrev pub head_of : Report → ℕ → MeasHead
head_of report count = record {
  ba = false;
  dtx = report.dtx;
  full = report.full;
  ba3g = false;
  valid = true;
  sub = report.sub;
  si23 = false;
  qfull = report.qfull;
  qsub = report.qsub;
  count = count;
}

abbrev pub results_of : Report → List Ncell → Results
results_of report ns = record { head = head_of report (length ns); neighbours = ns }

-- the station measures of the mobile what the mobile measures (TS 48.058 clause 9.3.25)
abbrev pub uplink_of : Results → List ℕ
uplink_of v = v.head.full ∷ v.head.sub ∷ (8 * v.head.qfull + v.head.qsub) ∷ []

-- MEASUREMENT RESULT of number 0 without the report (clause 8.4.8)
abbrev pub result_of : ChanId → ℕ → Results → List ℕ
result_of x power v = canonical_text {A = Unit} (MeasurementResult (bits_of x) 0 (uplink_of v) power None)

-- the element with the timing advance, and power level 0 of the mobile (clause 9.3.10)
abbrev pub timing_of : Option ℕ → List ℕ
timing_of None = []
timing_of (Some ta) = 0x0A ∷ 0 ∷ ta ∷ []

-- and with the report, of 18 octets (clause 9.3.11)
abbrev pub reported : {A : Type 0} → ChanId → Report → Results → Inbound A
reported x report v = from_station x ((result_of x report.power v ++ timing_of report.ta) ++ 0x0B ∷ 0 ∷ 18 ∷ rr_text (MeasurementReport v))

-- a station passes this on of the mobile on a channel
pub record IsReport {A : Type 0} (site : SiteView) (x : ChanId) (report : Report) (input : Inbound A) : Type 0 where
  pub neighbours : List Ncell
  pub heard : AreHeard site x.cell report.heard neighbours
  pub fit : ResultsFit (results_of report neighbours)
  pub passed : input ≡ reported x report (results_of report neighbours)

-- it does, or there is nothing that it could pass on
abbrev pub IsReported : {A : Type 0} → SiteView → ChanId → Report → Result (Inbound A) Unmet → Type 0
IsReported site x report (Ok input) = IsReport site x report input
IsReported {A} site x report (Err unmet) = (input : Inbound A) → IsReport site x report input → ⊥

-- these are the reports about a channel, so often as is asked; none, where there is nothing to report
abbrev pub AreReportsOn : {A : Type 0} → SiteView → Report → ChanId → List (Inbound A) → Type 0
AreReportsOn {A} site report x inputs =
    ((input : Inbound A) × IsReport site x report input × (inputs ≡ replicate report.times input))
    ⊎ (((input : Inbound A) → IsReport site x report input → ⊥) × (inputs ≡ []))

-- about the channel of a call, where it is on one
abbrev pub AreReportsAt : {A : Type 0} → SiteView → Report → Option ChanId → List (Inbound A) → Type 0
AreReportsAt site report None inputs = inputs ≡ []
AreReportsAt site report (Some x) inputs = AreReportsOn site report x inputs

-- a call is on a channel
abbrev pub is_at : ChanId → Option ChanId → Bool
is_at x None = false
is_at x (Some y) = same_chan y x

abbrev pub is_used_by : State → ChanId → Option ℕ → Bool
is_used_by b x None = false
is_used_by b x (Some call) = is_at x (serving_channel (record_of b call))

abbrev pub is_on : State → ChanId → Bool
is_on b x = is_used_by b x (owner (state_of b x))

-- about those of some channels that a call is on, in their order
abbrev pub AreReportsIf : {A : Type 0} → SiteView → Report → ChanId → Bool → List (Inbound A) → Type 0
AreReportsIf site report x true inputs = AreReportsOn site report x inputs
AreReportsIf site report x false inputs = inputs ≡ []

abbrev pub AreReportsOfAll : {A : Type 0} → State → Report → List ChanId → List (Inbound A) → Type 0
AreReportsOfAll b report [] inputs = inputs ≡ []
AreReportsOfAll {A} b report (x ∷ xs) inputs =
    (here : List (Inbound A)) × (rest : List (Inbound A)) × AreReportsIf b.site report x (is_on b x) here × AreReportsOfAll b report xs rest × (inputs ≡ here ++ rest)

-- of one mobile or of all
abbrev pub AreReportsOf : {A : Type 0} → State → Whom → Report → List (Inbound A) → Type 0
AreReportsOf b (whom.Call call) report inputs = AreReportsAt b.site report (serving_channel (record_of b call)) inputs
AreReportsOf b whom.All report inputs = AreReportsOfAll b report (channels b.site) inputs

-- what a station says of a channel, where there is one
abbrev pub answers_at : {A : Type 0} → Answer → Option ChanId → List (Inbound A)
answers_at answer None = []
answers_at answer (Some x) = answered x answer ∷ []

-- these are the inputs that a line asks of a desk's book
abbrev pub AreAsked : {A : Type 0} → DeskState → Asked → List (Inbound A) → Type 0
AreAsked d (asks.Report whom report) inputs = AreReportsOf d.book whom report inputs
AreAsked d (asks.Answer call answer) inputs = inputs ≡ answers_at answer (channel_of d call answer)

-- behind others these reports come about a channel
abbrev pub AddsReports : {A : Type 0} → SiteView → Report → ChanId → List (Inbound A) → List (Inbound A) → Type 0
AddsReports {A} site report x before after = (here : List (Inbound A)) × AreReportsOn site report x here × (after ≡ before ++ here)

abbrev pub AddsReportsIfOn : {A : Type 0} → State → Report → ChanId → List (Inbound A) → List (Inbound A) → Type 0
AddsReportsIfOn {A} b report x before after = (here : List (Inbound A)) × AreReportsIf b.site report x (is_on b x) here × (after ≡ before ++ here)

-- these are the reports of the first so many channels
abbrev pub AreReportsUpTo : {A : Type 0} → State → Report → ℕ → List (Inbound A) → Type 0
AreReportsUpTo b report n inputs = AreReportsOfAll b report (take n (channels b.site)) inputs
