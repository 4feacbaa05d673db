-- What a channel does where something is heard about it: messages of its station (TS 48.058 clauses 4 and 8), timers (TS 44.018
-- clause 11.1.2), its link, operators. The numbers are those of docs/LINKS.md.
use Rattle.std.specs.Prelude.{ℕ, ◌==◌, ◌&&◌, Bool, true, false, List, [], ◌∷◌, ◌++◌, map, find, Option, Some, None}
use Rattle.link_tables.specs.declared.Lchan.{Lchan}
use Rattle.link_tables.specs.declared.Lchan.TheVariants.{Rest, Activating, On, Mobile, Guard, Releasing, Closing, Reopening, Lost}
use Rattle.link_tables.specs.declared.Heard.{Heard}
use Rattle.link_tables.specs.declared.Heard.TheVariants.{ActivationAck, ActivationNack, ReleaseAck, ConnectionFailure, HandoverDetection, HandoverComplete, HandoverFailure, MeasurementResult, DataIndication, EstablishIndication, ReleaseIndication, Expired, LinkLost, LinkUp, BarAsked, UnbarAsked}
use Rattle.link_tables.specs.declared.BarKind.{BarKind}
use Rattle.link_tables.specs.declared.BarKind.TheVariants.{Timed, Lasting}
use Rattle.link_tables.specs.declared.Holder.{Holder}
use Rattle.link_tables.specs.declared.Holder.TheVariants.{Nobody, Past, Barred, Call}
use Rattle.link_tables.specs.declared.Timer.TheVariants.{Activation, T3109, T3111, Release, Bar}
use Rattle.link_tables.specs.declared.Act.TheVariants as act
use Rattle.link_tables.specs.declared.Act.TheVariants.{Give, Pass, Count, RefuseInPlace, ReleaseInPlace, FailInPlace, KeepFailure, SendActivation, SendRelease, Start, Stop, OpenBar, EndBar}
use Rattle.link_tables.specs.declared.Step.{Step}
use Rattle.link_tables.specs.Acts.{Acts, nothing, one, two, three, stopped, lchans, same_lchan}

-- WHO HAS THE CHANNEL

abbrev pub anyone : Holder → Bool
anyone holder = true

-- no call has it, and the book waits for nothing
abbrev pub nobody : Holder → Bool
nobody Nobody = true
nobody Past = false
nobody (Barred kind) = false
nobody (Call c) = false

-- a bar has it
abbrev pub barred : Holder → Bool
barred Nobody = false
barred Past = false
barred (Barred kind) = true
barred (Call c) = false

abbrev ends_by_clock : BarKind → Bool
ends_by_clock Timed = true
ends_by_clock Lasting = false

-- a bar that a clock ends
abbrev pub timed : Holder → Bool
timed Nobody = false
timed Past = false
timed (Barred kind) = ends_by_clock kind
timed (Call c) = false

-- a call is served on it, and has an attempt at handover
abbrev pub leaves : Holder → Bool
leaves Nobody = false
leaves Past = false
leaves (Barred kind) = false
leaves (Call c) = c.leaves

-- a call is to arrive on it, and its mobile was told to leave where it is
abbrev pub arrives : Holder → Bool
arrives Nobody = false
arrives Past = false
arrives (Barred kind) = false
arrives (Call c) = c.arrives

-- a call is served on it, and its mobile was told to leave it
abbrev pub returns : Holder → Bool
returns Nobody = false
returns Past = false
returns (Barred kind) = false
returns (Call c) = c.returns

-- the measurements of its call are heeded
abbrev pub reports : Holder → Bool
reports Nobody = false
reports Past = false
reports (Barred kind) = false
reports (Call c) = c.reports

-- ROWS

-- in this state, where this is heard, and it is so with who has the channel: these acts, and the state behind them
pub record Row : Type 0 where
  pub state : Lchan
  pub heard : Heard
  pub who : Holder → Bool
  pub acts : Acts
  pub next : Lchan

abbrev row : Lchan → Heard → (Holder → Bool) → Acts → Lchan → Row
row state heard who acts next = record { state = state; heard = heard; who = who; acts = acts; next = next }

-- one state and one thing that is heard
abbrev singles : List Row
singles =
    -- L4: it is active; the controller reads the answer (48.058 clause 8.4.2)
    row Activating ActivationAck anyone (two (Stop Activation) Give) On ∷
    -- L6: it isn't; the channel is barred (48.058 clause 8.4.3)
    row Activating ActivationNack anyone (three (Stop Activation) Give act.Bar) Rest ∷
    -- L7: no answer: it may be active, so that it is released; where that is under way already, nothing more is sent
    row Activating (Expired Activation) anyone (three SendRelease RefuseInPlace act.Bar) Closing ∷
    row Reopening (Expired Activation) anyone (two RefuseInPlace act.Bar) Closing ∷
    -- L12: the mobile has left the link (44.018 clause 3.4.13.1)
    row Mobile ReleaseIndication anyone (two (Stop T3109) (Start T3111)) Guard ∷
    -- L13: it is released at last (44.018 clause 11.1.2)
    row Mobile (Expired T3109) anyone (two SendRelease (Start Release)) Releasing ∷
    row Guard (Expired T3111) anyone (two SendRelease (Start Release)) Releasing ∷
    -- L15: no answer: the book goes on without it, the channel doesn't
    row Releasing (Expired Release) anyone (two ReleaseInPlace act.Bar) Closing ∷
    -- L17: now that it is at rest, the activation that was kept leaves (48.058 clause 8.4.1)
    row Reopening ReleaseAck anyone (two SendActivation (Start Activation)) Activating ∷
    -- L19: kept, too, where the call has an attempt at handover (48.058 clause 8.4.4)
    row On ConnectionFailure leaves (two Give KeepFailure) On ∷
    row On ConnectionFailure anyone (one Give) On ∷
    -- L21: unless the call's measurements aren't heeded (48.058 clause 8.4.8)
    row On MeasurementResult reports (one Give) On ∷
    -- L24: the call can't be heard any more (48.058 clause 8.4.4)
    row On LinkLost leaves (two FailInPlace KeepFailure) Lost ∷
    row On LinkLost anyone (one FailInPlace) Lost ∷
    -- B2: the clock of a bar ran out
    row Rest (Expired Bar) timed (one EndBar) Rest ∷
    -- B4: an operator bars a channel that no call has, or ends a bar
    row Rest BarAsked nobody (one (OpenBar Lasting)) Rest ∷
    row Rest UnbarAsked barred (one EndBar) Rest ∷
    row Closing UnbarAsked barred (one EndBar) Closing ∷ []

-- L14: it is at rest (48.058 clause 8.4.19)
abbrev released : List Row
released = map (λ s. row s ReleaseAck anyone (stopped s ∷ Some Give ∷ None ∷ []) Rest) (Mobile ∷ Guard ∷ Releasing ∷ [])

-- L16, L25: RF CHANNEL RELEASE ACKNOWLEDGE or the link's end alone ends Closing; and then B3: the bar ends with it
abbrev ended : List Row
ended = map (λ h. row Closing h barred (one EndBar) Rest) (ReleaseAck ∷ LinkLost ∷ []) ++
    map (λ h. row Closing h anyone nothing Rest) (ReleaseAck ∷ LinkLost ∷ [])

-- L18: a station that speaks on a channel of no call has it active: it is released
abbrev strays : List Row
strays = map (λ h. row Rest h nobody (two SendRelease Count) Closing)
    (ActivationAck ∷ ConnectionFailure ∷ HandoverDetection ∷ HandoverComplete ∷ HandoverFailure ∷
    MeasurementResult ∷ DataIndication ∷ EstablishIndication ∷ [])

-- L20, L27: a mobile arrives, and not a stranger (48.058 clauses 4.3 and 8.4.7, 44.018 clause 9.1.16). Where the link was lost
-- the station went on.
abbrev arrivals : List Row
arrivals = map (λ h. row On h arrives (one Give) On) (HandoverDetection ∷ HandoverComplete ∷ []) ++
    map (λ h. row Lost h arrives (one Give) On) (HandoverDetection ∷ HandoverComplete ∷ [])

-- L34: the mobile came back (44.018 clauses 3.4.4.4 and 9.1.17)
abbrev back : List Row
back = map (λ s. row s HandoverFailure returns (one Give) s) (On ∷ Lost ∷ [])

-- L33: what the rows of calls are for (48.058 clause 8.3)
abbrev passed : List Row
passed = map (λ h. row On h anyone (one Pass) On) (DataIndication ∷ EstablishIndication ∷ ReleaseIndication ∷ []) ++
    map (λ h. row Lost h anyone (one Pass) Lost) (DataIndication ∷ EstablishIndication ∷ ReleaseIndication ∷ [])

-- L22, L23: with its link a channel is at rest. Whoever waits for the station's answer is given one in its place.
abbrev lost : List Row
lost = map (λ s. row s LinkLost anyone (stopped s ∷ Some RefuseInPlace ∷ None ∷ []) Rest) (Activating ∷ Reopening ∷ []) ++
    map (λ s. row s LinkLost anyone (stopped s ∷ Some ReleaseInPlace ∷ None ∷ []) Rest) (Releasing ∷ Mobile ∷ Guard ∷ []) ++
    map (λ s. row s LinkLost anyone nothing s) (Rest ∷ Lost ∷ [])

-- L26: the channels are as they are when the link comes (48.058 clause 6.1)
abbrev came : List Row
came = map (λ s. row s LinkUp anyone nothing s) lchans

-- The rows: the first that fits counts.
abbrev pub rows : List Row
rows = singles ++ released ++ ended ++ strays ++ arrivals ++ back ++ passed ++ lost ++ came

-- THE STEP

abbrev pub heard_number : Heard → ℕ
heard_number ActivationAck = 0
heard_number ActivationNack = 1
heard_number ReleaseAck = 2
heard_number ConnectionFailure = 3
heard_number HandoverDetection = 4
heard_number HandoverComplete = 5
heard_number MeasurementResult = 6
heard_number DataIndication = 7
heard_number EstablishIndication = 8
heard_number ReleaseIndication = 9
heard_number LinkLost = 10
heard_number LinkUp = 11
heard_number BarAsked = 12
heard_number UnbarAsked = 13
heard_number (Expired Activation) = 14
heard_number (Expired T3109) = 15
heard_number (Expired T3111) = 16
heard_number (Expired Release) = 17
heard_number (Expired Bar) = 18
heard_number HandoverFailure = 19

abbrev pub same_heard : Heard → Heard → Bool
same_heard one other = heard_number one == heard_number other

abbrev pub fits : Lchan → Heard → Holder → Row → Bool
fits lchan heard holder r = same_lchan r.state lchan && (same_heard r.heard heard && r.who holder)

-- what a row does; where there is none, what was heard is counted, and nothing changes
abbrev pub step_of : Lchan → Option Row → Step
step_of lchan (Some r) = record { acts = r.acts; next = r.next }
step_of lchan None = record { acts = one Count; next = lchan }

-- what a channel does where this is heard about it
abbrev pub heard_step : Lchan → Heard → Holder → Step
heard_step lchan heard holder = step_of lchan (find (fits lchan heard holder) rows)
