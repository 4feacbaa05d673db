-- What one channel does where it is told something, and behind a turn of the controller: its row (docs/LINKS.md), and how it is
-- barred. Ours, of no standard.
use Rattle.std.specs.Prelude.{ℕ, ◌==◌, Bool, true, false, ◌&&◌, ◌||◌, List, Option, Some, None, is_some, if◌then◌else◌}
use Rattle.std.proofs.Math.Bool.{not}
use Rattle.channel_fsm.specs.declared.ChanId.{ChanId}
use Rattle.channel_fsm.specs.Keys.{same_chan}
use Rattle.channel_fsm.specs.declared.ChanState.{ChanState}
use Rattle.channel_fsm.specs.declared.ChanState.TheVariants as book
use Rattle.radio_book.specs.State.{State, state_of}
use Rattle.radio_book.specs.Table.{owner, is_target}
use Rattle.link_tables.specs.declared.AttemptEnd.{AttemptEnd}
use Rattle.link_tables.specs.declared.Circumstances.{Circumstances}
use Rattle.link_tables.specs.declared.Heard.{Heard}
use Rattle.link_tables.specs.declared.Heard.TheVariants as heard
use Rattle.link_tables.specs.declared.Lchan.{Lchan}
use Rattle.link_tables.specs.declared.Lchan.TheVariants.{Rest, Activating, On, Mobile, Guard, Releasing, Closing, Reopening, Lost}
use Rattle.link_tables.specs.declared.Step.{Step}
use Rattle.link_tables.specs.declared.Act.{Act}
use Rattle.link_tables.specs.declared.Act.TheVariants as act
use Rattle.link_tables.specs.declared.Timer.TheVariants as timer
use Rattle.link_tables.specs.Acts.{nothing, one}
use Rattle.link_tables.specs.Bars.{bar_step}
use Rattle.link_tables.specs.Failures.{ended_step}
use Rattle.link_tables.specs.Hearing.{heard_step, same_heard}
use Rattle.link_tables.specs.Settling.{settled_step}
use Rattle.link_machine.specs.declared.calls.CallFacts.{CallFacts}
use Rattle.link_machine.specs.declared.channel.Bar.{Bar}
use Rattle.link_machine.specs.declared.channel.Channel.{Channel}
use Rattle.link_machine.specs.declared.moving.Moved.{Moved}
use Rattle.link_machine.specs.declared.moving.TurnFacts.{TurnFacts}
use Rattle.link_machine.specs.declared.moving.Word.{Word}
use Rattle.link_machine.specs.declared.moving.Word.TheVariants as word
use Rattle.link_machine.specs.Channels.{owes, after, with_clock}
use Rattle.link_machine.specs.Calls.{facts_of, holder_by}

-- it does nothing
abbrev pub still : Channel → Moved
still c = record { channel = c; done = record { chan = c.chan; acts = nothing; bar = nothing; clock = None } }

-- it does what its row says
abbrev pub moved_by : Option ℕ → Channel → Step → Moved
moved_by who c step = record { channel = after who c step; done = record { chan = c.chan; acts = step.acts; bar = nothing; clock = None } }

abbrev with_its_clock : Moved → (Channel × Option Act) → Moved
with_its_clock m (c, clock) = record { channel = c; done = record m.done { clock = clock } }

-- the same, with the clock of its bar, which ran before or not
abbrev pub clocked : Bool → Moved → Moved
clocked ran m = with_its_clock m (with_clock ran m.channel)

-- TOLD

-- a station says it (48.058 clause 8)
abbrev pub is_of_station : Heard → Bool
is_of_station heard.ActivationAck = true
is_of_station heard.ActivationNack = true
is_of_station heard.ReleaseAck = true
is_of_station heard.ConnectionFailure = true
is_of_station heard.HandoverDetection = true
is_of_station heard.HandoverComplete = true
is_of_station heard.HandoverFailure = true
is_of_station heard.MeasurementResult = true
is_of_station heard.DataIndication = true
is_of_station heard.EstablishIndication = true
is_of_station heard.ReleaseIndication = true
is_of_station (heard.Expired t) = false
is_of_station heard.LinkLost = false
is_of_station heard.LinkUp = false
is_of_station heard.BarAsked = false
is_of_station heard.UnbarAsked = false

-- a station says it whose link isn't there
abbrev pub is_unheard : Channel → Heard → Bool
is_unheard c h = is_of_station h && not c.has_link

-- what is heard of a station whose link isn't there is counted
abbrev pub counted : Channel → Step
counted c = record { acts = one act.Count; next = c.lchan }

abbrev pub hears : State → List CallFacts → Channel → Heard → Moved
hears b calls c h =
    moved_by (owner (state_of b c.chan)) c (if is_unheard c h then counted c else heard_step c.lchan h (holder_by b calls c.chan c.bar))

-- the clock of its bar ran out
abbrev pub is_clock : Heard → Bool
is_clock h = same_heard h (heard.Expired timer.Bar)

-- L32: a failure that was kept is told or dropped, and kept no more
abbrev pub ended : Option ℕ → Channel → AttemptEnd → Moved
ended who c end = if c.keeps_failure then moved_by who (record c { keeps_failure = false }) (ended_step c.lchan end) else still c

abbrev pub told : State → List CallFacts → Word → Channel → Moved
told b calls (word.Heard h) c = clocked (c.bar_runs && not (is_clock h)) (hears b calls c h)
told b calls (word.AttemptEnded end) c = clocked c.bar_runs (ended (owner (state_of b c.chan)) c end)

-- the link of its TRX has come, or is gone
abbrev pub linked : State → List CallFacts → Bool → Channel → Moved
linked b calls true c = clocked c.bar_runs (hears b calls (record c { has_link = true }) heard.LinkUp)
linked b calls false c = clocked c.bar_runs (hears b calls (record c { has_link = false }) heard.LinkLost)

-- BEHIND A TURN

-- a state of the book with which a channel agrees
abbrev pub agreed : Lchan → ChanState
agreed Rest = book.Free
agreed Activating = book.Pending 0
agreed On = book.On 0
agreed Mobile = book.Off
agreed Guard = book.Off
agreed Releasing = book.Off
agreed Closing = book.Free
agreed Reopening = book.Pending 0
agreed Lost = book.On 0

-- what the book had of it before the turn
abbrev pub before_of : Option (ChanId × ChanState) → Channel → ChanState
before_of None c = agreed c.lchan
before_of (Some (x, before)) c = if same_chan x c.chan then before else agreed c.lchan

abbrev pub standing : TurnFacts → Channel → Circumstances
standing turn c = record { has_link = c.has_link; said_channel_release = is_target c.chan turn.sent_away; is_bar = is_some c.bar }

-- a failure may be kept
abbrev pub keeping : Lchan → Bool
keeping Rest = false
keeping Activating = false
keeping On = true
keeping Mobile = false
keeping Guard = false
keeping Releasing = false
keeping Closing = false
keeping Reopening = false
keeping Lost = true

abbrev pub kept : Channel → Channel
kept c = record c { keeps_failure = c.keeps_failure && keeping c.lchan }

abbrev pub is_from_air : List CallFacts → Option ℕ → Bool
is_from_air calls None = false
is_from_air calls (Some c) = (facts_of calls c).is_from_air

-- B1: it is barred, where it is to be, and the controller is owed nothing about it
abbrev pub barred : Option ℕ → Channel → Step → Step → Moved
barred who c step other = record { channel = after who c other; done = record { chan = c.chan; acts = step.acts; bar = other.acts; clock = None } }

abbrev pub bar_phase : Option ℕ → Channel → Step → ChanState → Bool → Moved
bar_phase who c step now from_air =
    if not c.is_to_be_barred || owes c then record { channel = c; done = record { chan = c.chan; acts = step.acts; bar = nothing; clock = None } } else
    barred who (record c { is_to_be_barred = false }) step (bar_step c.lchan now from_air)

-- this is the call
abbrev pub is_call : ℕ → Option ℕ → Bool
is_call c None = false
is_call c (Some d) = d == c

-- a bar ends where its call hasn't the channel any more
abbrev pub still_barred : Option ℕ → Option Bar → Option Bar
still_barred who None = None
still_barred who (Some bar) = if is_call bar.call who then Some bar else None

abbrev pub with_bar_of : Option ℕ → Channel → Channel
with_bar_of who c = record c { bar = still_barred who c.bar }

abbrev pub turned : TurnFacts → Channel → ChanState → Step
turned turn c now = settled_step c.lchan (before_of turn.about c) now (standing turn c)

-- what its row says, behind a turn that left it in this state, for this call
abbrev pub settled_by : List CallFacts → TurnFacts → Channel → ChanState → Option ℕ → Moved
settled_by calls turn c now who =
    bar_phase who (kept (after who (with_bar_of who c) (turned turn (with_bar_of who c) now))) (turned turn (with_bar_of who c) now) now (is_from_air calls who)

abbrev pub settled : State → List CallFacts → TurnFacts → Channel → Moved
settled b calls turn c =
    clocked c.bar_runs (if owes c then still c else settled_by calls turn c (state_of b c.chan) (owner (state_of b c.chan)))
