-- What holds of every row: a channel agrees with the book, a release is awaited once, and a timer runs just in its state.
use Rattle.std.specs.Prelude.{◌≡◌, ◌≢◌, ◌⊎◌, ℕ, ◌==◌, ◌&&◌, ◌||◌, Bool, true, false, if◌then◌else◌, List, [], ◌∷◌, Option, Some, None, unwrap_or}
use Rattle.std.proofs.Math.Bool.{not}
use Rattle.std.specs.List.{list_any}
use Rattle.channel_fsm.specs.declared.ChanState.{ChanState}
use Rattle.channel_fsm.specs.declared.ChanState.TheVariants as book
use Rattle.channel_fsm.specs.declared.ChanEvent.TheVariants as event
use Rattle.channel_fsm.specs.Table.{next_state}
use Rattle.link_tables.specs.declared.BarKind.TheVariants.{Timed, Lasting}
use Rattle.link_tables.specs.declared.Lchan.{Lchan}
use Rattle.link_tables.specs.declared.Lchan.TheVariants.{Rest, Activating, On, Mobile, Guard, Releasing, Closing, Reopening, Lost}
use Rattle.link_tables.specs.declared.Heard.{Heard}
use Rattle.link_tables.specs.declared.Heard.TheVariants.{ReleaseAck, LinkLost, Expired}
use Rattle.link_tables.specs.declared.Holder.{Holder}
use Rattle.link_tables.specs.declared.Timer.{Timer}
use Rattle.link_tables.specs.declared.Timer.TheVariants.{Activation, T3109, T3111, Release, Bar}
use Rattle.link_tables.specs.declared.Act.{Act}
use Rattle.link_tables.specs.declared.Act.TheVariants as act
use Rattle.link_tables.specs.declared.Circumstances.{Circumstances}
use Rattle.link_tables.specs.declared.Step.{Step}
use Rattle.link_tables.specs.Acts.{Acts, same_lchan, timer_of}
use Rattle.link_tables.specs.Bars.{clock_change}
use Rattle.link_tables.specs.Hearing.{heard_step, same_heard}
use Rattle.link_tables.specs.Settling.{settled_step, is_on}

-- ACTS

abbrev pub act_number : Act → ℕ
act_number act.Give = 0
act_number act.Pass = 1
act_number act.Count = 2
act_number act.RefuseInPlace = 3
act_number act.ReleaseInPlace = 4
act_number act.FailInPlace = 5
act_number act.KeepFailure = 6
act_number act.SendActivation = 7
act_number act.KeepActivation = 8
act_number act.SendRelease = 9
act_number act.SendChannelRelease = 10
act_number act.SendDeactivateSacch = 11
act_number act.Bar = 12
act_number act.BarByHolder = 13
act_number (act.OpenBar Timed) = 14
act_number act.EndBar = 15
act_number (act.Start Activation) = 16
act_number (act.Start T3109) = 17
act_number (act.Start T3111) = 18
act_number (act.Start Release) = 19
act_number (act.Start Bar) = 20
act_number (act.Stop Activation) = 21
act_number (act.Stop T3109) = 22
act_number (act.Stop T3111) = 23
act_number (act.Stop Release) = 24
act_number (act.Stop Bar) = 25
act_number (act.OpenBar Lasting) = 26

abbrev same_act : Act → Option Act → Bool
same_act one None = false
same_act one (Some other) = act_number one == act_number other

-- this is among the acts
abbrev pub does : Acts → Act → Bool
does acts it = list_any (same_act it) acts

-- AGREEMENT

-- the states of a channel that agree with one of the book
abbrev pub agreeing : ChanState → List Lchan
agreeing book.Free = Rest ∷ Closing ∷ []
agreeing (book.Held c) = Rest ∷ Closing ∷ []
agreeing (book.Pending c) = Activating ∷ Reopening ∷ []
agreeing (book.On c) = On ∷ Lost ∷ []
agreeing book.Off = Mobile ∷ Guard ∷ Releasing ∷ []

abbrev pub agrees : ChanState → Lchan → Bool
agrees book lchan = list_any (same_lchan lchan) (agreeing book)

-- the book, once the controller has read what acts give it in the station's place
abbrev pub answered : Acts → ChanState → ChanState
answered acts book =
    if does acts act.RefuseInPlace then unwrap_or (next_state book event.Refuse) book else
    (if does acts act.ReleaseInPlace then unwrap_or (next_state book event.Released) book else book)

abbrev pub agrees_behind : ChanState → Step → Bool
agrees_behind book step = agrees (answered step.acts book) step.next

-- Whatever the book and the channel were before a turn, they agree behind it.
abbrev pub SettledAgrees : Type 0
SettledAgrees =
    (lchan : Lchan) (before now : ChanState) (c : Circumstances) → agrees_behind now (settled_step lchan before now c) ≡ true

-- What is heard keeps agreement. Where the controller is given it, they agree once it has read that, and a turn follows.
abbrev pub HeardAgrees : Type 0
HeardAgrees = (lchan : Lchan) (heard : Heard) (holder : Holder) (book : ChanState) → agrees book lchan ≡ true →
    does (heard_step lchan heard holder).acts act.Give ≡ false → agrees_behind book (heard_step lchan heard holder) ≡ true

-- RELEASES

-- RF CHANNEL RELEASE was sent, and the station's answer is awaited
abbrev pub awaits : Lchan → Bool
awaits Rest = false
awaits Activating = false
awaits On = false
awaits Mobile = false
awaits Guard = false
awaits Releasing = true
awaits Closing = true
awaits Reopening = true
awaits Lost = false

-- the release is answered, or its link's end did away with it
abbrev pub is_answer : Heard → Bool
is_answer heard = same_heard heard ReleaseAck || same_heard heard LinkLost

-- it is awaited when this has been heard
abbrev pub awaited : Lchan → Heard → Bool
awaited lchan heard = awaits lchan && not (is_answer heard)

-- RF CHANNEL RELEASE or CHANNEL ACTIVATION leaves
abbrev pub asks : Step → Bool
asks step = does step.acts act.SendRelease || does step.acts act.SendActivation

-- A release or an activation leaves only where no release is awaited.
abbrev pub HeardAsksOnce : Type 0
HeardAsksOnce =
    (lchan : Lchan) (heard : Heard) (holder : Holder) → asks (heard_step lchan heard holder) ≡ true → awaited lchan heard ≡ false

abbrev pub SettledAsksOnce : Type 0
SettledAsksOnce =
    (lchan : Lchan) (before now : ChanState) (c : Circumstances) → asks (settled_step lchan before now c) ≡ true → awaits lchan ≡ false

-- behind the step a release is awaited just where one leaves in it, or is awaited still
abbrev pub IsAwaited : Step → Bool → Type 0
IsAwaited step still = awaits step.next ≡ (does step.acts act.SendRelease || still)

-- No release is kept, and none is forgotten.
abbrev pub HeardAwaits : Type 0
HeardAwaits = (lchan : Lchan) (heard : Heard) (holder : Holder) →
    IsAwaited (heard_step lchan heard holder) (awaited lchan heard)

-- Behind a turn none is kept or forgotten either, where there is a link; but where the book has the channel on, as no turn has it
-- while a release is awaited.
abbrev pub SettledAwaits : Type 0
SettledAwaits = (lchan : Lchan) (before now : ChanState) (c : Circumstances) → c.has_link ≡ true → is_on now ≡ false →
    IsAwaited (settled_step lchan before now c) (awaits lchan)

-- Closing ends by the station's answer or its link's end: no clock ends it.
abbrev pub ClosingEnds : Type 0
ClosingEnds =
    (heard : Heard) (holder : Holder) → ((heard_step Closing heard holder).next ≡ Closing) ⊎ ((heard ≡ ReleaseAck) ⊎ (heard ≡ LinkLost))

-- TIMERS

abbrev timer_number : Timer → ℕ
timer_number Activation = 0
timer_number T3109 = 1
timer_number T3111 = 2
timer_number Release = 3
timer_number Bar = 4

abbrev is_timer : Timer → Option Timer → Bool
is_timer timer None = false
is_timer timer (Some other) = timer_number timer == timer_number other

-- it runs in this state
abbrev pub runs : Lchan → Timer → Bool
runs lchan timer = is_timer timer (timer_of lchan)

-- it runs behind these acts, where it did so before them or not
abbrev pub runs_behind : Acts → Timer → Bool → Bool
runs_behind acts timer before = does acts (act.Start timer) || (before && not (does acts (act.Stop timer)))

-- behind the step the timer runs just where its state has it, if it ran before or not
abbrev pub RunsInState : Step → Timer → Bool → Type 0
RunsInState step timer before = runs_behind step.acts timer before ≡ runs step.next timer

-- The timers of a channel start and stop with its states. (That of its bar is none of these.)
abbrev pub HeardRuns : Type 0
HeardRuns = (lchan : Lchan) (heard : Heard) (holder : Holder) (timer : Timer) → timer ≢ Bar →
    RunsInState (heard_step lchan heard holder) timer (runs lchan timer && not (same_heard heard (Expired timer)))

abbrev pub SettledRuns : Type 0
SettledRuns = (lchan : Lchan) (before now : ChanState) (c : Circumstances) (timer : Timer) → timer ≢ Bar →
    RunsInState (settled_step lchan before now c) timer (runs lchan timer)

-- The clock of a bar: it runs behind the change just where it is to run.
abbrev pub ClockRuns : Type 0
ClockRuns = (before after : Bool) → runs_behind (clock_change before after ∷ []) Bar before ≡ after
