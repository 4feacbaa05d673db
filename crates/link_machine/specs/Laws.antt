-- That channels agree with the book. Ours, of no standard.
use Rattle.std.specs.Prelude.{◌≡◌, Bool, true, false, ◌&&◌, List, [], ◌∷◌, Some, All}
use Rattle.std.proofs.Math.Bool.{not}
use Rattle.radio_book.specs.State.{State, state_of}
use Rattle.radio_book.specs.Table.{owner}
use Rattle.link_tables.specs.declared.Act.TheVariants.{Give}
use Rattle.link_tables.specs.declared.Timer.TheVariants as timer
use Rattle.link_tables.specs.Laws.{agrees, does, runs_behind}
use Rattle.link_machine.specs.declared.calls.CallFacts.{CallFacts}
use Rattle.link_machine.specs.declared.channel.Bar.{Bar}
use Rattle.link_machine.specs.declared.channel.Channel.{Channel}
use Rattle.link_machine.specs.declared.moving.Moved.{Moved}
use Rattle.link_machine.specs.declared.moving.TurnFacts.{TurnFacts}
use Rattle.link_machine.specs.declared.moving.Word.{Word}
use Rattle.link_machine.specs.declared.moving.Word.TheVariants as word
use Rattle.link_machine.specs.Channels.{owes, is_to_run}
use Rattle.link_machine.specs.Moving.{is_clock, told, linked, settled}

-- the controller is owed nothing about it, and it agrees with the book
abbrev pub Agrees : State → Channel → Type 0
Agrees b c = owes c ≡ false → agrees (state_of b c.chan) c.lchan ≡ true

-- Behind a turn a channel agrees with the book, whatever it was before, unless the controller is still owed something about it.
abbrev pub SettledAgrees : Type 0
SettledAgrees = (b : State) (calls : List CallFacts) (turn : TurnFacts) (c : Channel) → Agrees b (settled b calls turn c).channel

-- each of them does
abbrev pub AllAgree : State → List Channel → Type 0
AllAgree b cs = All (Agrees b) cs

-- So does one that is told something, if it did before, unless the controller is to be given that.
abbrev pub ToldAgrees : Type 0
ToldAgrees = (b : State) (calls : List CallFacts) (w : Word) (c : Channel) → Agrees b c →
    does (told b calls w c).done.acts Give ≡ false → Agrees b (told b calls w c).channel

-- And one whose link comes, or is gone.
abbrev pub LinkedAgrees : Type 0
LinkedAgrees = (b : State) (calls : List CallFacts) (is_up : Bool) (c : Channel) → Agrees b c → Agrees b (linked b calls is_up c).channel

-- BARS

-- Behind a turn the bar of a channel is the call that has it, unless the controller is still owed something about the channel.
abbrev pub BarsHold : Type 0
BarsHold = (b : State) (calls : List CallFacts) (turn : TurnFacts) (c : Channel) (bar : Bar) → owes (settled b calls turn c).channel ≡ false →
    (settled b calls turn c).channel.bar ≡ Some bar → owner (state_of b c.chan) ≡ Some bar.call

-- the clock of its bar ran before, or not; now it runs just where it is to, by what starts or stops
abbrev pub ClockIs : Bool → Moved → Type 0
ClockIs ran m = (m.channel.bar_runs ≡ is_to_run m.channel) × (runs_behind (m.done.clock ∷ []) timer.Bar ran ≡ m.channel.bar_runs)

-- a clock that ran out runs no more
abbrev pub still_runs : Channel → Word → Bool
still_runs c (word.Heard h) = c.bar_runs && not (is_clock h)
still_runs c (word.AttemptEnded end) = c.bar_runs

abbrev pub ToldClocks : Type 0
ToldClocks = (b : State) (calls : List CallFacts) (w : Word) (c : Channel) → ClockIs (still_runs c w) (told b calls w c)

abbrev pub LinkedClocks : Type 0
LinkedClocks = (b : State) (calls : List CallFacts) (is_up : Bool) (c : Channel) → ClockIs c.bar_runs (linked b calls is_up c)

abbrev pub SettledClocks : Type 0
SettledClocks = (b : State) (calls : List CallFacts) (turn : TurnFacts) (c : Channel) → ClockIs c.bar_runs (settled b calls turn c)
