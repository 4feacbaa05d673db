-- A turn, and what follows of it at the links. Ours, of no standard.
use Rattle.std.specs.Prelude.{◌≡◌, ◌⊎◌, ℕ, List, ◌++◌, Option, Some, None}
use Rattle.attempt_journal.specs.declared.Timer.{Timer}
use Rattle.cell_table.specs.Site.{SiteView}
use Rattle.channel_fsm.specs.declared.ChanId.{ChanId}
use Rattle.channel_fsm.specs.declared.ChanState.{ChanState}
use Rattle.radio_book.specs.State.{State, state_of}
use Rattle.exchange.specs.declared.Inbound.{Inbound}
use Rattle.lab_runs.specs.Turns.{Position, IsTurn}
use Rattle.run_listeners.specs.declared.turn.Turn.{Turn}
use Rattle.trace_text.specs.declared.trace.Step.{Step}
use Rattle.link_machine.specs.declared.calls.CallFacts.{CallFacts}
use Rattle.link_machine.specs.declared.channel.Channel.{Channel}
use Rattle.link_machine.specs.declared.moving.Done.{Done}
use Rattle.link_machine.specs.declared.moving.TurnFacts.{TurnFacts}
use Rattle.link_machine.specs.declared.pass.Pass.TheVariants as pass
use Rattle.link_machine.specs.declared.stations.Said.{Said}
use Rattle.link_machine.specs.declared.timers.TimerChange.{TimerChange}
use Rattle.link_machine.specs.Machine.{Moves, all_moved, all_done, moved_until, done_until}
use Rattle.link_machine.specs.Passes.{passed}
use Rattle.bsc_runs.specs.declared.links.LinksFault.{LinksFault}
use Rattle.bsc_runs.specs.declared.links.LinksFault.TheVariants as fault
use Rattle.bsc_runs.specs.Heard.{Says, chan_of, back_on, expired_of}
use Rattle.bsc_runs.specs.Sent.{sent_away}
use Rattle.bsc_runs.specs.Steps.{ended_steps, steps_done, refollowed, expiry_changes, calls_behind, changes_behind}

-- what a book has of the channel that an input is about
abbrev pub known_before : State → Option ChanId → Option (ChanId × ChanState)
known_before b None = None
known_before b (Some x) = Some (x, state_of b x)

-- the turn of a controller whose book was this one, as far as channels ask
abbrev pub facts_of : {A : Type 0} → State → Option Said → Turn A → TurnFacts
facts_of b said turn = record { about = known_before b (chan_of said); sent_away = sent_away turn.answer }

-- The links before a turn, or behind it: what is known of calls and of channels, and what is to be done.
pub record Links : Type 0 where
  pub calls : List CallFacts
  pub channels : List Channel
  pub timers : List TimerChange
  pub done : List Done

-- how each channel moves behind a turn that left this book
abbrev pub settling : State → TurnFacts → List CallFacts → Moves
settling b turn calls = passed b calls (pass.Turn turn)

-- The channels behind a turn that left this book: each does what its row says, and then attempts that were taken back have ended.
abbrev pub channels_behind : State → TurnFacts → Option ChanId → SiteView → List Step → List CallFacts → List Channel → List Channel
channels_behind b turn back site steps calls cs = ended_steps b calls back site (all_moved (settling b turn calls) cs) steps

-- and this is what they did
abbrev pub done_behind : State → TurnFacts → Option ChanId → SiteView → List Step → List CallFacts → List Channel → List Done
done_behind b turn back site steps calls cs = all_done (settling b turn calls) cs ++ steps_done b calls back site (all_moved (settling b turn calls) cs) steps

-- The links follow a turn: the timers of its calls follow the book, and its channels do what their rows say.
pub record Follows (b : State) (expired : Option (ℕ × Timer)) (turn : TurnFacts) (back : Option ChanId) (site : SiteView) (steps : List Step) (l l' : Links) : Type 0 where
  pub calls : l'.calls ≡ calls_behind b expired l.calls steps
  pub timers : l'.timers ≡ l.timers ++ changes_behind b expired l.calls steps
  pub channels : l'.channels ≡ channels_behind b turn back site steps l'.calls l.channels
  pub done : l'.done ≡ l.done ++ done_behind b turn back site steps l'.calls l.channels

-- WHERE MEMORY IS REFUSED

-- no timer follows the book, or that of the input alone does, and that is told
abbrev pub TimersSoFar : State → Option (ℕ × Timer) → List CallFacts → List TimerChange → List CallFacts → List TimerChange → Type 0
TimersSoFar b expired calls timers calls' timers' =
    ((calls' ≡ calls) × (timers' ≡ timers)) ⊎ ((calls' ≡ refollowed b expired calls) × (timers' ≡ timers ++ expiry_changes b expired calls))

-- so many channels have done what their rows say, no attempt has ended, and that is told
abbrev pub ChannelsSoFar : State → TurnFacts → List CallFacts → List Channel → List Done → List Channel → List Done → Type 0
ChannelsSoFar b turn calls cs done cs' done' =
    (n : ℕ) × (cs' ≡ moved_until (settling b turn calls) n cs) × (done' ≡ done ++ done_until (settling b turn calls) n cs)

-- They followed it so far only.
abbrev pub FollowsSoFar : State → Option (ℕ × Timer) → TurnFacts → List Step → Links → Links → Type 0
FollowsSoFar b expired turn steps l l' =
    (TimersSoFar b expired l.calls l.timers l'.calls l'.timers × (l'.channels ≡ l.channels) × (l'.done ≡ l.done))
    ⊎ ((l'.calls ≡ calls_behind b expired l.calls steps) × (l'.timers ≡ l.timers ++ changes_behind b expired l.calls steps)
    × ChannelsSoFar b turn l'.calls l.channels l.done l'.channels l'.done)

-- A TURN OF THE CONTROLLER

-- the links behind a turn before which the controller had the book b, and behind which it has b'
abbrev pub Gives : {A : Type 0} → State → Turn A → State → SiteView → Links → Links → Type 0
Gives b turn b' site l l' =
    (said : Option Said) × Says turn.input said × Follows b' (expired_of turn.input) (facts_of b said turn) (back_on said) site turn.steps.items l l'

-- and where memory is refused
abbrev pub GivesSoFar : {A : Type 0} → State → Turn A → State → Links → Links → Type 0
GivesSoFar b turn b' l l' = (said : Option Said) × Says turn.input said × FollowsSoFar b' (expired_of turn.input) (facts_of b said turn) turn.steps.items l l'

-- Why it isn't said what follows of an input: of a fault of the turn the links follow nothing; behind a turn they follow it so far.
abbrev pub Stops : {A : Type 0} → Position → Inbound A → Position → Links → Links → LinksFault A → Type 0
Stops s input s' l l' (fault.Turn why) = l' ≡ l
Stops s input s' l l' (fault.Links turn) = IsTurn s turn s' × (turn.input ≡ input) × GivesSoFar s.0.desk.book turn s'.0.desk.book l l'
