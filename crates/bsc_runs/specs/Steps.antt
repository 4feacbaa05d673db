-- What follows of a turn's steps at the links. Ours, of no standard.
use Rattle.std.specs.Prelude.{ℕ, List, [], ◌∷◌, ◌++◌, Option, Some, None, option_to_list}
use Rattle.attempt_journal.specs.declared.Timer.{Timer}
use Rattle.channel_fsm.specs.declared.ChanId.{ChanId}
use Rattle.cell_table.specs.Site.{SiteView}
use Rattle.radio_book.specs.Kinds.{call_of}
use Rattle.radio_book.specs.State.{State}
use Rattle.trace_text.specs.declared.trace.Step.{Step}
use Rattle.trace_text.specs.declared.trace.Step.TheVariants.{Asked, NoneFree}
use Rattle.link_machine.specs.declared.calls.CallFacts.{CallFacts}
use Rattle.link_machine.specs.declared.channel.Channel.{Channel}
use Rattle.link_machine.specs.declared.moving.Done.{Done}
use Rattle.link_machine.specs.declared.timers.TimerChange.{TimerChange}
use Rattle.link_machine.specs.Attempts.{undone_on, ended_at, done_at}
use Rattle.link_machine.specs.Timers.{followed_by, change_by, ran_out}

-- the timer of a step's call follows the book
abbrev pub followed_step : State → List CallFacts → Step → List CallFacts
followed_step b calls (Asked e reply) = followed_by b calls (call_of e)
followed_step b calls (NoneFree cell rate) = calls

abbrev pub step_changes : State → List CallFacts → Step → List TimerChange
step_changes b calls (Asked e reply) = option_to_list (change_by b calls (call_of e))
step_changes b calls (NoneFree cell rate) = []

-- step by step
abbrev pub followed_steps : State → List CallFacts → List Step → List CallFacts
followed_steps b calls [] = calls
followed_steps b calls (s ∷ steps) = followed_steps b (followed_step b calls s) steps

abbrev pub steps_changes : State → List CallFacts → List Step → List TimerChange
steps_changes b calls [] = []
steps_changes b calls (s ∷ steps) = step_changes b calls s ++ steps_changes b (followed_step b calls s) steps

-- an attempt that a step takes back has ended; the mobile came back to the channel `back`, if it did
abbrev pub ended_step : State → List CallFacts → Option ChanId → SiteView → List Channel → Step → List Channel
ended_step b calls back site cs (Asked e reply) = ended_at b calls back site cs (undone_on e reply)
ended_step b calls back site cs (NoneFree cell rate) = cs

abbrev pub step_done : State → List CallFacts → Option ChanId → SiteView → List Channel → Step → List Done
step_done b calls back site cs (Asked e reply) = option_to_list (done_at b calls back site cs (undone_on e reply))
step_done b calls back site cs (NoneFree cell rate) = []

-- step by step
abbrev pub ended_steps : State → List CallFacts → Option ChanId → SiteView → List Channel → List Step → List Channel
ended_steps b calls back site cs [] = cs
ended_steps b calls back site cs (s ∷ steps) = ended_steps b calls back site (ended_step b calls back site cs s) steps

abbrev pub steps_done : State → List CallFacts → Option ChanId → SiteView → List Channel → List Step → List Done
steps_done b calls back site cs [] = []
steps_done b calls back site cs (s ∷ steps) = step_done b calls back site cs s ++ steps_done b calls back site (ended_step b calls back site cs s) steps

-- THE TIMER OF AN INPUT

-- the timer of a call that ran out runs no more
abbrev pub emptied : Option (ℕ × Timer) → List CallFacts → List CallFacts
emptied None calls = calls
emptied (Some (c, t)) calls = ran_out calls c t

-- and from then on just where a book has it armed
abbrev pub refollowed : State → Option (ℕ × Timer) → List CallFacts → List CallFacts
refollowed b None calls = calls
refollowed b (Some (c, t)) calls = followed_by b (ran_out calls c t) (Some c)

abbrev pub expiry_changes : State → Option (ℕ × Timer) → List CallFacts → List TimerChange
expiry_changes b None calls = []
expiry_changes b (Some (c, t)) calls = option_to_list (change_by b (ran_out calls c t) (Some c))

-- what is known of calls behind a turn, and what starts and stops: first for the timer of its input, if it is an expiry; then step by step
abbrev pub calls_behind : State → Option (ℕ × Timer) → List CallFacts → List Step → List CallFacts
calls_behind b expired calls steps = followed_steps b (refollowed b expired calls) steps

abbrev pub changes_behind : State → Option (ℕ × Timer) → List CallFacts → List Step → List TimerChange
changes_behind b expired calls steps = expiry_changes b expired calls ++ steps_changes b (refollowed b expired calls) steps
