-- The timers of calls: each runs just where a book has it armed. Ours, of no standard.
use Rattle.std.specs.Prelude.{◌≡◌, ℕ, ◌<◌, Bool, ◌&&◌, ◌||◌, List, [], ◌∷◌, length, replicate, Option, Some, None, is_some, slice_set, if◌then◌else◌}
use Rattle.std.proofs.Math.Bool.{not}
use Rattle.std.specs.FinMap as finite
use Rattle.attempt_journal.specs.declared.Timer.{Timer}
use Rattle.radio_tables.specs.declared.kinds.CallRecord.{CallRecord}
use Rattle.radio_book.specs.declared.event.Event.{Event}
use Rattle.radio_book.specs.declared.event.Reply.{Reply}
use Rattle.radio_book.specs.Kinds.{call_of}
use Rattle.cell_table.specs.Site.{SiteView}
use Rattle.radio_book.specs.Run.{Leads}
use Rattle.radio_book.specs.State.{State, empty_book, record_of}
use Rattle.radio_book.specs.Table.{is_armed}
use Rattle.link_machine.specs.declared.calls.CallFacts.{CallFacts}
use Rattle.link_machine.specs.declared.timers.TimerChange.{TimerChange}
use Rattle.link_machine.specs.Calls.{plain, facts_of}

-- the timer that runs, where the other one is armed, and isn't the same
abbrev pub not_armed : Option Timer → Option Timer → Option Timer
not_armed None armed = None
not_armed (Some running) armed = if is_armed running armed then None else Some running

-- what is known of a call whose timer is this one; of one that the book doesn't have nothing else is
abbrev pub with_timer : CallFacts → Option CallRecord → Option Timer → CallFacts
with_timer facts None timer = record plain { timer = timer }
with_timer facts (Some r) timer = record facts { timer = timer }

abbrev pub facts_behind : State → List CallFacts → ℕ → CallFacts
facts_behind b calls c = with_timer (facts_of calls c) (record_of b c) (finite.get b.timers c)

-- what stops and what starts, so that the call's timer runs just where it is armed
abbrev pub change_of : State → List CallFacts → ℕ → TimerChange
change_of b calls c = record {
  call = c;
  stops = not_armed (facts_of calls c).timer (finite.get b.timers c);
  starts = not_armed (finite.get b.timers c) (facts_of calls c).timer;
}

abbrev pub is_change : TimerChange → Bool
is_change change = is_some change.stops || is_some change.starts

abbrev pub if_change : TimerChange → Option TimerChange
if_change change = if is_change change then Some change else None

-- what is known of calls behind a turn of which this call is one
abbrev pub followed_by : State → List CallFacts → Option ℕ → List CallFacts
followed_by b calls None = calls
followed_by b calls (Some c) = slice_set calls c (facts_behind b calls c)

-- and what stops and starts
abbrev pub change_by : State → List CallFacts → Option ℕ → Option TimerChange
change_by b calls None = None
change_by b calls (Some c) = if_change (change_of b calls c)

-- what is known of calls behind a turn, once all of its events were followed
abbrev pub followed : State → List CallFacts → List (Event × Reply) → List CallFacts
followed b calls [] = calls
followed b calls (s ∷ steps) = followed b (followed_by b calls (call_of s.0)) steps

-- the timer of each call runs just where it is armed
abbrev pub TimersRun : State → List CallFacts → Type 0
TimersRun b calls = (c : ℕ) → c < length calls → (facts_of calls c).timer ≡ finite.get b.timers c

-- It runs just where it is armed behind a turn, if it did before it, and all events of the turn were followed.
abbrev pub TimersFollow : Type 0
TimersFollow = (b b' : State) (steps : List (Event × Reply)) (calls : List CallFacts) → Leads b steps b' → TimersRun b calls → TimersRun b' (followed b' calls steps)

-- nothing is armed in an empty book, and nothing runs of calls of which nothing is known
abbrev pub NoTimersRun : Type 0
NoTimersRun = (site : SiteView) (n : ℕ) → TimersRun (empty_book site) (replicate n plain)

-- the timer runs behind the change, where it did before it or not
abbrev pub call_runs_behind : Option TimerChange → Timer → Bool → Bool
call_runs_behind None t before = before
call_runs_behind (Some change) t before = is_armed t change.starts || (before && not (is_armed t change.stops))

-- What starts and stops: each timer of the call runs behind it just where the book has it armed.
abbrev pub ChangesFollow : Type 0
ChangesFollow = (b : State) (calls : List CallFacts) (c : ℕ) (t : Timer) →
    call_runs_behind (change_by b calls (Some c)) t (is_armed t (facts_of calls c).timer) ≡ is_armed t (finite.get b.timers c)

-- AN EXPIRY

-- the timer of the call runs
abbrev pub is_running : List CallFacts → ℕ → Timer → Bool
is_running calls c t = is_armed t (facts_of calls c).timer

-- it runs no more, where it did
abbrev pub ran_out : List CallFacts → ℕ → Timer → List CallFacts
ran_out calls c t = if is_running calls c t then slice_set calls c (record (facts_of calls c) { timer = None }) else calls
