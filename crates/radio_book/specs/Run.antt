-- Runs: lists of events from a book. Ours, of no standard.
use Rattle.std.specs.Prelude.{◌≡◌, ◌↔◌, false, List, [], ◌∷◌, map}
use Rattle.radio_book.specs.declared.event.Event.{Event}
use Rattle.radio_book.specs.declared.event.Reply.{Reply}
use Rattle.cell_table.specs.Site.{SiteView}
use Rattle.radio_book.specs.State.{State, empty_book}
use Rattle.radio_book.specs.Table.{step, reply_to}
use Rattle.radio_book.specs.Sound.{IsSound}
use Rattle.radio_book.specs.Kinds.{is_accepted}

-- the book after the events, one after another
abbrev pub run_book : State → List Event → State
run_book b [] = b
run_book b (e ∷ es) = run_book (step b e) es

-- the replies to the events
abbrev pub run_replies : State → List Event → List Reply
run_replies b [] = []
run_replies b (e ∷ es) = reply_to b e ∷ run_replies (step b e) es

-- events with their replies, which lead from one book to another
abbrev pub Leads : State → List (Event × Reply) → State → Type 0
Leads b [] b' = b' ≡ b
Leads b (s ∷ ss) b' = (s.1 ≡ reply_to b s.0) × Leads (step b s.0) ss b'

-- every step keeps a book sound
abbrev pub StepsKeepSound : Type 0
StepsKeepSound = (b : State) (e : Event) → IsSound b → IsSound (step b e)

-- whatever happens, the book of a site is sound
abbrev pub RunsAreSound : Type 0
RunsAreSound = (site : SiteView) (es : List Event) → IsSound (run_book (empty_book site) es)

-- events with their replies lead from one book to another just where that is the book after them, and those the replies
abbrev pub LeadsIsRun : Type 0
LeadsIsRun =
    (b : State) (steps : List (Event × Reply)) (b' : State) →
    Leads b steps b' ↔
    (b' ≡ run_book b (map (λ s. s.0) steps)) × (map (λ s. s.1) steps ≡ run_replies b (map (λ s. s.0) steps))

-- a refused event changes nothing
abbrev pub RefusedEventsChangeNothing : Type 0
RefusedEventsChangeNothing = (b : State) (e : Event) → IsSound b → is_accepted (reply_to b e) ≡ false → step b e ≡ b
