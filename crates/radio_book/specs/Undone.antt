-- An attempt that is undone within a list of steps: what stays of the list without it, which of that was refused for what
-- the attempt held, and whether its channel came back. Ours, of no standard.
use Rattle.std.specs.Prelude.{◌≡◌, ◌+◌, ℕ, Bool, false, not, ◌&&◌, ◌||◌, ◌==◌, if◌then◌else◌, IsTrue, List, [], ◌∷◌, ◌++◌, map, filter, find, All, slice_get, Option, Some, None, is_some}
use Rattle.std.specs.Option.{option_map, option_and_then}
use Rattle.std.specs.List.{list_any}
use Rattle.channel_fsm.specs.declared.ChanId.{ChanId}
use Rattle.channel_fsm.specs.declared.ChanState.{ChanState}
use Rattle.dense_tables.specs.declared.references.Reference.{Reference}
use Rattle.radio_book.specs.declared.event.Event.{Event}
use Rattle.radio_book.specs.declared.event.Refusal.{Refusal}
use Rattle.radio_book.specs.declared.event.Refusal.TheVariants.{NoCall, CallExists, WrongPhase, NoChannel, SameCell, ChannelBusy, RefBusy, Unexpected, NotArmed}
use Rattle.radio_book.specs.declared.event.Reply.{Reply}
use Rattle.radio_book.specs.declared.undone.StepAt.{StepAt}
use Rattle.radio_book.specs.State.{State, state_of}
use Rattle.radio_book.specs.Table.{channel_row, step, reply_to, same_chan, reference_held}
use Rattle.radio_book.specs.Run.{run_book}
pub use Rattle.radio_book.specs.Kinds.{Opens, Undoes}
use Rattle.radio_book.specs.Kinds.{call_of, channel_of, EndsIt, released_by, number_of, refusal_of, is_accepted}

-- LISTS OF STEPS

-- the events from a book as steps, each with its place and its reply; the first stands at this place
abbrev pub steps_from : ℕ → State → List Event → List StepAt
steps_from n b [] = []
steps_from n b (e ∷ es) = record { place = n; event = e; reply = reply_to b e } ∷ steps_from (n + 1) (step b e) es

abbrev pub places_of : List StepAt → List ℕ
places_of steps = map (λ s. s.place) steps

abbrev pub events_of : List StepAt → List Event
events_of steps = map (λ s. s.event) steps

abbrev pub replies_of : List StepAt → List Reply
replies_of steps = map (λ s. s.reply) steps

-- a list up to and with the first element that passes the test; all of it where none does
abbrev pub up_to_first : {X : Type 0} → (X → Bool) → List X → List X
up_to_first test [] = []
up_to_first test (x ∷ xs) = x ∷ (if test x then [] else up_to_first test xs)

-- what follows the first element that passes the test; nothing where none does
abbrev pub after_first : {X : Type 0} → (X → Bool) → List X → List X
after_first test [] = []
after_first test (x ∷ xs) = if test x then xs else after_first test xs

-- UNDONE ATTEMPTS

-- an attempt that was undone: whose it is, the channel that it took, if any, and the five parts of the list of steps around
-- it: what came before, its opening, what came between, its undo, what came after
pub record Undone : Type 0 where
  pub call : ℕ
  pub target : Option ChanId
  pub head : List StepAt
  pub opening : StepAt
  pub between : List StepAt
  pub undo : StepAt
  pub tail : List StepAt
  -- the undo left the target off, so that its release is awaited
  pub awaited : Bool

-- with this step the call's attempt is over
abbrev pub Ends : ℕ → StepAt → Type 0
Ends c s = IsTrue (is_accepted s.reply) × EndsIt c s.event

-- the steps fall into these parts: an accepted opening, and the first accepted undo after it, before which nothing else
-- ended the attempt
pub record IsUndoneIn (steps : List StepAt) (u : Undone) : Type 0 where
  pub parts : steps ≡ u.head ++ (u.opening ∷ (u.between ++ (u.undo ∷ u.tail)))
  pub opens : Opens u.call u.target u.opening.event
  pub opening_accepted : IsTrue (is_accepted u.opening.reply)
  pub stays_open : All (λ s. Ends u.call s → ⊥) u.between
  pub undoes : Undoes u.call u.undo.event
  pub undo_accepted : IsTrue (is_accepted u.undo.reply)

abbrev pub is_off : ChanState → Bool
is_off s = (channel_row s).off

-- a channel that is there is off
abbrev pub is_target_off : State → Option ChanId → Bool
is_target_off b None = false
is_target_off b (Some x) = is_off (state_of b x)

-- the book right after the undo
abbrev pub book_after_undo : State → Undone → State
book_after_undo b u = run_book b (events_of (u.head ++ (u.opening ∷ (u.between ++ (u.undo ∷ [])))))

-- among the events from this book this attempt was undone, and the book says whether its channel came back with the undo
pub record IsUndoneAttempt (b : State) (es : List Event) (u : Undone) : Type 0 where
  pub among : IsUndoneIn (steps_from 0 b es) u
  pub awaited : u.awaited ≡ is_target_off (book_after_undo b u) u.target

-- the attempt is one whose opening stands at this place of the list
abbrev pub IsUndoneAt : State → List Event → ℕ → Undone → Type 0
IsUndoneAt b es at u = IsUndoneAttempt b es u × (u.opening.place ≡ at)

-- at this place of the list opens an attempt that was undone
abbrev pub OpensUndone : State → List Event → ℕ → Type 0
OpensUndone b es at = (u : Undone) × IsUndoneAt b es at u

-- TESTS

-- both are the same call, channel, reference; where one isn't there they aren't

abbrev pub is_call : ℕ → Option ℕ → Bool
is_call c None = false
is_call c (Some d) = d == c

abbrev pub is_channel : Option ChanId → Option ChanId → Bool
is_channel None o = false
is_channel (Some x) None = false
is_channel (Some x) (Some y) = same_chan y x

abbrev pub is_reference : Option Reference → Option Reference → Bool
is_reference None o = false
is_reference (Some k) None = false
is_reference (Some k) (Some l) = l.cell == k.cell && l.number == k.number

-- THE RELEASE

-- the step acknowledges the release of the target
abbrev pub releases : Option ChanId → StepAt → Bool
releases target s = is_channel target (released_by s.event)

-- the tail while the release is awaited: up to and with the first acknowledgement of it, or to the end
abbrev pub awaiting : Undone → List StepAt
awaiting u = if u.awaited then up_to_first (releases u.target) u.tail else []

-- the tail once no release is awaited
abbrev pub settled_tail : Undone → List StepAt
settled_tail u = if u.awaited then after_first (releases u.target) u.tail else u.tail

-- nothing of the attempt is left: no release was awaited, or it came
abbrev pub is_settled : Undone → Bool
is_settled u = not (u.awaited) || list_any (releases u.target) u.tail

-- OTHERS

-- the step is a station's on the target
abbrev pub is_on_target : Option ChanId → StepAt → Bool
is_on_target target s = is_channel target (channel_of s.event)

-- the step was asked for the call
abbrev pub is_by_call : ℕ → StepAt → Bool
is_by_call c s = is_call c (call_of s.event)

-- between opening and undo stays what isn't by the call, and isn't a station's on the target
abbrev pub others_between : Undone → List StepAt → List StepAt
others_between u steps = filter (λ s. not (is_by_call u.call s) && not (is_on_target u.target s)) steps

-- while the release is awaited stays what isn't a station's on the target
abbrev pub others_awaiting : Undone → List StepAt → List StepAt
others_awaiting u steps = filter (λ s. not (is_on_target u.target s)) steps

-- the steps that stay without the attempt: the whole head, the others of the two stretches above, the whole rest
abbrev pub others : Undone → List StepAt
others u = u.head ++ (others_between u u.between ++ (others_awaiting u (awaiting u) ++ settled_tail u))

-- HELD REFUSALS

-- the attempt reserves a reference with this step
abbrev pub reserves : ℕ → StepAt → Bool
reserves c s = is_by_call c s && is_some (number_of s.event) && is_accepted s.reply

-- the reference that the attempt reserved, in the cell of its target
abbrev pub reference_reserved : Undone → Option Reference
reference_reserved u = reference_held u.target (option_and_then (λ (s : StepAt). number_of s.event) (find (reserves u.call) u.between))

-- the refusal comes from this channel, or from this reference
abbrev pub comes_from : Option ChanId → Option Reference → Option Refusal → Bool
comes_from target reference None = false
comes_from target reference (Some NoCall) = false
comes_from target reference (Some CallExists) = false
comes_from target reference (Some WrongPhase) = false
comes_from target reference (Some NoChannel) = false
comes_from target reference (Some SameCell) = false
comes_from target reference (Some (ChannelBusy x)) = is_channel target (Some x)
comes_from target reference (Some (RefBusy k n)) = is_reference reference (Some (record { cell = k; number = n }))
comes_from target reference (Some (Unexpected x)) = false
comes_from target reference (Some NotArmed) = false

abbrev pub refused_for : Option ChanId → Option Reference → List StepAt → List StepAt
refused_for target reference steps = filter (λ s. comes_from target reference (refusal_of s.reply)) steps

-- the others that were refused for what the attempt held: its channel from the opening on, its reference from the step that
-- reserved it to the undo, and again its channel while the release was awaited
abbrev pub held_refusals : Undone → List StepAt
held_refusals u =
    refused_for u.target None (others_between u (up_to_first (reserves u.call) u.between))
    ++ (refused_for u.target (reference_reserved u) (others_between u (after_first (reserves u.call) u.between))
    ++ refused_for u.target None (others_awaiting u (awaiting u)))

-- where the first of them stands
abbrev pub first_held : Undone → Option ℕ
first_held u = option_map (λ (s : StepAt). s.place) (slice_get (held_refusals u) 0)

-- LAWS

-- a list has at most one undone attempt that opens at a place
abbrev pub UndoneIsUnique : Type 0
UndoneIsUnique =
    (b : State) (es : List Event) (u v : Undone) → IsUndoneAttempt b es u → IsUndoneAttempt b es v →
    u.opening.place ≡ v.opening.place → u ≡ v
