-- Attempts that are followed along steps, and rows that tell where those stand which a step can concern. Ours, of no standard.
use Rattle.std.specs.Prelude.{◌≡◌, ◌⊎◌, ◌+◌, ◌%◌, ◌==◌, ℕ, Bool, true, false, not, IsTrue, if◌then◌else◌, List, [], ◌∷◌, ◌++◌, map, filter, length, set, slice_get, slice_index_or, Option, Some, None}
use Rattle.std.specs.List.{list_any}
use Rattle.std.specs.Option.{option_to_list}
use Rattle.channel_fsm.specs.declared.ChanId.{ChanId}
use Rattle.radio_book.specs.declared.event.Refusal.{Refusal}
use Rattle.radio_book.specs.declared.event.Refusal.TheVariants.{NoCall, CallExists, WrongPhase, NoChannel, SameCell, ChannelBusy, RefBusy, Unexpected, NotArmed}
use Rattle.radio_book.specs.declared.undone.StepAt.{StepAt}
use Rattle.radio_book.specs.declared.following.Followed.{Followed}
use Rattle.radio_book.specs.declared.facts.About.{About}
use Rattle.radio_book.specs.declared.facts.About.TheVariants.{Call, Channel}
use Rattle.radio_book.specs.Facts.{event_facts}
use Rattle.radio_book.specs.Kinds.{refusal_of}
use Rattle.radio_book.specs.Following.{is_over, after, settles, opening_of}

-- ROWS

-- the row of a cell has its number; behind those of the cells come those of the calls, which share them by their numbers' remainders
unfoldable pub call_row : ℕ → ℕ
call_row c = 256 + c % 1024

-- the row of the cell of a channel; where none is named, that of a call
abbrev pub cell_row : ℕ → Option ChanId → ℕ
cell_row c None = call_row c
cell_row c (Some x) = x.cell

abbrev pub target_row : Followed → ℕ
target_row p = cell_row p.call p.target

-- the row of the call that a step is asked for, or of the cell of the channel that a station's step is about
abbrev pub asked_row : About → ℕ
asked_row (Call c) = call_row c
asked_row (Channel x) = x.cell

abbrev pub step_row : StepAt → ℕ
step_row s = asked_row (event_facts s.event).about

-- the row of the cell of the channel, or of the reference, that a refusal names
abbrev pub busy_row : Refusal → Option ℕ
busy_row NoCall = None
busy_row CallExists = None
busy_row WrongPhase = None
busy_row NoChannel = None
busy_row SameCell = None
busy_row (ChannelBusy x) = Some x.cell
busy_row (RefBusy k n) = Some k
busy_row (Unexpected x) = None
busy_row NotArmed = None

abbrev pub busy_in : Option Refusal → Option ℕ
busy_in None = None
busy_in (Some why) = busy_row why

abbrev pub refused_row : StepAt → Option ℕ
refused_row s = busy_in (refusal_of s.reply)

abbrev pub row_of : List (List ℕ) → ℕ → List ℕ
row_of rows r = slice_index_or rows r []

abbrev pub with_place : List (List ℕ) → ℕ → ℕ → List (List ℕ)
with_place rows r i = set rows r (row_of rows r ++ (i ∷ []))

-- the place stands in the row
abbrev pub stands : ℕ → List ℕ → Bool
stands i row = list_any (λ j. j == i) row

-- an attempt at a place stands in the row of its call, and in that of its target's cell
pub record StandsIn (rows : List (List ℕ)) (i : ℕ) (p : Followed) : Type 0 where
  pub by_call : IsTrue (stands i (row_of rows (call_row p.call)))
  pub by_cell : IsTrue (stands i (row_of rows (target_row p)))

-- each attempt that isn't over does
pub record AreRows (rows : List (List ℕ)) (ps : List Followed) : Type 0 where
  pub count : length rows ≡ 1280
  pub each : (i : ℕ) (p : Followed) → slice_get ps i ≡ Some p → is_over p ≡ false → StandsIn rows i p

-- the step changes no attempt but those that stand in the row
abbrev pub IsEnough : List Followed → List ℕ → StepAt → Type 0
IsEnough ps row s = (i : ℕ) (p : Followed) → slice_get ps i ≡ Some p → (after p s ≡ p) ⊎ IsTrue (stands i row)

-- the attempts that aren't over
abbrev pub open_among : List Followed → List Followed
open_among ps = filter (λ p. not (is_over p)) ps

-- PLACES

-- the attempt passes the test; where there is none, nothing fails
abbrev pub passes : (Followed → Bool) → Option Followed → Bool
passes test None = true
passes test (Some p) = test p

abbrev pub passes_at : (Followed → Bool) → List Followed → ℕ → Bool
passes_at test ps i = passes test (slice_get ps i)

-- the places whose attempts aren't over
abbrev pub open_places : List Followed → List ℕ → List ℕ
open_places ps row = filter (λ i. passes_at (λ p. not (is_over p)) ps i) row

abbrev pub cleaned : List (List ℕ) → ℕ → List Followed → List (List ℕ)
cleaned rows r ps = set rows r (open_places ps (row_of rows r))

-- the attempt at a place goes on by a step
abbrev pub gone_on_with : Option Followed → List Followed → ℕ → StepAt → List Followed
gone_on_with None ps i s = ps
gone_on_with (Some p) ps i s = set ps i (after p s)

abbrev pub gone_on : List Followed → ℕ → StepAt → List Followed
gone_on ps i s = gone_on_with (slice_get ps i) ps i s

-- SETTLED OPENINGS

-- of each attempt that opens among the steps, whether the steps behind its opening settle it
abbrev pub settled_flags : List StepAt → List Bool
settled_flags [] = []
settled_flags (s ∷ ss) = map (λ (p : Followed). settles p ss) (option_to_list (opening_of s)) ++ settled_flags ss

-- the attempt, if the first flag is set
abbrev pub flagged : Option Followed → List Bool → Option Followed
flagged None flags = None
flagged (Some p) [] = None
flagged (Some p) (flag ∷ flags) = if flag then Some p else None

-- the flags behind that of the attempt
abbrev pub flags_behind : Option Followed → List Bool → List Bool
flags_behind None flags = flags
flags_behind (Some p) [] = []
flags_behind (Some p) (flag ∷ flags) = flags
