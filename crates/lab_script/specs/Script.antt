-- What a script says, line by line.
use Rattle.std.specs.Prelude.{◌≡◌, ℕ, ◌==◌, ◌||◌, ◌&&◌, Bool, true, false, nat_eq, not, if◌then◌else◌, List, map, take, codes, Option, Some, is_some, option_map, option_and_then, unwrap_or, bytes_eq}
use Rattle.std.specs.List.{slice_split, filter_map, list_all, list_any, starts_with, position_from, enumerate_from}
use Rattle.std.specs.Str.Lines.{strip_carriage_return}
use Rattle.lab_script.specs.declared.script.Given.{Given}
use Rattle.lab_script.specs.declared.script.Given.TheVariants.{Attach}
use Rattle.lab_script.specs.declared.script.Item.{Item}
use Rattle.lab_script.specs.Sides.{is_for_peer, side_of, is_there}
use Rattle.lab_script.specs.Said as said
use Rattle.lab_script.specs.Said.{line_said, given}

-- the line that attaches the simulators: it is for both controllers, and so has no mark
abbrev pub is_sim : List ℕ → Bool
is_sim line = bytes_eq line (codes "sim")

-- a line that asks something of the simulators
abbrev pub needs_sim : List ℕ → Bool
needs_sim line = unwrap_or (option_map (λ r. said.needs_sim r.0) (line_said line)) false

-- what a line says
abbrev pub given_by : {A : Type 0} → List ℕ → Option (Given A)
given_by line = if is_sim line then Some Attach else option_and_then (λ r. given r.1 r.0) (line_said line)

-- what a line gives
abbrev pub item_of : {A : Type 0} → List ℕ → Option (Item A)
item_of line = option_map (λ given. record { side = side_of line; given = given }) (given_by line)

abbrev pub is_comment : List ℕ → Bool
is_comment line = starts_with nat_eq line (codes "#")

-- blanks and tabs alone
abbrev pub is_blank : List ℕ → Bool
is_blank line = list_all (λ b. b == 32 || b == 9) line

-- a line for a controller that is there
abbrev pub is_addressed : Bool → List ℕ → Bool
is_addressed has_peer line = has_peer || not (is_for_peer line)

-- a line that gives something to a controller that is there, or is passed over
abbrev pub is_line : Bool → List ℕ → Bool
is_line has_peer line = (is_comment line || is_blank line) || (is_addressed has_peer line && is_some (given_by {A = Unit} line))

-- the lines of a text, each without the one carriage return that may end it
abbrev pub lines_of : List ℕ → List (List ℕ)
lines_of text = map strip_carriage_return (slice_split (λ b. b == 10) text)

-- A line can't be read where it is no line at all, or where it asks something of the simulators and they aren't attached.
abbrev pub is_unreadable : Bool → Bool → List ℕ → Bool
is_unreadable has_peer has_sim line = not (is_line has_peer line) || (needs_sim line && not has_sim)

-- one of these lines attaches the simulators
abbrev pub attaches_sim : List (List ℕ) → Bool
attaches_sim lines = list_any is_sim lines

-- the number of the first line that can't be read behind those before it, counted from 1
abbrev pub first_unreadable : Bool → List ℕ → Option ℕ
first_unreadable has_peer text = position_from (λ at. is_unreadable has_peer (attaches_sim (take at.0 (lines_of text))) at.1) 1 (enumerate_from 0 (lines_of text))

-- what the lines of a text give, in their order
abbrev pub items_of : {A : Type 0} → List ℕ → List (Item A)
items_of text = filter_map item_of (lines_of text)

-- what is given is for controllers that are there
abbrev pub is_item_there : {A : Type 0} → Bool → Item A → Bool
is_item_there has_peer item = is_there has_peer item.side

abbrev pub AreThere : {A : Type 0} → Bool → List (Item A) → Type 0
AreThere has_peer items = list_all (is_item_there has_peer) items ≡ true
