-- Which lines of those that come in can be read, and what they give. A line is the list of its octets, without its line feed.
-- Ours, of no standard.
use Rattle.std.specs.Prelude.{◌≡◌, ◌&&◌, ◌||◌, ◌++◌, ℕ, Bool, true, false, not, nat_lt, if◌then◌else◌, List, [], ◌∷◌, length, Option, Some, None}
use Rattle.std.specs.List.{list_any, filter_map, slice_split}
use Rattle.std.specs.Str.{is_utf8}
use Rattle.std.specs.Str.Lines.{strip_carriage_return}
use Rattle.decoded_lines.specs.Reading.{is_feed, longest_line}
use Rattle.lab_script.specs.declared.script.Item.{Item}
use Rattle.lab_script.specs.Script.{is_line, is_sim, needs_sim, item_of, is_item_there}
use Rattle.lab_runs.specs.Turns.{is_attach}
use Rattle.live_runs.specs.declared.line.Said.{Said}
use Rattle.live_runs.specs.declared.line.Said.TheVariants as said

-- a line as a script has it: without the one carriage return that may end it
abbrev pub script_line : List ℕ → List ℕ
script_line line = strip_carriage_return line

-- a text that isn't too long, in one line
unfoldable pub is_text : List ℕ → Bool
is_text line = (not (nat_lt longest_line (length line)) && not (list_any is_feed line)) && is_utf8 line

-- a text is a line of a script for one controller, and asks nothing of simulators that aren't there
unfoldable pub is_readable : Bool → List ℕ → Bool
is_readable has_sim line = is_line false (script_line line) && (has_sim || not (needs_sim (script_line line)))

-- a line can be read, where simulators are attached or not
abbrev pub can_be_read : Bool → List ℕ → Bool
can_be_read has_sim line = is_text line && is_readable has_sim line

-- what a line gives, as a line of a script
unfoldable pub items_at : {A : Type 0} → List ℕ → List (Item A)
items_at line = filter_map item_of (script_line line ∷ [])

-- what a line gives, if it can be read
abbrev pub given_at : {A : Type 0} → Bool → List ℕ → List (Item A)
given_at has_sim line = if can_be_read has_sim line then items_at line else []

-- a line attaches the simulators
unfoldable pub attaches : List ℕ → Bool
attaches line = is_sim (script_line line) && can_be_read false line

-- whether simulators are attached behind a line
abbrev pub sim_behind : Bool → List ℕ → Bool
sim_behind has_sim line = has_sim || attaches line

-- What a line gives where one may attach simulators or may not: where it may not, the line that attaches them can't be read.
abbrev pub given_by : {A : Type 0} → Bool → Bool → List ℕ → List (Item A)
given_by sims has_sim line = if sims || not (is_sim (script_line line)) then given_at has_sim line else []

-- and whether simulators are attached behind it
abbrev pub sim_by : Bool → Bool → List ℕ → Bool
sim_by sims has_sim line = has_sim || (sims && attaches line)

-- What lines give, one after the other, of which each that can be read gives something: behind one that attaches the simulators
-- the others are read with these.
abbrev pub items_of : {A : Type 0} → Bool → Bool → List (List ℕ) → List (Item A)
items_of sims has_sim [] = []
items_of sims has_sim (line ∷ lines) = given_by sims has_sim line ++ items_of sims (sim_by sims has_sim line) lines

-- and what the lines of some octets give, where a line feed stands between any two
abbrev pub items_from : {A : Type 0} → Bool → Bool → List ℕ → List (Item A)
items_from sims has_sim octets = items_of sims has_sim (slice_split is_feed octets)

-- what a line that gives an item or nothing says
abbrev pub said_of : {A : Type 0} → Option (Item A) → Said A
said_of None = said.Nothing
said_of (Some item) = said.Gives item

-- the line was read
abbrev pub is_read : {A : Type 0} → Said A → Bool
is_read said.Unreadable = false
is_read said.Nothing = true
is_read (said.Gives item) = true

-- what it gives
abbrev pub items_said : {A : Type 0} → Said A → List (Item A)
items_said said.Unreadable = []
items_said said.Nothing = []
items_said (said.Gives item) = item ∷ []

-- whether simulators are attached behind it
abbrev pub sim_said : {A : Type 0} → Bool → Said A → Bool
sim_said has_sim said.Unreadable = has_sim
sim_said has_sim said.Nothing = has_sim
sim_said has_sim (said.Gives item) = has_sim || is_attach item.given

-- what it gives is for the one controller
abbrev pub is_there_said : {A : Type 0} → Said A → Bool
is_there_said said.Unreadable = true
is_there_said said.Nothing = true
is_there_said (said.Gives item) = is_item_there false item

-- this is what a line says, where simulators are attached or not
pub record Says {A : Type 0} (has_sim : Bool) (line : List ℕ) (s : Said A) : Type 0 where
  pub read : is_read s ≡ can_be_read has_sim line
  pub gives : items_said s ≡ given_at has_sim line
  pub sim : sim_said has_sim s ≡ sim_behind has_sim line
  pub there : is_there_said s ≡ true
