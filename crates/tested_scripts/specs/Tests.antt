-- Which parts of a script are met by what came of them. A text is the list of its bytes. Ours, of no standard.
use Rattle.std.specs.Prelude.{◌≡◌, ◌⊎◌, ℕ, ◌+◌, ◌-◌, ◌^◌, min, Bool, true, false, List, [], ◌∷◌, length, take, drop, zip, codes, Option, Some, None}
use Rattle.std.specs.List.{before_first, list_any}
use Rattle.lab_script.specs.Script.{lines_of}
use Rattle.expectations.specs.Comments.{behind}
use Rattle.tested_scripts.specs.Lines.{is_script_line, says_something}
use Rattle.tested_scripts.specs.Meeting.{Said, AreMet, is_refused}
use Rattle.tested_scripts.specs.declared.heard.Came.{Came}

-- the lines of what a run printed: nothing stands behind the last line feed
abbrev pub printed_lines : List ℕ → List (List ℕ)
printed_lines text = take (length (lines_of text) - 1) (lines_of text)

-- the lines that came, each with its words
abbrev pub came_in : Came → List Said
came_in came = zip (printed_lines came.trace.now) (printed_lines came.words.now)

-- the lines of a script from a place on, up to the next that gives something
abbrev pub part_at : List (List ℕ) → ℕ → List (List ℕ)
part_at lines place = before_first is_script_line (drop place lines)

-- the place behind that line, as far as it can be told
abbrev pub next_place : List (List ℕ) → ℕ → ℕ
next_place lines place = min (2 ^ 64 - 1) (place + (length (part_at lines place) + 1))

-- a script says something of what comes
abbrev pub expects_something : List ℕ → Bool
expects_something script = list_any says_something (lines_of script)

-- a line's text says that no line that came is so, and one is
abbrev pub is_broken_by : Option (List ℕ) → List Said → Bool
is_broken_by None came = false
is_broken_by (Some text) came = list_any (is_refused text) came

-- a line of a script says so of lines that came
abbrev pub is_broken : List Said → List ℕ → Bool
is_broken came line = is_broken_by (behind (codes "#! ") line) came

-- No line of a part says that none is so as one that came is.
abbrev pub AreKept : List (List ℕ) → List Said → Type 0
AreKept part came = list_any (is_broken came) part ≡ false

-- What came of a part is what it expects; and so is what the books hold then, or isn't.
abbrev pub IsPartMet : List (List ℕ) → Came → Bool → Type 0
IsPartMet part came held = AreMet part (came_in came) × AreKept part (came_in came) × (held ≡ true)

-- the last part is met: the trace's end may be expected or left out, and is among what came
abbrev pub IsLastMet : List (List ℕ) → Came → Came → Bool → Type 0
IsLastMet part came ended held = (AreMet part (came_in came) ⊎ AreMet part (came_in ended)) × AreKept part (came_in ended) × (held ≡ true)

-- from a place on all parts are met by what came of them, and the last by what came last
abbrev pub AllMet : List (List ℕ) → ℕ → List (Came × Bool) → Came → Came → Bool → Type 0
AllMet lines place [] came ended held = IsLastMet (part_at lines place) came ended held
AllMet lines place (one ∷ more) came ended held = IsPartMet (part_at lines place) one.0 one.1 × AllMet lines (next_place lines place) more came ended held

-- What came of so many parts of a script, and what came last; whether the books held what was expected of them is told of
-- each part.
pub record Heard (script : List ℕ) (count : ℕ) : Type 0 where
  pub parts : List (Came × Bool)
  pub each : length parts ≡ count
  pub came : Came
  pub ended : Came
  pub held : Bool

abbrev pub WasMet : (script : List ℕ) (count : ℕ) → Heard script count → Type 0
WasMet script count h = AllMet (lines_of script) 0 h.parts h.came h.ended h.held

-- so many parts of a script expect what came of them, and the next what came last
abbrev pub IsMet : List ℕ → ℕ → Type 0
IsMet script count = (h : Heard script count) × WasMet script count h

-- one of them doesn't
abbrev pub IsMissed : List ℕ → ℕ → Type 0
IsMissed script count = (h : Heard script count) × (WasMet script count h → ⊥)
