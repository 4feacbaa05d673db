-- Which lines meet what is expected of them. A line that came is its text, and its words where it is a message. Ours, of no
-- standard.
use Rattle.std.specs.Prelude.{◌≡◌, ◌⊎◌, ℕ, ◌+◌, ◌<◌, ◌≤◌, ◌&&◌, ◌||◌, not, Bool, true, false, if◌then◌else◌, List, [], ◌∷◌, length, map, take, Option, Some, None, slice_get, Contains, ◌↔◌}
use Rattle.std.specs.List.{list_any}
use Rattle.expectations.specs.InWords.{is_met_by, is_refused_by}
use Rattle.tested_scripts.specs.Lines.{is_expectation, expected_in, is_any, is_input}
use Rattle.tested_scripts.specs.declared.compare.CameLine.{CameLine}
use Rattle.tested_scripts.specs.declared.compare.Difference.{Difference}

-- a line that came: its text, and its words
abbrev pub Said : Type 0
Said = List ℕ × List ℕ

abbrev pub said_of : List CameLine → List Said
said_of came = map (λ line. (line.text.now, line.words.now)) came

-- the line that came at a place is one that is expected
abbrev pub is_met_at : Option Said → List ℕ → Bool
is_met_at (Some line) text = is_met_by line.0 line.1 text
is_met_at None text = false

abbrev pub is_at : List Said → ℕ → List ℕ → Bool
is_at came place text = is_met_at (slice_get came place) text

-- From one place among the lines that came to another: a line of a script that expects a line takes one that meets it, one
-- that expects any takes as many as there may be, and one that expects nothing takes none.
abbrev pub Takes : List Said → Option (List ℕ) → ℕ → ℕ → Type 0
Takes came None from to = to ≡ from
Takes came (Some text) from to =
    ((is_any text ≡ true) × (from ≤ to) × (to ≤ length came))
    ⊎ ((is_any text ≡ false) × (is_at came from text ≡ true) × (to ≡ from + 1))

-- some lines of a script reach a place, one after another
abbrev pub Reaches : List Said → List (List ℕ) → ℕ → ℕ → Type 0
Reaches came [] from to = to ≡ from
Reaches came (line ∷ lines) from to = (between : ℕ) × Takes came (expected_in line) from between × Reaches came lines between to

-- lines of a script that expect something
abbrev pub expect_any : List (List ℕ) → Bool
expect_any lines = list_any is_expectation lines

-- A line that is expected may be the echo of the script's line: it is that of an input, or stands for any lines. The first that
-- is expected is so, or none is expected.
abbrev pub is_echo : List ℕ → Bool
is_echo text = is_any text || is_input text

abbrev pub echo_or : Option (List ℕ) → Bool → Bool
echo_or (Some text) later = is_echo text
echo_or None later = later

abbrev pub begins_with_echo : List (List ℕ) → Bool
begins_with_echo [] = true
begins_with_echo (line ∷ lines) = echo_or (expected_in line) (begins_with_echo lines)

-- The place from which on the lines that came are expected: behind the echo of the script's line, where the first that is
-- expected is none.
abbrev pub first_place : List (List ℕ) → List Said → ℕ
first_place lines (line ∷ came) = if is_input line.0 && not (begins_with_echo lines) then 1 else 0
first_place lines [] = 0

-- The lines that came are those that the script's lines expect, all of them and no other, but for an echo that is left out.
-- Where they expect nothing, all will do.
abbrev pub AreMet : List (List ℕ) → List Said → Type 0
AreMet lines came = (expect_any lines ≡ false) ⊎ Reaches came lines (first_place lines came) (length came)

-- Up to a place among the script's lines what they expect is met, up to a place among those that came, and to none that is
-- further behind; with the next line it isn't, whatever `..` stands for.
pub record IsFirst (lines : List (List ℕ)) (came : List Said) (d : Difference) : Type 0 where
  pub within : d.line ≤ length lines
  pub met : Reaches came (take d.line lines) (first_place lines came) d.came
  pub furthest : (to : ℕ) → Reaches came (take d.line lines) (first_place lines came) to → to ≤ d.came
  pub not_met : d.line < length lines → (to : ℕ) → Reaches came (take (d.line + 1) lines) (first_place lines came) to → ⊥

-- the place behind one at which a line meets a text
abbrev pub behind : List Said → List ℕ → ℕ → Option ℕ
behind came text place = if is_at came place text then Some (place + 1) else None

-- to these places a line of a script leads from some of those
abbrev pub AreNext : List Said → Option (List ℕ) → List ℕ → List ℕ → Type 0
AreNext came expected places found = (to : ℕ) → Contains found to ↔ ((from : ℕ) × Contains places from × Takes came expected from to)

-- a line that came is refused by a text
abbrev pub is_refused : List ℕ → Said → Bool
is_refused text line = is_refused_by line.0 line.1 text
