-- Messages in words, and which of them are expected. A text is the list of its bytes. Ours, of no standard.
use Rattle.std.specs.Prelude.{ℕ, ◌==◌, ◌&&◌, ◌||◌, Bool, not, List, length}
use Rattle.std.specs.List.{slice_split, list_any, list_all}
use Rattle.expectations.specs.Ends.{begins_line, begins_words}
use Rattle.expectations.specs.Marks.{without_mark}
use Rattle.expectations.specs.Words.{words_of, name_of, are_like, has_all_like}
use Rattle.expectations.specs.Stars.{is_line_like}

-- the parts of a line in words: each but the last ends at a semicolon
abbrev pub parts_of : List ℕ → List (List ℕ)
parts_of line = slice_split (λ b. b == 59) line

-- a part has the expected one's name, and all its fields
abbrev pub is_part_met : List ℕ → List ℕ → Bool
is_part_met part expected = are_like (name_of (words_of part)) (name_of (words_of expected)) && has_all_like (words_of part) (words_of expected)

-- one part is that
abbrev pub has_part : List ℕ → List ℕ → Bool
has_part line expected = list_any (λ part. is_part_met part expected) (parts_of line)

-- each part that is expected is there
abbrev pub are_in_words : List ℕ → List ℕ → Bool
are_in_words line expected = list_all (has_part line) (parts_of expected)

-- a line has words, and these are so
abbrev pub are_met : List ℕ → List ℕ → Bool
are_met words expected = not (length words == 0) && are_in_words words expected

-- a line is one for which the text that is expected stands, or it is that in words
abbrev pub is_met_by : List ℕ → List ℕ → List ℕ → Bool
is_met_by line words expected = is_line_like line expected || are_met words expected

-- A line is refused by a text: it begins so, by itself or in words, to the end of a word or between octets; or it is that in words.
abbrev pub is_refused_as : List ℕ → List ℕ → List ℕ → Bool
is_refused_as line words text = begins_line line text || begins_words words text || are_met words text

-- Behind no mark a text is of any controller.
abbrev pub is_refused_by : List ℕ → List ℕ → List ℕ → Bool
is_refused_by line words text = is_refused_as line words text || is_refused_as (without_mark line) (without_mark words) text
