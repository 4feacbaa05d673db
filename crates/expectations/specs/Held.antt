-- What books hold, and what is expected of it, word for word. A text is the list of its bytes. Ours, of no standard.
use Rattle.std.specs.Prelude.{ℕ, ◌==◌, ◌||◌, ◌&&◌, Bool, List, length, codes, zip}
use Rattle.std.specs.List.{list_all}
use Rattle.expectations.specs.Stars.{is_like}
use Rattle.expectations.specs.Words.{words_of, has_word, has_all}

-- a word, and the one that is expected, in which a star stands for any
abbrev pub is_word_met : List ℕ × List ℕ → Bool
is_word_met words = is_like words.0 words.1

-- as many words, each of them met
abbrev pub are_words_met : List ℕ → List ℕ → Bool
are_words_met answer expected = (length (words_of answer) == length (words_of expected)) && list_all is_word_met (zip (words_of answer) (words_of expected))

-- both have the words of the other, in any order
abbrev pub are_same_words : List ℕ → List ℕ → Bool
are_same_words answer expected = has_all (words_of answer) (words_of expected) && has_all (words_of expected) (words_of answer)

-- Channels may stand in any order, all else stands in its own.
abbrev pub is_answered : List ℕ → List ℕ → Bool
is_answered answer expected = are_words_met answer expected || (has_word (words_of expected) (codes "channels") && are_same_words answer expected)
