-- The words of a text. A text is the list of its bytes. Ours, of no standard.
use Rattle.std.specs.Prelude.{ℕ, ◌==◌, ◌&&◌, nat_le, Bool, not, List, length, filter, zip, bytes_eq}
use Rattle.std.specs.List.{slice_split, list_any, list_all, take_while}
use Rattle.expectations.specs.Stars.{is_like}

-- one blank stands between any two
abbrev pub words_of : List ℕ → List (List ℕ)
words_of text = slice_split (λ b. b == 32) text

-- key=value
abbrev pub is_field : List ℕ → Bool
is_field word = list_any (λ b. b == 61) word

abbrev pub has_word : List (List ℕ) → List ℕ → Bool
has_word words word = list_any (λ other. bytes_eq other word) words

-- how often words have a word
abbrev pub count_of : List (List ℕ) → List ℕ → ℕ
count_of words word = length (filter (λ other. bytes_eq other word) words)

-- they have a word as often as others, or more often
abbrev pub has_enough : List (List ℕ) → List (List ℕ) → List ℕ → Bool
has_enough words others word = nat_le (count_of others word) (count_of words word)

-- all of these are among those, each as often or more often
abbrev pub has_all : List (List ℕ) → List (List ℕ) → Bool
has_all words others = list_all (has_enough words others) others

-- how many of the words are such for which a word stands
abbrev pub count_like : List (List ℕ) → List ℕ → ℕ
count_like words word = length (filter (λ other. is_like other word) words)

-- so many as others have the word, or more
abbrev pub has_enough_like : List (List ℕ) → List (List ℕ) → List ℕ → Bool
has_enough_like words others word = nat_le (count_of others word) (count_like words word)

-- all for which these stand are among those, each as often or more often
abbrev pub has_all_like : List (List ℕ) → List (List ℕ) → Bool
has_all_like words others = list_all (has_enough_like words others) others

-- the words before the first field
abbrev pub name_of : List (List ℕ) → List (List ℕ)
name_of words = take_while (λ word. not (is_field word)) words

-- a word, and one that stands for it
abbrev pub is_one_like : List ℕ × List ℕ → Bool
is_one_like two = is_like two.0 two.1

-- the words are those for which others stand, in their order
abbrev pub are_like : List (List ℕ) → List (List ℕ) → Bool
are_like words others = (length words == length others) && list_all is_one_like (zip words others)
