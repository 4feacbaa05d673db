-- The records of a journal. Ours, of no standard. A text is the list of its bytes.
use Rattle.std.specs.Prelude.{◌≡◌, ◌⊎◌, ◌<◌, ◌^◌, ℕ, List, [], ◌∷◌, ◌++◌, length, codes}
use Rattle.journal_records.specs.Checksum.{checksum}
use Rattle.journal_records.specs.Numerals.{numeral}

-- how long the head of a record is
abbrev pub head_length : ℕ
head_length = 67

-- A head without its own checksum: the word, the record's number, how many octets its body has, and the checksum of that; each
-- number with all digits that its type may have, and a blank behind it
unfoldable pub head_front : ℕ → ℕ → ℕ → List ℕ
head_front number size sum = codes "record " ++ (numeral 10 20 number ++ 32 ∷ (numeral 10 20 size ++ 32 ∷ (numeral 16 8 sum ++ 32 ∷ [])))

-- the head: one line, at whose end its own checksum stands
unfoldable pub head_text : ℕ → ℕ → ℕ → List ℕ
head_text number size sum = head_front number size sum ++ (numeral 16 8 (checksum (head_front number size sum)) ++ 10 ∷ [])

-- a record: its head, and its body
abbrev pub record_text : ℕ → List ℕ → List ℕ
record_text number body = head_text number (length body) (checksum body) ++ body

-- a head whose numbers are those that its types have, and what stands behind it
pub record HasHead (octets : List ℕ) (number size sum : ℕ) (behind : List ℕ) : Type 0 where
  pub text : octets ≡ head_text number size sum ++ behind
  pub number_fits : number < 2 ^ 64
  pub size_fits : size < 2 ^ 64
  pub sum_fits : sum < 2 ^ 32

-- octets are a body of this size and with this checksum, and what stands behind it
pub record IsBody (size sum : ℕ) (octets body behind : List ℕ) : Type 0 where
  pub text : octets ≡ body ++ behind
  pub has_size : length body ≡ size
  pub has_sum : checksum body ≡ sum

-- Octets begin with a record, and this stands behind it.
pub record BeginsWith (octets : List ℕ) (number : ℕ) (body behind : List ℕ) : Type 0 where
  pub text : octets ≡ record_text number body ++ behind
  pub number_fits : number < 2 ^ 64
  pub size_fits : length body < 2 ^ 64

-- A record was cut: the octets end within its head, or before its body does.
abbrev pub IsCut : List ℕ → Type 0
IsCut octets =
    (length octets < head_length) ⊎
    ((number size sum : ℕ) × (behind : List ℕ) × HasHead octets number size sum behind × (length behind < size))
