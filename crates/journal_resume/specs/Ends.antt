-- Where the records of a file end. Ours, of no standard.
use Rattle.std.specs.Prelude.{ℕ, zero, suc, List, [], ◌∷◌}
use Rattle.journal_records.specs.Records.{BeginsWith, IsCut}

-- octets begin with no record
abbrev pub NoRecord : List ℕ → Type 0
NoRecord octets = (number : ℕ) (body behind : List ℕ) → BeginsWith octets number body behind → ⊥

-- an octet in front of others; a zero in front of nothing is left out
abbrev pub in_front : ℕ → List ℕ → List ℕ
in_front zero [] = []
in_front zero (x ∷ xs) = zero ∷ x ∷ xs
in_front (suc n) xs = suc n ∷ xs

-- octets without the zeros at their end
abbrev pub without_zeros : List ℕ → List ℕ
without_zeros [] = []
without_zeros (x ∷ xs) = in_front x (without_zeros xs)

-- Nothing follows, or a record that was cut; zeros may stand behind it up to the end.
abbrev pub IsEnd : List ℕ → Type 0
IsEnd octets = IsCut (without_zeros octets)

-- This may be left of a journal's file behind its records: no record more, and the file ends there.
abbrev pub IsLeft : List ℕ → Type 0
IsLeft octets = NoRecord octets × IsEnd octets
