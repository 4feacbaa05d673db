-- The internet checksum (RFC 1071 clause 1).
use Rattle.std.specs.Prelude.{◌≡◌, ◌<◌, ℕ, ◌+◌, ◌-◌, ◌*◌, ◌%◌, nat_lt, if◌then◌else◌, List, [], ◌∷◌, ◌++◌, length}
use Rattle.std.specs.List.{AllByRecursion}
use Rattle.capture.specs.Numbers.{two}

-- adjacent octets are paired to numbers of 16 bits; a last one alone is paired with 0
unfoldable pub words : List ℕ → List ℕ
words [] = []
words (high ∷ []) = (high * 256) ∷ []
words (high ∷ low ∷ octets) = (high * 256 + low) ∷ words octets

-- addition in 16 bits of ones' complement: a carry out of the highest bit is added at the lowest
unfoldable pub ones_add : ℕ → ℕ → ℕ
ones_add a b = if nat_lt (a + b) 65536 then a + b else (a + b) - 65535

-- the sum of these and of what comes before them
unfoldable pub ones_sum : ℕ → List ℕ → ℕ
ones_sum before [] = before
ones_sum before (w ∷ ws) = ones_sum (ones_add before w) ws

-- the ones' complement of the sum over octets among which the checksum's own are 0
unfoldable pub checksum : List ℕ → ℕ
checksum octets = 65535 - ones_sum 0 (words octets)

-- a receiver's check succeeds: the sum over all octets, those of the checksum too, is sixteen bits of 1
abbrev pub Succeeds : List ℕ → Type 0
Succeeds octets = ones_sum 0 (words octets) ≡ 65535

abbrev pub AreOctets : List ℕ → Type 0
AreOctets octets = AllByRecursion (λ octet. octet < 256) octets

-- wherever the checksum stands among octets, behind an even number of them, the check over all succeeds
abbrev pub ChecksSucceed : Type 0
ChecksSucceed =
    (front back : List ℕ) → AreOctets front → AreOctets back → length front % 2 ≡ 0
    → Succeeds (front ++ (two (checksum (front ++ (two 0 ++ back))) ++ back))
