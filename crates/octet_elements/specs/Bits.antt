-- Bit strings, the most significant bit first, and how they are cut into numbers.
use Rattle.std.specs.Prelude.{ℕ, zero, suc, ◌+◌, ◌*◌, ◌/◌, ◌%◌, ◌^◌, List, [], ◌∷◌, ◌++◌, length, take, drop, flat_map, replicate}

-- so many low bits of a number
unfoldable pub bits : ℕ → ℕ → List ℕ
bits zero n = []
bits (suc width) n = n / 2 ^ width % 2 ∷ bits width n

-- the bits of octets, one octet after the other
abbrev pub bits_of : List ℕ → List ℕ
bits_of octets = flat_map (bits 8) octets

-- the number that bits stand for
unfoldable pub number_of : List ℕ → ℕ
number_of [] = 0
number_of (b ∷ bs) = b * 2 ^ length bs + number_of bs

-- how many bits the widths take
abbrev pub total : List ℕ → ℕ
total [] = 0
total (width ∷ widths) = width + total widths

-- a bit string cut by widths: the number that each piece stands for
abbrev pub cut : List ℕ → List ℕ → List ℕ
cut [] bs = []
cut (width ∷ widths) bs = number_of (take width bs) ∷ cut widths (drop width bs)

-- the bits that follow the pieces
abbrev pub after : List ℕ → List ℕ → List ℕ
after [] bs = bs
after (width ∷ widths) bs = after widths (drop width bs)

-- widths so many times over
abbrev pub repeated_widths : ℕ → List ℕ → List ℕ
repeated_widths zero widths = []
repeated_widths (suc k) widths = widths ++ repeated_widths k widths

-- numbers written with these widths, one after the other
abbrev pub bits_written : List ℕ → List ℕ → List ℕ
bits_written [] ns = []
bits_written (width ∷ widths) [] = []
bits_written (width ∷ widths) (n ∷ ns) = bits width n ++ bits_written widths ns

-- the octets of a bit string: it is cut by eights
abbrev pub octets_of : List ℕ → List ℕ
octets_of bs = cut (replicate (length bs / 8) 8) bs
