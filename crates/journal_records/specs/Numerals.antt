-- Numbers as texts of a fixed count of digits, zeros in front. Ours, of no standard. A text is the list of its bytes.
use Rattle.std.specs.Prelude.{ℕ, zero, suc, ◌+◌, ◌-◌, ◌*◌, ◌/◌, ◌%◌, ◌^◌, nat_lt, if◌then◌else◌, List, [], ◌∷◌, ◌++◌, fold}

-- the digit of a value below 16: 0 to 9, a to f
unfoldable pub digit : ℕ → ℕ
digit value = if nat_lt value 10 then 48 + value else 87 + value

-- so many digits of a number in a base, the lowest last
unfoldable pub numeral : ℕ → ℕ → ℕ → List ℕ
numeral base zero number = []
numeral base (suc width) number = numeral base width (number / base) ++ digit (number % base) ∷ []

-- what an octet is worth as a digit; of one that is no digit this says nothing
unfoldable pub digit_value : ℕ → ℕ
digit_value octet = if nat_lt octet 87 then octet - 48 else octet - 87

-- the number once a digit more is read, in 64 bits
unfoldable pub after_digit : ℕ → ℕ → ℕ → ℕ
after_digit base number octet = (number * base % 2 ^ 64 + digit_value octet) % 2 ^ 64

-- what a text is worth as digits in a base, in 64 bits
abbrev pub number_of : ℕ → List ℕ → ℕ
number_of base text = fold (after_digit base) 0 text
