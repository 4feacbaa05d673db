-- Numbers as octets, the most significant one first: RFC 791 appendix B, RFC 9293, and a pcap file of that byte order.
use Rattle.std.specs.Prelude.{ℕ, ◌/◌, ◌%◌, List, [], ◌∷◌}

-- a number below 2 ^ 16
abbrev pub two : ℕ → List ℕ
two n = n / 256 ∷ n % 256 ∷ []

-- a number below 2 ^ 32
abbrev pub four : ℕ → List ℕ
four n = n / 16777216 ∷ n / 65536 % 256 ∷ n / 256 % 256 ∷ n % 256 ∷ []
