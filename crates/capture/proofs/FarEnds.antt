-- The other ends of links have addresses of their own.
use Rattle.std.proofs.Common.{◌≡◌, ◌<◌, ap, refl, ℕ, ◌+◌, ◌*◌, ◌/◌, ◌%◌, arith}
use Rattle.capture.specs.declared.path.Side.{Side}
use Rattle.capture.specs.declared.path.Side.TheVariants.{First, Peer}
use Rattle.capture.specs.declared.path.Wire.{Wire}
use Rattle.capture.specs.declared.path.Wire.TheVariants.{Abis, A}
use Rattle.capture.specs.Ends.{Fits, far, FarIsUnique}

-- a call's number is told by its last two digits, the two before them, and what is left
digits : (m n : ℕ) → m / 100 / 100 ≡ n / 100 / 100 → m / 100 % 100 ≡ n / 100 % 100 → m % 100 ≡ n % 100 → m ≡ n
digits m n high middle low = omega arith

same_abis : (a b c d : ℕ) → a ≡ c → b ≡ d → Abis a b ≡ Abis c d
same_abis a b c d p q = cc

same_call : (m n : ℕ) → m < 65536 → n < 65536 → (m / 100 / 100) * 65536 + (m / 100 % 100) * 256 + m % 100 ≡ (n / 100 / 100) * 65536 + (n / 100 % 100) * 256 + n % 100 → m ≡ n
same_call m n p q same = digits m n (omega arith) (omega arith) (omega arith)

pub far_unique : FarIsUnique
far_unique First First (Abis a b) (Abis c d) p q same = (refl, same_abis a b c d (omega (arith, p.0, p.1, q.0, q.1)) (omega (arith, p.0, p.1, q.0, q.1)))
far_unique First First (Abis a b) (A n) p q same = absurd (omega (arith, p.0, p.1))
far_unique First First (A m) (Abis c d) p q same = absurd (omega (arith, q.0, q.1))
far_unique First First (A m) (A n) p q same = (refl, ap A (same_call m n p q (omega arith)))
far_unique First Peer (Abis a b) (Abis c d) p q same = absurd (omega (arith, p.0, p.1, q.0, q.1))
far_unique First Peer (Abis a b) (A n) p q same = absurd (omega (arith, p.0, p.1))
far_unique First Peer (A m) (Abis c d) p q same = absurd (omega (arith, q.0, q.1))
far_unique First Peer (A m) (A n) p q same = absurd (omega arith)
far_unique Peer First (Abis a b) (Abis c d) p q same = absurd (omega (arith, p.0, p.1, q.0, q.1))
far_unique Peer First (Abis a b) (A n) p q same = absurd (omega (arith, p.0, p.1))
far_unique Peer First (A m) (Abis c d) p q same = absurd (omega (arith, q.0, q.1))
far_unique Peer First (A m) (A n) p q same = absurd (omega arith)
far_unique Peer Peer (Abis a b) (Abis c d) p q same = (refl, same_abis a b c d (omega (arith, p.0, p.1, q.0, q.1)) (omega (arith, p.0, p.1, q.0, q.1)))
far_unique Peer Peer (Abis a b) (A n) p q same = absurd (omega (arith, p.0, p.1))
far_unique Peer Peer (A m) (Abis c d) p q same = absurd (omega (arith, q.0, q.1))
far_unique Peer Peer (A m) (A n) p q same = (refl, ap A (same_call m n p q (omega arith)))
