-- Facts of numbers of words.
use Rattle.std.proofs.Common.{◌≡◌, ℕ, ◌==◌, ◌&&◌, Bool, arith}

-- as many, and a test
pub both : (n m : ℕ) (b c : Bool) → n ≡ m → b ≡ c → b ≡ ((n == m) && c)
both n m b c e h = grind (arith, e, h)
