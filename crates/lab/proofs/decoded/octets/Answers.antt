use Rattle.std.proofs.Common.{◌≡◌, ℕ, Ok, List, [], ◌∷◌, length, sym, ap, arith}
use Rattle.hex.specs.Hex.{decode_of, decode_pairs}
use Rattle.lab.proofs.decoded.octets.Goals as goal

-- a text without digits writes no octets
none_written : (text octets : List ℕ) → length text ≡ 0 → octets ≡ [] → decode_of text ≡ Ok octets
unfolding decode_pairs
none_written [] octets len none = ap Ok (sym none)
none_written (digit ∷ rest) octets len none = absurd (omega (arith, len))

pub returns-then-is_empty-clause-octets : goal.returns-then-is_empty-clause-octets
returns-then-is_empty-clause-octets g c =
    none_written c.args.text.now c.new.result.items (grind (arith, c.is_empty.ensures, c.if-is_empty.true)) c.new.ensures.items
