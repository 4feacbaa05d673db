use Rattle.std.proofs.Common.{◌≡◌, length, take, drop, arith, rules}
use Rattle.std.specs.Int.{from_be_bytes, w64}
use Rattle.octet_elements.proofs.BitLemmas.{length-window}
use Rattle.octet_elements.proofs.WordLemmas.{two_words}
use Rattle.octet_elements.proofs.bits.BitReader.sixteen.Goals as goal

pub returns-clause-bits : goal.returns-clause-bits
returns-clause-bits c =
    let octets = c.args.octets.now in
    let sixteen : length octets ≡ 16 = search rules in
    let high : c.from_be_bytes-high.result ≡ from_be_bytes w64 (take 8 octets) = search rules in
    let low : c.from_be_bytes-low.result ≡ from_be_bytes w64 (drop 8 octets) = search rules in
    rw (c.from.ensures, c.from-2.ensures) (two_words octets c.from_be_bytes-high.result c.from_be_bytes-low.result sixteen (λ i. (c.type_inv.octets i).fits) c.from_be_bytes-high.type_inv c.from_be_bytes-low.type_inv high low)

pub returns-clause-len : goal.returns-clause-len
returns-clause-len c = length-window 128 _ (omega arith)
