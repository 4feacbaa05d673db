-- Sixteen octets as two words.
use Rattle.std.proofs.Common.{◌≡◌, ◌∙◌, sym, ℕ, zero, suc, ◌*◌, ◌+◌, ◌%◌, ◌<◌, ◌^◌, List, [], ◌∷◌, ◌++◌, length, take, drop, get_or, ap, arith}
use Rattle.std.proofs.lemmas.Grind.{flat_map-append}
use Rattle.std.proofs.lemmas.List.{take-append-drop, length-take-le, length-drop, get_or-drop}
use Rattle.std.proofs.lemmas.Nat.{be_bytes_8}
use Rattle.std.proofs.Math.Seq.{take-length}
use Rattle.std.specs.Int.{from_be_bytes, to_be_bytes, w64}
use Rattle.std.specs.Int.RustNames.{bit_or}
use Rattle.octet_elements.specs.Bits.{bits, bits_of}
use Rattle.octet_elements.proofs.BitLemmas.{length-bits, bits-put, cut-bits-eights, put_number}
use Rattle.octet_elements.proofs.FieldLemmas.{bits_of-cut}

-- the bits of a word are those of its octets
bits-word : (octets : List ℕ) (n : ℕ) → length octets ≡ 8 → ((i : ℕ) → get_or octets i 0 < 256) → n ≡ from_be_bytes w64 octets → bits 64 n ≡ bits_of octets
bits-word octets n eight range is =
    let same : to_be_bytes w64 n ≡ octets = be_bytes_8 octets n eight range is in
    let eights : bits_of (to_be_bytes w64 n) ≡ bits 64 n = ap bits_of (sym (cut-bits-eights 8 n)) ∙ bits_of-cut 8 n in
    sym eights ∙ ap bits_of same

take-whole : (k : ℕ) (bs : List ℕ) → length bs ≡ k → take k bs ≡ bs
take-whole k bs long = ap (λ j. take j bs) (sym long) ∙ take-length bs

below-take : (k : ℕ) (xs : List ℕ) → ((i : ℕ) → get_or xs i 0 < 256) → (i : ℕ) → get_or (take k xs) i 0 < 256
below-take zero xs below i = omega arith
below-take (suc k) [] below i = omega arith
below-take (suc k) (x ∷ xs) below zero = below zero
below-take (suc k) (x ∷ xs) below (suc i) = below-take k xs (λ j. below (suc j)) i

-- a reader of two words has the bits of their octets
pub two_words : (octets : List ℕ) (high low : ℕ) → length octets ≡ 16 → ((i : ℕ) → get_or octets i 0 < 256) → high < 2 ^ 64 → low < 2 ^ 64 → high ≡ from_be_bytes w64 (take 8 octets) → low ≡ from_be_bytes w64 (drop 8 octets) → take 128 (bits 128 (bit_or (high * 2 ^ 64 % 2 ^ 128) low)) ≡ bits_of octets
two_words octets high low sixteen below big small is are =
    let number : bit_or (high * 2 ^ 64 % 2 ^ 128) low ≡ high * 2 ^ 64 + low = put_number high 64 64 low big (omega arith) small in
    let words : bits 128 (high * 2 ^ 64 + low) ≡ bits 64 high ++ bits 64 low = bits-put 64 64 high low small in
    let first : bits 64 high ≡ bits_of (take 8 octets) = bits-word (take 8 octets) high (length-take-le 8 octets (omega arith)) (below-take 8 octets below) is in
    let last : bits 64 low ≡ bits_of (drop 8 octets) = bits-word (drop 8 octets) low (omega (arith, length-drop 8 octets)) (λ i. rw (get_or-drop 8 octets i 0) (below (8 + i))) are in
    take-whole 128 _ (length-bits 128 _) ∙ ap (bits 128) number ∙ words ∙ ap (λ bs. bs ++ bits 64 low) first ∙ ap (λ bs. bits_of (take 8 octets) ++ bs) last ∙ sym (flat_map-append (bits 8) (take 8 octets) (drop 8 octets)) ∙ ap bits_of (take-append-drop 8 octets)
