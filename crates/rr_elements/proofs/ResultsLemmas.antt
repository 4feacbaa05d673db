-- Measurement results, read and written.
use Rattle.std.proofs.Common.{◌≡◌, ◌∙◌, sym, ℕ, zero, suc, ◌+◌, ◌*◌, ◌-◌, ◌≤◌, List, [], ◌∷◌, ◌++◌, length, take, replicate, flat_map, append_assoc, append-nil, refl, ap, arith, Ok}
use Rattle.std.proofs.lemmas.Grind.{flat_map-append}
use Rattle.std.proofs.lemmas.List.{take_at, length-take-le, length-append, length-replicate}
use Rattle.rr_elements.specs.declared.measurement.MeasHead.{MeasHead}
use Rattle.rr_elements.specs.declared.measurement.Ncell.{Ncell}
use Rattle.octet_elements.specs.Bits.{bits, bits_of, cut, after, repeated_widths, bits_written}
use Rattle.rr_elements.specs.MeasResults.{Results, IsResultsText, used_count, head_widths, head_numbers, ncell_widths, ncell_numbers, results_widths, results_numbers, no_ncell}
use Rattle.octet_elements.proofs.CutLemmas.{cut-append, repeated_widths-add, bits_written-append}
use Rattle.octet_elements.proofs.BitLemmas.{no_bits, zeros-add}
use Rattle.octet_elements.proofs.FieldLemmas.{flag-one, flag-none}
use Rattle.rr_elements.proofs.Readers.{ncells_of, results_of, results_said}

ncells_of-numbers : (cells : List Ncell) → ncells_of (flat_map ncell_numbers cells) ≡ cells
ncells_of-numbers [] = refl
ncells_of-numbers (c ∷ cs) = ap (λ rest. c ∷ rest) (ncells_of-numbers cs)

results_of-numbers : (h : MeasHead) (cells : List Ncell) → results_of (head_numbers h ++ flat_map ncell_numbers cells) ≡ Ok (record { head = h; neighbours = take (used_count h.count) cells })
results_of-numbers h cells =
    rw (flag-one h.ba, flag-one h.dtx, flag-one h.ba3g, flag-none h.valid, flag-one h.si23, ncells_of-numbers cells) refl

-- any bits are fields of places
cells_there : (k : ℕ) (bs : List ℕ) → flat_map ncell_numbers (ncells_of (cut (repeated_widths k ncell_widths) bs)) ≡ cut (repeated_widths k ncell_widths) bs
cells_there zero bs = refl
cells_there (suc k) bs = ap (λ ns. cut ncell_widths bs ++ ns) (cells_there k (after ncell_widths bs))

length-cells : (k : ℕ) (bs : List ℕ) → length (ncells_of (cut (repeated_widths k ncell_widths) bs)) ≡ k
length-cells zero bs = refl
length-cells (suc k) bs = ap suc (length-cells k (after ncell_widths bs))

-- a text is read as its value
pub text-said : (v : Results) (octets : List ℕ) → IsResultsText v octets → results_said octets ≡ Ok v
unfolding results_said
text-said v octets text =
    let cells = v.neighbours ++ text.others in
    let said : results_of (cut results_widths (bits_of octets)) ≡ Ok (record { head = v.head; neighbours = take (used_count v.head.count) cells }) = ap results_of text.fields.pieces ∙ results_of-numbers v.head cells in
    let front : take (used_count v.head.count) cells ≡ v.neighbours = take_at v.neighbours text.others (used_count v.head.count) text.count in
    let bits : 8 * length octets ≡ 128 = text.fields.len in
    let sixteen : length octets ≡ 16 = omega arith in
    rw sixteen (said ∙ ap (λ ns. Ok (record { head = v.head; neighbours = ns })) front)

-- what was read of octets: they are a text of it
pub read-text : (octets : List ℕ) (h : MeasHead) (places : List Ncell) → length octets ≡ 16 → length places ≡ 6 → used_count h.count ≤ 6 → head_numbers h ≡ cut head_widths (bits_of octets) → flat_map ncell_numbers (take (used_count h.count) places) ≡ cut (repeated_widths (used_count h.count) ncell_widths) (after head_widths (bits_of octets)) → IsResultsText (record { head = h; neighbours = take (used_count h.count) places }) octets
read-text octets h places sixteen six few head front =
    let n = used_count h.count in
    let rest = after head_widths (bits_of octets) in
    let bs = after (repeated_widths n ncell_widths) rest in
    let others = ncells_of (cut (repeated_widths (6 - n) ncell_widths) bs) in
    let count : length (take n places) ≡ n = length-take-le n places (omega arith) in
    let whole : 6 ≡ n + (6 - n) = omega arith in
    let split : cut (repeated_widths 6 ncell_widths) rest ≡ cut (repeated_widths n ncell_widths) rest ++ cut (repeated_widths (6 - n) ncell_widths) bs =
    ap (λ k. cut (repeated_widths k ncell_widths) rest) whole ∙ ap (λ ws. cut ws rest) (repeated_widths-add n (6 - n) ncell_widths) ∙ cut-append (repeated_widths n ncell_widths) (repeated_widths (6 - n) ncell_widths) rest in
    let cells : flat_map ncell_numbers (take n places ++ others) ≡ cut (repeated_widths 6 ncell_widths) rest =
    flat_map-append ncell_numbers (take n places) others ∙ ap (λ ns. ns ++ flat_map ncell_numbers others) front ∙ ap (λ ns. cut (repeated_widths n ncell_widths) rest ++ ns) (cells_there (6 - n) bs) ∙ sym split in
    let all : cut results_widths (bits_of octets) ≡ head_numbers h ++ flat_map ncell_numbers (take n places ++ others) =
    cut-append head_widths (repeated_widths 6 ncell_widths) (bits_of octets) ∙ ap (λ ns. ns ++ cut (repeated_widths 6 ncell_widths) rest) (sym head) ∙ ap (λ ns. head_numbers h ++ ns) (sym cells) in
    record {
      others = others;
      count = count;
      six = ap (λ k. k + length others) count ∙ ap (λ k. n + k) (length-cells (6 - n) bs) ∙ sym whole;
      fields = record { len = ap (λ k. 8 * k) sixteen; pieces = all };
    }

bits_written-cells : (cells : List Ncell) → bits_written (repeated_widths (length cells) ncell_widths) (flat_map ncell_numbers cells) ≡ flat_map (λ n. bits_written ncell_widths (ncell_numbers n)) cells
bits_written-cells [] = refl
bits_written-cells (c ∷ cs) =
    bits_written-append ncell_widths (repeated_widths (length cs) ncell_widths) (ncell_numbers c) (flat_map ncell_numbers cs) refl ∙ ap (λ bs. bits_written ncell_widths (ncell_numbers c) ++ bs) (bits_written-cells cs)

-- places that are not in use are written as zeros
bits_written-unused : (k : ℕ) → flat_map (λ n. bits_written ncell_widths (ncell_numbers n)) (replicate k no_ncell) ≡ bits (17 * k) 0
bits_written-unused zero = sym (no_bits 0)
bits_written-unused (suc k) =
    let next : 17 * suc k ≡ 17 + 17 * k = omega arith in
    let none : bits_written ncell_widths (ncell_numbers no_ncell) ≡ bits 17 0 = sym (zeros-add 6 11 ∙ ap (λ bs. bits 6 0 ++ bs) (zeros-add 5 6 ∙ ap (λ bs. bits 5 0 ++ bs) (sym (append-nil (bits 6 0))))) in
    rw (next, none, bits_written-unused k) (sym (zeros-add 17 (17 * k)))

-- what is put for the head and the neighbours, padded to 128 bits
pub bits_written-results : (v : Results) (n : ℕ) → length v.neighbours ≤ 6 → n ≡ 26 + 17 * length v.neighbours → (bits_written head_widths (head_numbers v.head) ++ flat_map (λ n. bits_written ncell_widths (ncell_numbers n)) v.neighbours) ++ bits (128 - n) 0 ≡ bits_written results_widths (results_numbers v (replicate (6 - length v.neighbours) no_ncell))
bits_written-results v n few long =
    let used = v.neighbours in
    let others = replicate (6 - length used) no_ncell in
    let written = flat_map (λ n. bits_written ncell_widths (ncell_numbers n)) in
    let six : length (used ++ others) ≡ 6 = length-append used others ∙ ap (λ k. length used + k) (length-replicate (6 - length used) no_ncell) ∙ omega arith in
    let left : 128 - n ≡ 17 * (6 - length used) = omega arith in
    let zeros : bits (128 - n) 0 ≡ written others = ap (λ k. bits k 0) left ∙ sym (bits_written-unused (6 - length used)) in
    let all : written used ++ written others ≡ bits_written (repeated_widths 6 ncell_widths) (flat_map ncell_numbers (used ++ others)) =
    sym (flat_map-append (λ n. bits_written ncell_widths (ncell_numbers n)) used others) ∙ sym (bits_written-cells (used ++ others)) ∙ ap (λ k. bits_written (repeated_widths k ncell_widths) (flat_map ncell_numbers (used ++ others))) six in
    append_assoc (bits_written head_widths (head_numbers v.head)) (written used) (bits (128 - n) 0) ∙ ap (λ bs. bits_written head_widths (head_numbers v.head) ++ bs) (ap (λ bs. written used ++ bs) zeros ∙ all) ∙ sym (bits_written-append head_widths (repeated_widths 6 ncell_widths) (head_numbers v.head) (flat_map ncell_numbers (used ++ others)) refl)
