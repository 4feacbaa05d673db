-- Bit strings that are cut, and numbers that are written.
use Rattle.std.proofs.Common.{◌≡◌, ◌∙◌, sym, ℕ, zero, suc, ◌+◌, List, [], ◌∷◌, ◌++◌, append_assoc, append-nil, length, take, drop, refl, ap, arith}
use Rattle.octet_elements.specs.Bits.{bits, number_of, cut, after, repeated_widths, bits_written}

pub cut-append : (ws vs bs : List ℕ) → cut (ws ++ vs) bs ≡ cut ws bs ++ cut vs (after ws bs)
cut-append [] vs bs = refl
cut-append (w ∷ ws) vs bs = ap (λ ns. number_of (take w bs) ∷ ns) (cut-append ws vs (drop w bs))

pub after-append : (ws vs bs : List ℕ) → after (ws ++ vs) bs ≡ after vs (after ws bs)
after-append [] vs bs = refl
after-append (w ∷ ws) vs bs = after-append ws vs (drop w bs)

-- once more at the end
repeated_widths_more : (k : ℕ) (ws : List ℕ) → repeated_widths (suc k) ws ≡ repeated_widths k ws ++ ws
repeated_widths_more zero ws = append-nil ws
repeated_widths_more (suc k) ws = ap (λ vs. ws ++ vs) (repeated_widths_more k ws) ∙ sym (append_assoc ws (repeated_widths k ws) ws)

pub cut-more : (k j : ℕ) (ws bs : List ℕ) → j ≡ k + 1 → cut (repeated_widths j ws) bs ≡ cut (repeated_widths k ws) bs ++ cut ws (after (repeated_widths k ws) bs)
cut-more k j ws bs e =
    let next : j ≡ suc k = omega arith in
    rw (next, repeated_widths_more k ws) (cut-append (repeated_widths k ws) ws bs)

pub after-more : (k j : ℕ) (ws bs : List ℕ) → j ≡ k + 1 → after (repeated_widths j ws) bs ≡ after ws (after (repeated_widths k ws) bs)
after-more k j ws bs e =
    let next : j ≡ suc k = omega arith in
    rw (next, repeated_widths_more k ws) (after-append (repeated_widths k ws) ws bs)

pub repeated_widths-add : (j k : ℕ) (ws : List ℕ) → repeated_widths (j + k) ws ≡ repeated_widths j ws ++ repeated_widths k ws
repeated_widths-add zero k ws = ap (λ i. repeated_widths i ws) (omega arith)
repeated_widths-add (suc j) k ws =
    let next : suc j + k ≡ suc (j + k) = omega arith in
    ap (λ i. repeated_widths i ws) next ∙ ap (λ vs. ws ++ vs) (repeated_widths-add j k ws) ∙ sym (append_assoc ws (repeated_widths j ws) (repeated_widths k ws))

pub bits_written-append : (ws vs ns ms : List ℕ) → length ws ≡ length ns → bits_written (ws ++ vs) (ns ++ ms) ≡ bits_written ws ns ++ bits_written vs ms
bits_written-append [] vs [] ms e = refl
bits_written-append [] vs (n ∷ ns) ms e = absurd (omega arith)
bits_written-append (w ∷ ws) vs [] ms e = absurd (omega arith)
bits_written-append (w ∷ ws) vs (n ∷ ns) ms e =
    ap (λ bs. bits w n ++ bs) (bits_written-append ws vs ns ms (omega arith)) ∙ sym (append_assoc (bits w n) (bits_written ws ns) (bits_written vs ms))
