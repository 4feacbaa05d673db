-- A line without the carriage return that may end it.
use Rattle.std.proofs.Common.{◌≡◌, ◌≢◌, ℕ, ◌-◌, ◌∷◌, ◌++◌, List, [], Option, Some, None, refl, sym, ap, ◌∙◌, arith, length, take, get_or, length-append, unwrap_or, Bor, MatchOption}
use Rattle.std.specs.Str.Lines.{strip_carriage_return}
use Rattle.std.proofs.Math.Seq.{take-suc, take-length, take-append_seam, get_or-append_seam}

strip_carriage_return-append : (front : List ℕ) → strip_carriage_return (front ++ (13 ∷ [])) ≡ front
strip_carriage_return-append front =
    let len : length (front ++ (13 ∷ [])) - 1 ≡ length front = omega (arith, length-append front (13 ∷ [])) in
    rw (len, get_or-append_seam front 13 [] 0, take-append_seam front (13 ∷ [])) refl

strip_carriage_return-none : (bs : List ℕ) → ((front : List ℕ) → bs ≢ front ++ (13 ∷ [])) → strip_carriage_return bs ≡ bs
strip_carriage_return-none [] h = refl
strip_carriage_return-none (b ∷ bs) h =
    let len : length (b ∷ bs) - 1 ≡ length bs = omega arith in
    let whole = take-suc (b ∷ bs) (length bs) 0 (omega arith) in
    let last : get_or (b ∷ bs) (length bs) 0 ≢ 13 = λ e. h (take (length bs) (b ∷ bs)) (sym (take-length (b ∷ bs)) ∙ (whole ∙ ap (λ (x : ℕ). take (length bs) (b ∷ bs) ++ (x ∷ [])) e)) in
    rw len (grind (arith, last))

-- what `strip_suffix` and `unwrap_or` give
pub stripped : (line : Bor (List ℕ)) (r : Option (Bor (List ℕ)))
    → MatchOption r ((front : List ℕ) → line.now ≢ front ++ (13 ∷ [])) (λ x. line.now ≡ x.now ++ (13 ∷ []))
    → (unwrap_or r line).now ≡ strip_carriage_return line.now
stripped line None h = sym (strip_carriage_return-none line.now h)
stripped line (Some x) h = rw h (sym (strip_carriage_return-append x.now))
