-- What is left of a journal whose last inverse was taken out.
use Rattle.std.proofs.Common.{◌≡◌, List, [], ◌∷◌, ◌++◌, length, take, option_to_list, Option, Some, None, IfNone, sym, ap, ◌∙◌, arith, length-append}
use Rattle.attempt_journal.specs.declared.Inverse.{Inverse}
use Rattle.std.proofs.Math.Seq.{take-append_seam}

-- all but the last
pub popped : (xs ys : List Inverse) (x : Inverse) (r : Option Inverse) → xs ++ x ∷ [] ≡ ys ++ option_to_list r → IfNone r (ys ≡ []) → ys ≡ xs
popped xs ys x None e empty =
    let none : length ys ≡ 0 = ap length empty in
    absurd (omega (arith, ap length e, none, length-append xs (x ∷ []), length-append ys []))
popped xs ys x (Some z) e empty =
    let same : length xs ≡ length ys = omega (arith, ap length e, length-append xs (x ∷ []), length-append ys (z ∷ [])) in
    sym (sym (take-append_seam xs (x ∷ [])) ∙ ap (take (length xs)) e ∙ ap (λ n. take n (ys ++ z ∷ [])) same ∙ take-append_seam ys (z ∷ []))
