-- Whether octets were cut.
use Rattle.std.proofs.Common.{◌≡◌, ◌≢◌, ◌↔◌, ◌==◌, ℕ, Bool, false, not, IsTrue, List, [], ◌∷◌, length, sym, ◌∙◌, ap, arith}
use Rattle.std.proofs.lemmas.Bool.Decides.{nat_tests}

-- what is left isn't empty just where octets were cut
pub cut_is_told : (left found : List ℕ) (is_empty : Bool) → is_empty ≡ (length left == 0) → found ≡ left → IsTrue (not is_empty) ↔ (found ≢ [])
cut_is_told [] found is_empty is same = (λ told none. let no : not is_empty ≡ false = ap not is in cc, λ some. absurd (some same))
cut_is_told (x ∷ xs) found is_empty is same =
    let some : (length (x ∷ xs) == 0) ≡ false = grind (arith, nat_tests) in
    (λ told none. let never : x ∷ xs ≡ [] = sym same ∙ none in cc, λ _. ap not (is ∙ some))
