-- One octet more: whether it ends the octets without zeros at their end.
use Rattle.std.proofs.Common.{◌≡◌, ◌≢◌, ◌+◌, ◌<◌, ℕ, zero, suc, List, [], ◌∷◌, ◌++◌, take, length, get_or, refl, sym, ◌∙◌, ap}
use Rattle.std.proofs.lemmas.List.{take_more}
use Rattle.journal_resume.specs.Ends.{in_front, without_zeros}

zero_more : (xs : List ℕ) → without_zeros (xs ++ 0 ∷ []) ≡ without_zeros xs
zero_more [] = refl
zero_more (x ∷ xs) = ap (in_front x) (zero_more xs)

in_front_some : (x y : ℕ) (xs ys : List ℕ) → in_front x (xs ++ y ∷ ys) ≡ x ∷ (xs ++ y ∷ ys)
in_front_some zero y [] ys = refl
in_front_some zero y (x ∷ xs) ys = refl
in_front_some (suc n) y xs ys = refl

other_more : (xs : List ℕ) (y : ℕ) → y ≢ 0 → without_zeros (xs ++ y ∷ []) ≡ xs ++ y ∷ []
other_more [] zero some = absurd (some refl)
other_more [] (suc n) some = refl
other_more (x ∷ xs) y some = ap (in_front x) (other_more xs y some) ∙ in_front_some x y xs []

pub zero_at : (xs : List ℕ) (i n : ℕ) → i < length xs → get_or xs i 0 ≡ 0 → take n xs ≡ without_zeros (take i xs) → take n xs ≡ without_zeros (take (i + 1) xs)
zero_at xs i n within is so_far =
    so_far ∙ sym (zero_more (take i xs)) ∙ ap (λ y. without_zeros (take i xs ++ y ∷ [])) (sym is) ∙ ap without_zeros (sym (take_more xs i 0 within))

pub other_at : (xs : List ℕ) (i : ℕ) → i < length xs → get_or xs i 0 ≢ 0 → take (i + 1) xs ≡ without_zeros (take (i + 1) xs)
other_at xs i within some =
    take_more xs i 0 within ∙ sym (other_more (take i xs) (get_or xs i 0) some) ∙ ap without_zeros (sym (take_more xs i 0 within))
