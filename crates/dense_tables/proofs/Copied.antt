-- A list whose elements are clones has the same elements.
use Rattle.std.proofs.Common.{◌≡◌, List, [], ◌∷◌, refl}
use Rattle.std.specs.List.{AllZip}

pub same_items : {X : Type 0} (C : X → X → Type 0) → ((x y : X) → C x y → y ≡ x) → (xs ys : List X) → AllZip C xs ys → ys ≡ xs
same_items C same [] [] h = refl
same_items C same [] (y ∷ ys) h = absurd h
same_items C same (x ∷ xs) [] h = absurd h
same_items C same (x ∷ xs) (y ∷ ys) h = let rest = same_items C same xs ys h.1 in λ i. same x y h.0 i ∷ rest i
