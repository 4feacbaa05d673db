-- A tree map whose keys and values are clones has the same entries.
use Rattle.std.proofs.Common.{◌≡◌, List, [], ◌∷◌, refl}
use Rattle.std.specs.List.{AllZip}

pub cloned : {K X : Type 0} (C : K → K → Type 0) (D : X → X → Type 0) → ((k j : K) → C k j → j ≡ k) → ((x y : X) → D x y → y ≡ x) →
    (es fs : List (K × X)) → AllZip (λ p q. C p.0 q.0 × D p.1 q.1) es fs → fs ≡ es
cloned C D key value [] [] h = refl
cloned C D key value [] (f ∷ fs) h = absurd h
cloned C D key value (e ∷ es) [] h = absurd h
cloned C D key value (e ∷ es) (f ∷ fs) h =
    let rest = cloned C D key value es fs h.1 in
    λ i. (key e.0 f.0 h.0.0 i, value e.1 f.1 h.0.1 i) ∷ rest i
