-- What becomes of a finite map where one of its keys gets a value, or loses it; and the map that a function makes over some
-- keys. Ours, of no standard.
use Rattle.std.specs.Prelude.{◌≡◌, false, List, [], ◌∷◌, Option, Some, None}
use Rattle.std.specs.List.{list_any}
use Rattle.std.specs.declared.cmp.Ordering.{Ordering}
use Rattle.std.specs.Ordering.{eq_by_cmp}
use Rattle.std.specs.FinMap as map

-- the map with this at the key
abbrev pub put : {K X : Type 0} {R : K → K → Ordering} → map.FinMap R X → K → Option X → map.FinMap R X
put m k None = map.remove m k
put m k (Some v) = map.insert m k v

-- the map that has at each of the keys what the function says
unfoldable pub listed : {K X : Type 0} (R : K → K → Ordering) → List K → (K → Option X) → map.FinMap R X
listed R [] f = map.empty
listed R (k ∷ ks) f = put (listed R ks f) k (f k)

-- beside the keys the function says nothing
abbrev pub Covers : {K X : Type 0} → (K → K → Ordering) → List K → (K → Option X) → Type 0
Covers {K = K} R ks f = (q : K) → list_any (eq_by_cmp R q) ks ≡ false → f q ≡ None
