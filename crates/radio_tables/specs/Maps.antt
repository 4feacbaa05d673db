-- What becomes of a finite map where one of its keys gets a value, or loses it. Ours, of no standard.
use Rattle.std.specs.Prelude.{◌≡◌, Option, Some, None}
use Rattle.std.specs.declared.cmp.Ordering.{Ordering}
use Rattle.std.specs.FinMap as map
pub use Rattle.dense_tables.specs.Maps.{put}

-- a key, and what stands there from now on: a value, or nothing
abbrev pub Entry : Type 0 → Type 0 → Type 0
Entry K X = K × Option X

-- the map after a change of at most one entry
abbrev pub with_change : {K X : Type 0} {R : K → K → Ordering} → map.FinMap R X → Option (Entry K X) → map.FinMap R X
with_change m None = m
with_change m (Some e) = put m e.0 e.1

-- the change puts a key that the map doesn't have
abbrev pub AddsKey : {K X : Type 0} {R : K → K → Ordering} → map.FinMap R X → Option (Entry K X) → Type 0
AddsKey m None = ⊥
AddsKey m (Some (k, None)) = ⊥
AddsKey m (Some (k, Some v)) = map.get m k ≡ None
