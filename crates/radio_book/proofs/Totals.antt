-- Totals over the values of a finite map, and what becomes of them where one entry changes. How many entries there are is
-- the total of ones.
use Rattle.std.proofs.Common.{◌≡◌, ℕ, ◌+◌, ◌≤◌, cond, List, [], ◌∷◌, length, map as map_list, Option, Some, None, refl, sym, ◌∙◌, ap, arith}
use Rattle.std.specs.List.{sum_by}
use Rattle.std.specs.declared.cmp.Ordering.{Ordering}
use Rattle.std.specs.declared.cmp.Ordering.TheVariants.{Less, Equal, Greater}
use Rattle.std.specs.Ordering.{is_eq}
use Rattle.std.specs.Cmp.{IsTotalOrder}
use Rattle.std.specs.FinMap as map
use Rattle.std.specs.FinMap.{FinMap, IsAntisymmetric, find, get-entries, entries-insert, len-entries}
use Rattle.std.specs.FinMap.Entries as listed
use Rattle.std.proofs.lemmas.List.Sums.{sum_by-cons, sum_by-le-sum_by}
use Rattle.radio_tables.specs.Maps.{Entry, put, with_change}
use Rattle.radio_tables.proofs.MapFacts.{get_put_same, put_put_same, put_again}

abbrev total_in : {K X : Type 0} → (X → ℕ) → List (K × X) → ℕ
total_in f es = sum_by f (map_list (λ e. e.1) es)

-- the total of what this says of each value
abbrev pub total : {K X : Type 0} {R : K → K → Ordering} → (X → ℕ) → FinMap R X → ℕ
total f m = sum_by f (map.values m)

-- what it says of a value that may not be there
abbrev pub counts : {X : Type 0} → (X → ℕ) → Option X → ℕ
counts f None = 0
counts f (Some v) = f v

-- what it says of the one entry that is changed: of what stood there, and of what comes there

abbrev pub counts_before : {K X : Type 0} {R : K → K → Ordering} → (X → ℕ) → FinMap R X → Option (Entry K X) → ℕ
counts_before f m None = 0
counts_before f m (Some e) = counts f (map.get m e.0)

abbrev pub counts_after : {K X : Type 0} → (X → ℕ) → Option (Entry K X) → ℕ
counts_after f None = 0
counts_after f (Some e) = counts f e.1

total_put : {K X : Type 0} (R : K → K → Ordering) (f : X → ℕ) (k : K) (v : X) (es : List (K × X)) → find R k es ≡ None → total_in f (listed.put R k v es) ≡ total_in f es + f v
total_put R f k v [] none = omega arith
total_put R f k v (e ∷ es) none =
    elim (R k e.0) as (λ r. R k e.0 ≡ r → total_in f (listed.by_order r ((k, v) ∷ e ∷ es) ((e.0, v) ∷ es) (e ∷ listed.put R k v es)) ≡ total_in f (e ∷ es) + f v) [
      | Less ↦ λ p. omega (arith, sum_by-cons f v (map_list (λ e. e.1) (e ∷ es)))
      | Equal ↦ λ p. let bad : Some e.1 ≡ None = sym (ap (λ r. cond (is_eq r) (Some e.1) (find R k es)) p) ∙ none in cc
      | Greater ↦ λ p.
          let rest : find R k es ≡ None = sym (ap (λ r. cond (is_eq r) (Some e.1) (find R k es)) p) ∙ none in
          let more : total_in f (listed.put R k v es) ≡ total_in f es + f v = total_put R f k v es rest in
          omega (arith, sum_by-cons f e.1 (map_list (λ e. e.1) (listed.put R k v es)), sum_by-cons f e.1 (map_list (λ e. e.1) es))
    ] refl

length_total : {K X : Type 0} (es : List (K × X)) → length es ≡ total_in (λ v. 1) es
length_total [] = refl
length_total {X = X} (e ∷ es) = omega (arith, length_total es, sum_by-cons (λ (v : X). 1) e.1 (map_list (λ e. e.1) es))

-- how many entries there are
pub len_total : {K X : Type 0} {R : K → K → Ordering} (m : FinMap R X) → map.len m ≡ total (λ v. 1) m
len_total m = len-entries m ∙ length_total (map.entries m)

-- a total of ones, some of which are left out, is no more
pub total-le-len : {K X : Type 0} {R : K → K → Ordering} (f : X → ℕ) (m : FinMap R X) → ((v : X) → f v ≤ 1) → total f m ≤ map.len m
total-le-len {X = X} f m most = omega (arith, len_total m, sum_by-le-sum_by f (λ (v : X). 1) (map.values m) most)

module _ {K X : Type 0} {R : K → K → Ordering} (o : IsTotalOrder R) (f : X → ℕ) where
  total_new : (m : FinMap R X) (k : K) (v : X) → map.get m k ≡ None → total f (map.insert m k v) ≡ total f m + f v
  total_new m k v none = ap (total_in f) (entries-insert o m k v) ∙ total_put R f k v (map.entries m) (sym (get-entries m k) ∙ none)

module _ {K X : Type 0} {R : K → K → Ordering} (o : IsTotalOrder R) (exact : IsAntisymmetric R) (f : X → ℕ) where
  total_at : (m : FinMap R X) (k : K) (w : Option X) → map.get m k ≡ None → total f (put m k w) ≡ total f m + counts f w
  total_at m k None none = ap (total f) (put_again o exact m k None none) ∙ omega arith
  total_at m k (Some v) none = total_new o f m k v none

  total_from : (m : FinMap R X) (k : K) (w : Option X) → total f (put m k w) ≡ total f (map.remove m k) + counts f w
  total_from m k w = ap (total f) (sym (put_put_same o exact m k None w)) ∙ total_at (map.remove m k) k w (get_put_same o m k None)

  -- a total after a change of one entry
  pub total_after : (m : FinMap R X) (e : Option (Entry K X)) → total f (with_change m e) + counts_before f m e ≡ total f m + counts_after f e
  total_after m None = refl
  total_after m (Some e) =
      let was : total f m ≡ total f (map.remove m e.0) + counts f (map.get m e.0) =
      ap (total f) (sym (put_again o exact m e.0 (map.get m e.0) refl)) ∙ total_from m e.0 (map.get m e.0) in
      omega (arith, total_from m e.0 e.1)
