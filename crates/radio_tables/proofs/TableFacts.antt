-- What a tree map's entries say of the finite map that they make.
use Rattle.std.proofs.Common.{◌≡◌, ◌+◌, List, [], ◌∷◌, length, Some, None, cond, is_some, Result, Ok, Err, OnErr, is_err, true, refl, ap, ◌∙◌, arith}
use Rattle.std.specs.declared.cmp.Ordering.{Ordering}
use Rattle.std.specs.declared.cmp.Ordering.TheVariants.{Less}
use Rattle.std.specs.Ordering.{is_eq}
use Rattle.std.specs.Cmp.{IsTotalOrder}
use Rattle.std.specs.List.{AllByRecursion}
use Rattle.std.specs.List.Sorted.{IsStrictlySortedBy}
use Rattle.std.specs.Map.{lookup, keys_of}
use Rattle.std.specs.BTreeMap.{BTreeMap, is_at, IsOrdered, btree_map_len}
use Rattle.std.specs.FinMap as map
use Rattle.std.specs.FinMap.{len-empty, len-insert}
use Rattle.radio_tables.proofs.MapFacts.{get_listed}

module _ {K X : Type 0} {R : K → K → Ordering} (o : IsTotalOrder R) where
  pub absent_below : (q : K) (es : List (K × X)) → AllByRecursion (λ y. R q y ≡ Less) (keys_of es) → lookup (is_at (R q)) es ≡ None
  absent_below q [] h = refl
  absent_below q (e ∷ es) h = ap (λ r. cond (is_eq r) (Some e.1) (lookup (is_at (R q)) es)) h.0 ∙ absent_below q es h.1

  len_entries : (es : List (K × X)) → IsStrictlySortedBy R (keys_of es) → map.len (map.from_entries {R = R} es) ≡ length es
  unfolding IsStrictlySortedBy
  len_entries [] h = len-empty R X
  len_entries (e ∷ es) h =
      let m = map.from_entries {R = R} es in
      let absent = get_listed o es e.0 ∙ absent_below e.0 es h.0 in
      let rest = len_entries es h.1 in
      let added = len-insert o m e.0 e.1 ∙ ap (λ v. cond (is_some v) (map.len m) (map.len m + 1)) absent in
      omega (arith, added, rest)

  -- as many as the tree map has
  pub len_listed : (t : BTreeMap K X) → IsOrdered R t → map.len (map.from_entries {R = R} t.entries) ≡ btree_map_len t
  len_listed t h = len_entries t.entries h

-- a fact of an error, from one that holds anyway, and where there is an error
pub err_holds : {X E P : Type 0} (answer : Result X E) → P → OnErr answer P
err_holds (Ok value) fact = tt
err_holds (Err error) fact = fact

pub at_err : {X E P : Type 0} (answer : Result X E) → is_err answer ≡ true → OnErr answer P → P
at_err (Ok value) is fact = cc
at_err (Err error) is fact = fact
