-- What a tree's entries, seen as a finite map, have at a key, and what one more entry, or fewer of them, make of the map.
use Rattle.std.proofs.Common.{◌≡◌, Bool, cond, List, [], ◌∷◌, filter, Some, None, refl, sym, ap, ◌∙◌}
use Rattle.std.specs.declared.cmp.Ordering.{Ordering}
use Rattle.std.specs.declared.cmp.Ordering.TheVariants.{Equal}
use Rattle.std.specs.Cmp.{IsTotalOrder, eq_by_cmp_equiv}
use Rattle.std.specs.FinMap as map
use Rattle.std.specs.FinMap.{IsAntisymmetric, same_map, find, get-insert, get-from_entries, get-retain_keys}
use Rattle.std.specs.FinMap.Entries.{find-where_key}
use Rattle.std.specs.Map.{lookup}
use Rattle.std.specs.BTreeMap.{is_at}

find_is_lookup : {K X : Type 0} (R : K → K → Ordering) (es : List (K × X)) (q : K) → find R q es ≡ lookup (is_at (R q)) es
find_is_lookup R [] q = refl
find_is_lookup R (e ∷ es) q = ap (cond (is_at (R q) e.0) (Some e.1)) (find_is_lookup R es q)

module _ {K X : Type 0} {R : K → K → Ordering} (o : IsTotalOrder R) where
  pub get_listed : (es : List (K × X)) (q : K) → map.get (map.from_entries {R = R} es) q ≡ lookup (is_at (R q)) es
  get_listed es q = get-from_entries o es q ∙ find_is_lookup R es q

module _ {K X : Type 0} {R : K → K → Ordering} (o : IsTotalOrder R) (exact : IsAntisymmetric R) where
  pub insert_listed : (es fs : List (K × X)) (k : K) (v : X) → ((q : K) → lookup (is_at (R q)) fs ≡ cond (is_at (R k) q) (Some v) (lookup (is_at (R q)) es)) → map.from_entries {R = R} fs ≡ map.insert (map.from_entries es) k v
  insert_listed es fs k v answers = same_map o exact _ _ (λ q.
      get_listed o fs q ∙ answers q ∙ ap (λ b. cond b (Some v) (lookup (is_at (R q)) es)) ((eq_by_cmp_equiv o).symm k q)
      ∙ sym (get-insert o (map.from_entries es) k v q ∙ ap (cond (is_at (R q) k) (Some v)) (get_listed o es q)))

  -- the entries whose keys pass a test
  pub retain_listed : (es : List (K × X)) (p : K → Bool) → map.from_entries {R = R} (filter (λ e. p e.0) es) ≡ map.retain_keys (map.from_entries es) p
  retain_listed es p = same_map o exact _ _ (λ q.
      let alike : (x : K) → R q x ≡ Equal → p x ≡ p q = λ x t. ap p (sym (exact q x t)) in
      get-from_entries o (filter (λ e. p e.0) es) q ∙ find-where_key R p q alike es ∙ ap (λ r. cond (p q) r None) (sym (get-from_entries o es q))
      ∙ sym (get-retain_keys (map.from_entries es) p q alike))
