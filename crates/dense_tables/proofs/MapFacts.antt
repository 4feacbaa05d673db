-- Finite maps: what a change of one entry leaves at each key, and how many entries there are after it.
use Rattle.std.proofs.Common.{◌≡◌, ◌≢◌, ◌⊎◌, inl, inr, ◌+◌, ◌-◌, ◌≤◌, ℕ, Bool, true, false, cond, List, [], ◌∷◌, Option, Some, None, is_some, refl, sym, ap, ◌∙◌, subst, arith}
use Rattle.std.specs.declared.cmp.Ordering.{Ordering}
use Rattle.std.specs.declared.cmp.Ordering.TheVariants.{Less, Equal, Greater}
use Rattle.std.specs.Ordering.{eq_by_cmp, is_eq}
use Rattle.std.specs.Cmp.{IsTotalOrder, tied_itself}
use Rattle.std.specs.FinMap as map
use Rattle.std.specs.FinMap.{FinMap, IsAntisymmetric, same_map, get-empty, get-insert, get-remove, get-entries, get-from_entries, len-empty, len-insert, len-remove, empty_of_len}
use Rattle.std.proofs.lemmas.Bool.{cases_eq, false≢true}
use Rattle.dense_tables.specs.Maps.{put}

-- keys that tie are one
pub tied_keys : {K : Type 0} (R : K → K → Ordering) → IsAntisymmetric R → (q k : K) → eq_by_cmp R q k ≡ true → q ≡ k
tied_keys R exact q k e =
    exact q k (elim (R q k) as (λ r. is_eq r ≡ true → r ≡ Equal) [ Less ↦ λ h. cc | Equal ↦ λ h. refl | Greater ↦ λ h. cc ] e)

-- a key ties with itself
pub ties_itself : {K : Type 0} {R : K → K → Ordering} → IsTotalOrder R → (q : K) → eq_by_cmp R q q ≡ true
ties_itself o q = ap is_eq (tied_itself o q)

-- two keys are one, or they are different
pub key_cases : {K : Type 0} {R : K → K → Ordering} → IsTotalOrder R → IsAntisymmetric R → (q k : K) → (q ≡ k) ⊎ (q ≢ k)
key_cases {R = R} o exact q k =
    elim (eq_by_cmp R q k) as (λ b. eq_by_cmp R q k ≡ b → (q ≡ k) ⊎ (q ≢ k)) [
      | true ↦ λ e. inl (tied_keys R exact q k e)
      | false ↦ λ e. inr (λ same. let tied : eq_by_cmp R q k ≡ true = ap (eq_by_cmp R q) (sym same) ∙ ties_itself o q in cc)
    ] refl

module _ {K X : Type 0} {R : K → K → Ordering} (o : IsTotalOrder R) where
  pub get_put : (m : FinMap R X) (k : K) (w : Option X) (q : K) → map.get (put m k w) q ≡ cond (eq_by_cmp R q k) w (map.get m q)
  get_put m k None q = get-remove o m k q
  get_put m k (Some v) q = get-insert o m k v q

  -- to put what stands there changes nothing
  pub put_again : IsAntisymmetric R → (m : FinMap R X) (k : K) (w : Option X) → map.get m k ≡ w → put m k w ≡ m
  put_again exact m k w there = same_map o exact _ _ (λ q.
      get_put m k w q
      ∙ elim (eq_by_cmp R q k) as (λ b. eq_by_cmp R q k ≡ b → cond b w (map.get m q) ≡ map.get m q) [
        | true ↦ λ e. sym there ∙ ap (map.get m) (sym (tied_keys R exact q k e))
        | false ↦ λ e. refl
      ] refl)

-- a map that has a key isn't empty
pub len_some : {K X : Type 0} {R : K → K → Ordering} (m : FinMap R X) (k : K) → is_some (map.get m k) ≡ true → 1 ≤ map.len m
len_some {R = R} m k there =
    elim (cases_eq (map.len m) 0) [
      | inl nothing ↦ let none : map.get m k ≡ None = ap (λ n. map.get n k) (empty_of_len m nothing) ∙ get-empty R k in cc
      | inr more ↦ omega arith
    ]

-- how many values that is
abbrev pub one_if_some : {X : Type 0} → Option X → ℕ
one_if_some o = cond (is_some o) 1 0

counted : (b : Bool) (n m : ℕ) → (b ≡ true → 1 ≤ n) → m ≡ cond b (n - 1) n → m + cond b 1 0 ≡ n
counted true n m some e = let least = some refl in omega arith
counted false n m some e = omega arith

counted_more : (b : Bool) (n m : ℕ) → m ≡ cond b n (n + 1) → m + cond b 1 0 ≡ n + 1
counted_more true n m e = omega arith
counted_more false n m e = omega arith

-- there are as many entries as before, less what stood at the key, and more what stands there now
pub len_put : {K X : Type 0} {R : K → K → Ordering} (o : IsTotalOrder R) (m : FinMap R X) (k : K) (w : Option X) → map.len (put m k w) + one_if_some (map.get m k) ≡ map.len m + one_if_some w
len_put o m k None = let less = counted (is_some (map.get m k)) (map.len m) (map.len (map.remove m k)) (len_some m k) (len-remove o m k) in omega arith
len_put o m k (Some v) = counted_more (is_some (map.get m k)) (map.len m) (map.len (map.insert m k v)) (len-insert o m k v)

module _ {K X : Type 0} {R : K → K → Ordering} (o : IsTotalOrder R) (exact : IsAntisymmetric R) where
  -- what is there stays there where something is put
  stays : (m : FinMap R X) (k : K) (v : X) (q : K) → is_some (map.get m q) ≡ true → is_some (map.get (map.insert m k v) q) ≡ true
  stays m k v q some =
      ap is_some (get-insert o m k v q)
      ∙ elim (eq_by_cmp R q k) as (λ b. is_some (cond b (Some v) (map.get m q)) ≡ true) [ true ↦ refl | false ↦ some ]

  put_there : (m : FinMap R X) (k : K) (v : X) → is_some (map.get (map.insert m k v) k) ≡ true
  put_there m k v = ap is_some (get-insert o m k v k) ∙ ap (λ b. is_some (cond b (Some v) (map.get m k))) (ties_itself o k)

  -- what is there stays there where another key is taken out
  left : (m n : FinMap R X) (k q : K) → is_some (map.get m k) ≡ false → is_some (map.get m q) ≡ true → is_some (map.get n q) ≡ true → is_some (map.get (map.remove n k) q) ≡ true
  left m n k q gone some there =
      ap is_some (get-remove o n k q)
      ∙ elim (eq_by_cmp R q k) as (λ b. eq_by_cmp R q k ≡ b → is_some (cond b None (map.get n q)) ≡ true) [
        | true ↦ λ e. absurd (false≢true (sym gone ∙ sym (ap (λ j. is_some (map.get m j)) (tied_keys R exact q k e)) ∙ some))
        | false ↦ λ e. there
      ] refl

  -- a map whose keys another has too has no more of them
  few_keys : (es : List (K × X)) (n : FinMap R X) → ((q : K) → is_some (map.get (map.from_entries {R = R} es) q) ≡ true → is_some (map.get n q) ≡ true) → map.len (map.from_entries {R = R} es) ≤ map.len n
  few_keys [] n among = let none = len-empty R X in omega (arith, none)
  few_keys (e ∷ es) n among =
      let m = map.from_entries {R = R} es in
      let rest : (q : K) → is_some (map.get m q) ≡ true → is_some (map.get n q) ≡ true = λ q some. among q (stays m e.0 e.1 q some) in
      let added = len-insert o m e.0 e.1 in
      elim (is_some (map.get m e.0)) as (λ b. is_some (map.get m e.0) ≡ b → map.len (map.insert m e.0 e.1) ≤ map.len n) [
        | true ↦ λ has.
            let same = added ∙ ap (λ b. cond b (map.len m) (map.len m + 1)) has in
            let less = few_keys es n rest in
            omega (arith, same, less)
        | false ↦ λ has.
            let more = added ∙ ap (λ b. cond b (map.len m) (map.len m + 1)) has in
            let own = among e.0 (put_there m e.0 e.1) in
            let gone = len-remove o n e.0 ∙ ap (λ b. cond b (map.len n - 1) (map.len n)) own in
            let least = len_some n e.0 own in
            let less = few_keys es (map.remove n e.0) (λ q some. left m n e.0 q has some (rest q some)) in
            omega (arith, more, gone, least, less)
      ] refl

  again : (m : FinMap R X) → map.from_entries (map.entries m) ≡ m
  again m = same_map o exact _ _ (λ q. get-from_entries o (map.entries m) q ∙ sym (get-entries m q))

  -- what one map lacks the other lacks, where they have as many keys and the other has what the one has
  lacks : (m n : FinMap R X) → map.len m ≡ map.len n → ((q : K) → is_some (map.get m q) ≡ true → map.get m q ≡ map.get n q) → (k : K) → map.get m k ≡ None → map.get n k ≡ None
  lacks m n long part k none =
      elim (map.get n k) as (λ w. map.get n k ≡ w → w ≡ None) [
        | None ↦ λ is. refl
        | Some v ↦ λ is.
            let own : is_some (map.get n k) ≡ true = ap is_some is in
            let gone = len-remove o n k ∙ ap (λ b. cond b (map.len n - 1) (map.len n)) own in
            let least = len_some n k own in
            let listed = few_keys (map.entries m) (map.remove n k) (λ q some.
            let there : is_some (map.get m q) ≡ true = sym (ap (λ l. is_some (map.get l q)) (again m)) ∙ some in
            left m n k q (ap is_some none) there (sym (ap is_some (part q there)) ∙ there)) in
            let less : map.len m ≤ map.len (map.remove n k) = subst (λ l. map.len l ≤ map.len (map.remove n k)) (again m) listed in
            absurd (omega (arith, gone, least, less, long))
      ] refl

  -- maps with as many keys are one, where the other has what the one has
  pub same_by_part : (m n : FinMap R X) → map.len m ≡ map.len n → ((q : K) → is_some (map.get m q) ≡ true → map.get m q ≡ map.get n q) → m ≡ n
  same_by_part m n long part = same_map o exact m n (λ q.
      elim (map.get m q) as (λ w. map.get m q ≡ w → map.get m q ≡ map.get n q) [
        | None ↦ λ is. is ∙ sym (lacks m n long part q is)
        | Some v ↦ λ is. part q (ap is_some is)
      ] refl)
