-- The map that a function makes over some keys: what it answers, what becomes of it where the function says something else at
-- one key, and how many entries it has.
use Rattle.std.proofs.Common.{◌≡◌, ◌≢◌, inl, inr, ◌||◌, ◌<◌, ◌≤◌, ℕ, zero, suc, true, false, cond, List, [], ◌∷◌, length, map as map_list, Option, Some, None, refl, sym, ap, ◌∙◌, arith}
use Rattle.std.proofs.lemmas.Bool.{or_parts, or_left, or_right, cases_eq}
use Rattle.std.specs.List.{list_any}
use Rattle.std.specs.declared.cmp.Ordering.{Ordering}
use Rattle.std.specs.Ordering.{eq_by_cmp, nat_cmp}
use Rattle.std.specs.Cmp.{IsTotalOrder, nat_cmp_total}
use Rattle.std.specs.FinMap as map
use Rattle.std.specs.FinMap.{IsAntisymmetric, same_map, get-empty, len-empty}
use Rattle.dense_tables.specs.Maps.{put, listed, Covers}
use Rattle.dense_tables.specs.Calls.{below}
use Rattle.dense_tables.proofs.MapFacts.{tied_keys, ties_itself, get_put, len_put, one_if_some}

apart : {K : Type 0} {R : K → K → Ordering} → IsTotalOrder R → (q k : K) → eq_by_cmp R q k ≡ false → q ≢ k
apart {R = R} o q k e same = let tied : eq_by_cmp R q k ≡ true = ap (eq_by_cmp R q) (sym same) ∙ ties_itself o q in cc

one_at_most : {X : Type 0} (o : Option X) → one_if_some o ≤ 1
one_at_most None = omega arith
one_at_most (Some v) = omega arith

module _ {K X : Type 0} {R : K → K → Ordering} (o : IsTotalOrder R) (exact : IsAntisymmetric R) where
  answers : (ks : List K) (f : K → Option X) (q : K) → map.get (listed R ks f) q ≡ cond (list_any (eq_by_cmp R q) ks) (f q) None
  unfolding listed
  answers [] f q = get-empty R q
  answers (k ∷ ks) f q =
      get_put o (listed R ks f) k (f k) q ∙ ap (cond (eq_by_cmp R q k) (f k)) (answers ks f q)
      ∙ elim (eq_by_cmp R q k) as (λ b. eq_by_cmp R q k ≡ b → cond b (f k) (cond (list_any (eq_by_cmp R q) ks) (f q) None) ≡ cond (b || list_any (eq_by_cmp R q) ks) (f q) None) [
        | true ↦ λ e. ap f (sym (tied_keys R exact q k e))
        | false ↦ λ e. refl
      ] refl

  -- it answers what the function says
  pub get_listed : (ks : List K) (f : K → Option X) → Covers R ks f → (q : K) → map.get (listed R ks f) q ≡ f q
  get_listed ks f covers q =
      answers ks f q
      ∙ elim (list_any (eq_by_cmp R q) ks) as (λ b. list_any (eq_by_cmp R q) ks ≡ b → cond b (f q) None ≡ f q) [
        | true ↦ λ e. refl
        | false ↦ λ e. sym (covers q e)
      ] refl

  -- where the function changes at one key, so does the map
  pub listed_put : (ks js : List K) (f g : K → Option X) → Covers R ks f → Covers R js g → (k : K) → ((q : K) → q ≢ k → g q ≡ f q) → listed R js g ≡ put (listed R ks f) k (g k)
  listed_put ks js f g covers covered k same = same_map o exact _ _ (λ q.
      get_listed js g covered q
      ∙ elim (eq_by_cmp R q k) as (λ b. eq_by_cmp R q k ≡ b → g q ≡ cond b (g k) (f q)) [
        | true ↦ λ e. ap g (tied_keys R exact q k e)
        | false ↦ λ e. same q (apart o q k e)
      ] refl
      ∙ sym (get_put o (listed R ks f) k (g k) q ∙ ap (cond (eq_by_cmp R q k) (g k)) (get_listed ks f covers q)))

  -- a function that says nothing makes the empty map
  pub listed_empty : (ks : List K) (f : K → Option X) → ((q : K) → f q ≡ None) → listed R ks f ≡ map.empty
  listed_empty ks f none = same_map o exact _ _ (λ q. get_listed ks f (λ q e. none q) q ∙ none q ∙ sym (get-empty R q))

-- it has no more entries than there are keys
pub len_listed : {K X : Type 0} {R : K → K → Ordering} → IsTotalOrder R → (ks : List K) (f : K → Option X) → map.len (listed R ks f) ≤ length ks
unfolding listed
len_listed {X = X} {R = R} o [] f = let none = len-empty R X in omega arith
len_listed {R = R} o (k ∷ ks) f =
    let more = len_put o (listed R ks f) k (f k) in
    let most = one_at_most (f k) in
    let rest = len_listed o ks f in
    omega arith

-- numbers below n are all there
pub past_below : (n q : ℕ) → list_any (eq_by_cmp nat_cmp q) (below n) ≡ false → n ≤ q
unfolding below
past_below zero q e = omega arith
past_below (suc n) q e =
    let (here, further) = or_parts (eq_by_cmp nat_cmp q n) (list_any (eq_by_cmp nat_cmp q) (below n)) e in
    let rest = past_below n q further in
    let other = apart nat_cmp_total q n here in
    grind arith

pub length_below : (n : ℕ) → length (below n) ≡ n
unfolding below
length_below zero = refl
length_below (suc n) = ap suc (length_below n)

-- what is made of a number below n is among what is made of them all
pub among_made : {K : Type 0} {R : K → K → Ordering} → IsTotalOrder R → (make : ℕ → K) (n k : ℕ) → k < n → list_any (eq_by_cmp R (make k)) (map_list make (below n)) ≡ true
unfolding below
among_made o make zero k less = absurd (omega arith)
among_made {R = R} o make (suc n) k less =
    elim (cases_eq k n) [
      | inl same ↦ or_left _ _ (ap (λ j. eq_by_cmp R (make k) (make j)) (sym same) ∙ ties_itself o (make k))
      | inr other ↦ or_right _ _ (among_made o make n k (omega arith))
    ]
