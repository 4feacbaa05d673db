-- Of nine timeslots two are the same.
use Rattle.std.proofs.Common.{◌≡◌, ◌==◌, ℕ, ◌<◌, ◌≤◌, true, false, List, [], ◌∷◌, length, All, refl, sym, ◌∙◌, inl, inr, arith}
use Rattle.std.proofs.lemmas.Bool.{false≢true, cases_Bool}
use Rattle.std.proofs.lemmas.Bool.Decides.{nat_tests}
use Rattle.std.proofs.lemmas.List.Elements.{All-head, All-tail}
use Rattle.std.proofs.lemmas.Map.Steps.{length-le_from_distinct_below}
use Rattle.std.specs.List.{list_any, IsDistinct, AllByRecursion}
use Rattle.cell_table.specs.Rules.{has_twice}
use Rattle.cell_table.specs.Searches.{has_pair}
use Rattle.cell_table.specs.Laws.{NineNameOneTwice}
use Rattle.cell_table.proofs.Twice.{number_twice}

none_same : (m : ℕ) (xs : List ℕ) → list_any (λ n. n == m) xs ≡ false → AllByRecursion (λ y. (m == y) ≡ false) xs
none_same m [] none = tt
none_same m (x ∷ xs) none =
    elim (cases_Bool (x == m)) [
      | inl same ↦ absurd (false≢true (sym none ∙ rw same refl))
      | inr other ↦ (grind (arith, nat_tests), none_same m xs (rw other at none))
    ]

distinct : (xs : List ℕ) → has_pair (λ m n. n == m) xs ≡ false → IsDistinct ◌==◌ xs
unfolding IsDistinct
distinct [] once = tt
distinct (x ∷ xs) once =
    elim (cases_Bool (list_any (λ n. n == x) xs)) [
      | inl same ↦ absurd (false≢true (sym once ∙ rw same refl))
      | inr other ↦ (none_same x xs other, distinct xs (rw other at once))
    ]

member_below : (xs : List ℕ) → All (λ n. n < 8) xs → (q : ℕ) → list_any (◌==◌ q) xs ≡ true → q < 8
member_below [] all q member = absurd (false≢true member)
member_below (x ∷ xs) all q member =
    let here : x < 8 = All-head (λ n. n < 8) x xs all in
    elim (cases_Bool (q == x)) [
      | inl same ↦ grind (arith, nat_tests)
      | inr other ↦ member_below xs (All-tail (λ n. n < 8) x xs all) q (rw other at member)
    ]

-- timeslots of which none stands twice are eight at most
pub few_once : (slots : List ℕ) → All (λ n. n < 8) slots → has_pair (λ m n. n == m) slots ≡ false → length slots ≤ 8
few_once slots all once = length-le_from_distinct_below slots 8 (distinct slots once) (member_below slots all)

pub nine_name_one_twice : NineNameOneTwice
nine_name_one_twice slots all many =
    elim (cases_Bool (has_twice (λ m n. n == m) slots)) [
      | inl twice ↦ twice
      | inr once ↦ let few = few_once slots all (sym (number_twice slots) ∙ once) in absurd (omega (arith, many, few))
    ]
