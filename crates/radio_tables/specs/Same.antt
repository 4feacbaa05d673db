-- Whether two values are one: whether their codes are. No two values of a type have the same code, which is a tree of
-- numbers. Ours, of no standard.
use Rattle.std.specs.Prelude.{◌≡◌, ℕ, ◌==◌, Bool, true, false, ◌&&◌}
use mathlib.Core.Path.{refl, sym, ap}
use mathlib.Core.Bool.{true≢false}
use Rattle.std.specs.Bool.{Decides}
use Rattle.std.specs.Cmp.{IsEquivalence, decided, unsigned_Decides}
use Rattle.std.proofs.lemmas.Bool.Decides.{Decides-and, Decides-like}
use Rattle.std.specs.Coded.{Coded}
use base.Stored.{Gv, gnil, gnum, gcons}

abbrev pub same_tree : Gv → Gv → Bool
same_tree gnil gnil = true
same_tree gnil (gnum n) = false
same_tree gnil (gcons c d) = false
same_tree (gnum m) gnil = false
same_tree (gnum m) (gnum n) = m == n
same_tree (gnum m) (gcons c d) = false
same_tree (gcons a b) gnil = false
same_tree (gcons a b) (gnum n) = false
same_tree (gcons a b) (gcons c d) = same_tree a c && same_tree b d

pub is_same : {A : Type 0} → Coded A → A → A → Bool
is_same k x y = same_tree (k.code x) (k.code y)

abbrev is_nil : Gv → Bool
is_nil gnil = true
is_nil (gnum n) = false
is_nil (gcons a b) = false

abbrev is_number : Gv → Bool
is_number gnil = false
is_number (gnum n) = true
is_number (gcons a b) = false

abbrev number_in : Gv → ℕ
number_in gnil = 0
number_in (gnum n) = n
number_in (gcons a b) = 0

abbrev first_in : Gv → Gv
first_in gnil = gnil
first_in (gnum n) = gnil
first_in (gcons a b) = a

abbrev second_in : Gv → Gv
second_in gnil = gnil
second_in (gnum n) = gnil
second_in (gcons a b) = b

never : {P : Type 0} → (P → ⊥) → Decides false P
never apart = (λ e. absurd (true≢false (sym e)), λ p. absurd (apart p))

tree_decides : (a b : Gv) → Decides (same_tree a b) (a ≡ b)
tree_decides gnil gnil = (λ _. refl, λ _. refl)
tree_decides gnil (gnum n) = never (λ e. true≢false (ap is_nil e))
tree_decides gnil (gcons c d) = never (λ e. true≢false (ap is_nil e))
tree_decides (gnum m) gnil = never (λ e. true≢false (ap is_number e))
tree_decides (gnum m) (gnum n) = Decides-like (m == n) (ap gnum) (ap number_in) (unsigned_Decides m n)
tree_decides (gnum m) (gcons c d) = never (λ e. true≢false (ap is_number e))
tree_decides (gcons a b) gnil = never (λ e. true≢false (ap is_nil (sym e)))
tree_decides (gcons a b) (gnum n) = never (λ e. true≢false (ap is_number (sym e)))
tree_decides (gcons a b) (gcons c d) =
    Decides-like (same_tree a c && same_tree b d) (λ p i. gcons (p.0 i) (p.1 i)) (λ e. (ap first_in e, ap second_in e))
    (Decides-and (same_tree a c) (same_tree b d) (tree_decides a c) (tree_decides b d))

-- true exactly where the values are equal
pub is_same-Decides : {A : Type 0} (k : Coded A) (x y : A) → Decides (is_same k x y) (x ≡ y)
unfolding is_same
is_same-Decides k x y = Decides-like (is_same k x y) (k.inj x y) (ap k.code) (tree_decides (k.code x) (k.code y))

pub is_same-IsEquivalence : {A : Type 0} (k : Coded A) → IsEquivalence (is_same k)
is_same-IsEquivalence k = decided (is_same k) (is_same-Decides k)
