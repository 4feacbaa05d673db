-- Where a list has something that passes a test for the first time.
use Rattle.std.proofs.Common.{◌≡◌, ◌+◌, ◌≤◌, ◌∙◌, ℕ, Bool, true, false, cond, not, nat_lt, eqb, List, [], ◌∷◌, ◌++◌, length, Option, Some, None, position, refl, sym, ap, length-append, arith}
use Rattle.std.specs.List.{position_or_len, prefix_len}
use Rattle.std.specs.Str.{bytes_eq}
use Rattle.std.proofs.lemmas.Grind.{common_steps}
use Rattle.std.proofs.lemmas.List.Sums.{prefix_len-le-length}
use Rattle.std.proofs.lemmas.List.Folds.{position_or_len_push}
use Rattle.std.proofs.lemmas.Slice.Eq.{bytes_eq-Decides}

-- no place was found before the end
pub past : (place n : ℕ) → cond (nat_lt place n) (Some place) None ≡ None → n ≤ place
past place n none = grind (arith, common_steps)

there : (place n m : ℕ) → place ≡ n → m ≡ n + 1 → cond (nat_lt place m) (Some place) None ≡ Some n
there place n m is more = grind (arith, common_steps)

behind : (a n : ℕ) (b : Bool) → a ≡ n → b ≡ true → cond (eqb a n) (n + cond b 0 1) a ≡ n
behind a n b is met = grind (arith, common_steps)

-- what is added and passes is the first, where none passes before it
pub added : {X : Type 0} (p : X → Bool) (xs : List X) (y : X) (n : ℕ) → position p xs ≡ None → p y ≡ true → n ≡ length xs
    → position p (xs ++ y ∷ []) ≡ Some n
added p xs y n none met is =
    let most : position_or_len p xs ≤ length xs = prefix_len-le-length (λ x. not (p x)) xs in
    let whole : position_or_len p xs ≡ length xs = omega (arith, most, past (position_or_len p xs) (length xs) none) in
    let found : position_or_len p (xs ++ y ∷ []) ≡ length xs = position_or_len_push p xs y ∙ behind (position_or_len p xs) (length xs) (p y) whole met in
    let more : length (xs ++ y ∷ []) ≡ length xs + 1 = length-append xs (y ∷ []) in
    there (position_or_len p (xs ++ y ∷ [])) (length xs) (length (xs ++ y ∷ [])) found more ∙ ap Some (sym is)

-- a text is the name that it was made of
pub same_text : (name text : List ℕ) → text ≡ name → bytes_eq text name ≡ true
same_text name text is = (bytes_eq-Decides text name).1 is
