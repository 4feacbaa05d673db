-- What stands behind a list once an inverse was added to it.
use Rattle.std.proofs.Common.{◌≡◌, ◌+◌, ◌-◌, ◌<◌, ℕ, suc, List, [], ◌∷◌, length, get_or, set, drop, replicate, sym, ap, ◌∙◌, arith}
use Rattle.std.proofs.lemmas.List.{drop-set, drop-set-lt, drop_more}
use Rattle.attempt_journal.specs.declared.Inverse.{Inverse}
use Rattle.attempt_journal.specs.declared.Inverse.TheVariants.{Settle}
use Rattle.attempt_journal.specs.Padding.{pad}

all_but_first : List Inverse → List Inverse
all_but_first [] = []
all_but_first (x ∷ xs) = xs

-- one place less
pub pushed_rest : (places : List Inverse) (n : ℕ) (x : Inverse) → n < 7 → length places ≡ 7 → drop n places ≡ pad n → drop (n + 1) (set places n x) ≡ pad (n + 1)
unfolding all_but_first
pushed_rest places n x few seven rest =
    let split : drop n places ≡ get_or places n Settle ∷ drop (n + 1) places = drop_more places n Settle (omega (arith, few, seven)) in
    let more : 7 - n ≡ suc (7 - (n + 1)) = omega (arith, few) in
    let padding : pad n ≡ Settle ∷ pad (n + 1) = ap (λ m. replicate m Settle) more in
    drop-set-lt (n + 1) places n x (omega arith) ∙ ap all_but_first (sym split ∙ rest ∙ padding)

-- one place more
pub popped_rest : (places : List Inverse) (n : ℕ) → n < 7 → length places ≡ 7 → drop (n + 1) places ≡ pad (n + 1) → drop n (set places n Settle) ≡ pad n
popped_rest places n few seven rest =
    let more : 7 - n ≡ suc (7 - (n + 1)) = omega (arith, few) in
    drop-set places n Settle (omega (arith, few, seven))
    ∙ ap (λ behind. Settle ∷ behind) rest
    ∙ sym (ap (λ m. replicate m Settle) more)
