-- Facts of who is told what comes of a script.
use Rattle.std.proofs.Common.{◌≡◌, ℕ, List, [], ◌∷◌, ◌++◌, length, refl, subst, arith, length-append}
use Rattle.tested_scripts.specs.Heard.{Hears, HasHeard}

pub heard_none : {L X : Type 0} (hears : L → X → L → Type 0) (l : L) → HasHeard hears l 0 l
heard_none hears l = record { all = []; each = refl; heard = refl }

hears_more : {L X : Type 0} (hears : L → X → L → Type 0) (l : L) (all : List X) (m : L) (came : X) (n : L) → Hears hears l all m → hears m came n → Hears hears l (all ++ came ∷ []) n
hears_more hears l [] m came n e h = (n, (subst (λ k. hears k came n) e h, refl))
hears_more hears l (one ∷ all) m came n more h = (more.0, (more.1.0, hears_more hears more.0 all m came n more.1.1 h))

-- and one more
pub heard_more : {L X Y : Type 0} (hears : L → X → L → Type 0) (l : L) (ys : List Y) (y : Y) (m n : L)
    → HasHeard hears l (length ys) m → (came : X) × hears m came n → HasHeard hears l (length (ys ++ y ∷ [])) n
heard_more hears l ys y m n so_far heard = record {
  all = so_far.all ++ heard.0 ∷ [];
  each = omega (arith, so_far.each, length-append so_far.all (heard.0 ∷ []), length-append ys (y ∷ []));
  heard = hears_more hears l so_far.all m heard.0 n so_far.heard heard.1;
}
