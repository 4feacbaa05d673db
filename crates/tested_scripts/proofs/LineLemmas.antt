-- Facts of the lines of a script.
use Rattle.std.proofs.Common.{◌≡◌, inl, inr, ℕ, ◌≤◌, Bool, cond, nat_lt, ◌∷◌, ◌++◌, List, [], Some, None, refl, arith, length, map, unwrap_or, Bor}
use Rattle.std.specs.List.{position_or_len, list_any}
use Rattle.std.proofs.lemmas.Bool.{cases_Bool, ltb-false}
use Rattle.std.specs.Str.Lines.{strip_carriage_return}
use Rattle.std.proofs.lemmas.List.{map-append}
use Rattle.tested_scripts.specs.Lines.{texts_of}

-- the lines so far, and one more
pub lines-more : (pieces : List (Bor (List ℕ))) (piece line : Bor (List ℕ)) (lines : List (Bor (List ℕ)))
    → line.now ≡ strip_carriage_return piece.now → texts_of lines ≡ map strip_carriage_return (texts_of pieces)
    → texts_of (lines ++ line ∷ []) ≡ map strip_carriage_return (texts_of (pieces ++ piece ∷ []))
lines-more pieces piece line lines one all =
    rw (map-append (λ (x : Bor (List ℕ)). x.now) lines (line ∷ []), map-append (λ (x : Bor (List ℕ)). x.now) pieces (piece ∷ []), map-append strip_carriage_return (texts_of pieces) (piece.now ∷ []), all, one) refl

-- how many texts stand before one that passes a test
pub position_texts : (test : List ℕ → Bool) (lines : List (Bor (List ℕ))) → position_or_len test (texts_of lines) ≡ position_or_len (λ (line : Bor (List ℕ)). test line.now) lines
position_texts test [] = refl
position_texts test (line ∷ lines) = rw (position_texts test lines) refl

pub position_within : {X : Type 0} (test : X → Bool) (xs : List X) → position_or_len test xs ≤ length xs
position_within test [] = omega arith
position_within test (x ∷ xs) = elim (cases_Bool (test x)) [
  | inl e ↦ rw e (omega arith)
  | inr e ↦ rw e (omega (arith, position_within test xs))
]

-- the place that was found, or the number of all
pub place_or_all : (place count : ℕ) → place ≤ count → unwrap_or (cond (nat_lt place count) (Some place) None) count ≡ place
place_or_all place count within = elim (cases_Bool (nat_lt place count)) [
  | inl e ↦ rw e refl
  | inr e ↦
      let same : count ≡ place = omega (arith, within, ltb-false place count e) in
      rw e same
]

-- whether one of the texts passes a test
pub any_texts : (test : List ℕ → Bool) (lines : List (Bor (List ℕ))) → list_any (λ (line : Bor (List ℕ)). test line.now) lines ≡ list_any test (texts_of lines)
any_texts test [] = refl
any_texts test (line ∷ lines) = rw (any_texts test lines) refl
