-- A list that is made part by part.
use Rattle.std.proofs.Common.{◌≡◌, ◌+◌, ◌≤◌, ◌<◌, ℕ, zero, suc, List, [], ◌∷◌, ◌++◌, length, take, drop, get_or, slice_get, append_assoc, refl, sym, ◌∙◌, ap}
use Rattle.std.specs.List.{flat_map}
use Rattle.std.specs.Option.{option_to_list}
use Rattle.std.proofs.lemmas.List.{append-nil, at_drop_more, at_drop_all}
use Rattle.channel_fsm.specs.declared.ChanId.{ChanId}
use Rattle.radio_book.specs.declared.event.Event.{Event}

-- one element more, and what comes of it
pub one_more : (f : ChanId → List Event) (xs : List ChanId) (i : ℕ) (d : ChanId) (so_far next all : List Event) → i < length xs →
    next ≡ so_far ++ f (get_or xs i d) → so_far ++ flat_map f (drop i xs) ≡ all → next ++ flat_map f (drop (i + 1) xs) ≡ all
one_more f xs i d so_far next all within is whole =
    ap (λ es. es ++ flat_map f (drop (i + 1) xs)) is ∙ append_assoc so_far (f (get_or xs i d)) (flat_map f (drop (i + 1) xs))
    ∙ ap (λ es. so_far ++ es) (sym (at_drop_more (flat_map f) xs i d within)) ∙ whole

pub no_more : (f : ChanId → List Event) (xs : List ChanId) (i : ℕ) (so_far all : List Event) → length xs ≤ i →
    so_far ++ flat_map f (drop i xs) ≡ all → so_far ≡ all
no_more f xs i so_far all past whole = sym (append-nil so_far) ∙ ap (λ es. so_far ++ es) (sym (at_drop_all (flat_map f) xs i past)) ∙ whole

pub take_next : {X : Type 0} (xs : List X) (i : ℕ) → take i xs ++ option_to_list (slice_get xs i) ≡ take (suc i) xs
take_next [] zero = refl
take_next [] (suc i) = refl
take_next (x ∷ xs) zero = refl
take_next (x ∷ xs) (suc i) = ap (λ ys. x ∷ ys) (take_next xs i)
