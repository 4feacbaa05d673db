-- The traffic channels of a cell, from one of its places on.
use Rattle.std.proofs.Common.{◌≡◌, ℕ, suc, zero, ◌+◌, ◌-◌, ◌<◌, ◌≤◌, lit≤, Bool, true, false, cond, List, [], ◌∷◌, length, get_or, drop, map as map_list, filter, slice_get, Some, refl, sym, ap, ◌∙◌, zero-add, arith}
use Rattle.std.specs.List.{range_with_len}
use Rattle.std.specs.Int.{from_bool}
use Rattle.std.proofs.lemmas.List.{at_drop_more, drop_all}
use Rattle.std.proofs.lemmas.List.FromFn.{get_or-map-range_with_len}
use Rattle.channel_fsm.specs.declared.ChanId.{ChanId}
use Rattle.cell_table.specs.Site.{SiteView, is_traffic}
use Rattle.storms.specs.Width.{place_in, places_of}

-- those at a place and behind it
abbrev pub traffic_from : SiteView → ℕ → ℕ → List ChanId
traffic_from site cell place = filter (is_traffic site) (drop place (places_of cell))

by_places : (cell : ℕ) → places_of cell ≡ map_list (place_in cell) (range_with_len 0 32)
unfolding places_of
by_places cell = refl

places_length : (cell : ℕ) → length (places_of cell) ≡ 32
unfolding places_of
places_length cell = refl

place_at : (cell place : ℕ) (d : ChanId) → place < 32 → get_or (places_of cell) place d ≡ place_in cell place
place_at cell place d h =
    ap (λ xs. get_or xs place d) (by_places cell) ∙ get_or-map-range_with_len (place_in cell) 0 32 place place d h (zero-add place)

at_place : (site : SiteView) (cell place : ℕ) → place < 32 →
    traffic_from site cell place ≡ filter (is_traffic site) (place_in cell place ∷ drop (place + 1) (places_of cell))
at_place site cell place h =
    at_drop_more (filter (is_traffic site)) (places_of cell) place (place_in cell place) (omega (arith, places_length cell))
    ∙ ap (λ x. filter (is_traffic site) (x ∷ drop (place + 1) (places_of cell))) (place_at cell place (place_in cell place) h)

-- the channel at a place is the first of them, or is passed
pub first_at : (site : SiteView) (cell place : ℕ) → place < 32 → is_traffic site (place_in cell place) ≡ true →
    traffic_from site cell place ≡ place_in cell place ∷ traffic_from site cell (place + 1)
first_at site cell place h is =
    at_place site cell place h
    ∙ ap (λ t. cond t (place_in cell place ∷ traffic_from site cell (place + 1)) (traffic_from site cell (place + 1))) is

pub passed_at : (site : SiteView) (cell place : ℕ) → place < 32 → is_traffic site (place_in cell place) ≡ false →
    traffic_from site cell place ≡ traffic_from site cell (place + 1)
passed_at site cell place h is =
    at_place site cell place h
    ∙ ap (λ t. cond t (place_in cell place ∷ traffic_from site cell (place + 1)) (traffic_from site cell (place + 1))) is

pub none_behind : (site : SiteView) (cell place : ℕ) → 32 ≤ place → traffic_from site cell place ≡ []
none_behind site cell place h = ap (filter (is_traffic site)) (drop_all place (places_of cell) (omega (arith, places_length cell)))

-- a count goes on by one place
one_if : (t : Bool) (x : ChanId) (xs : List ChanId) → length (cond t (x ∷ xs) xs) ≡ from_bool t + length xs
one_if true x xs = omega arith
one_if false x xs = omega arith

pub one_at_most : (t : Bool) → from_bool t ≤ 1
one_at_most true = lit≤ tt
one_at_most false = lit≤ tt

pub counted_at : (site : SiteView) (cell place : ℕ) → place < 32 →
    length (traffic_from site cell place) ≡ from_bool (is_traffic site (place_in cell place)) + length (traffic_from site cell (place + 1))
counted_at site cell place h =
    ap length (at_place site cell place h) ∙ one_if (is_traffic site (place_in cell place)) (place_in cell place) (traffic_from site cell (place + 1))

-- a channel is found at a place, or fewer are to be passed from the next on
behind_first : (xs : List ChanId) (x : ChanId) (n : ℕ) → 0 < n → slice_get (x ∷ xs) n ≡ slice_get xs (n - 1)
behind_first xs x zero h = absurd (omega arith)
behind_first xs x (suc n) h = let same : suc n - 1 ≡ n = omega arith in ap (slice_get xs) (sym same)

pub found_at : (site : SiteView) (cell place left : ℕ) → place < 32 → is_traffic site (place_in cell place) ≡ true → left ≡ 0 →
    slice_get (traffic_from site cell place) left ≡ Some (place_in cell place)
found_at site cell place left h is none = ap (slice_get (traffic_from site cell place)) none ∙ ap (λ xs. slice_get xs 0) (first_at site cell place h is)

pub fewer_at : (site : SiteView) (cell place left : ℕ) → place < 32 → is_traffic site (place_in cell place) ≡ true → 0 < left →
    slice_get (traffic_from site cell place) left ≡ slice_get (traffic_from site cell (place + 1)) (left - 1)
fewer_at site cell place left h is some =
    ap (λ xs. slice_get xs left) (first_at site cell place h is) ∙ behind_first (traffic_from site cell (place + 1)) (place_in cell place) left some
