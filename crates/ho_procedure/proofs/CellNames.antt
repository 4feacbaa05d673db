-- Own cells that are looked at one by one.
use Rattle.std.proofs.Common.{◌≡◌, ◌<◌, ◌≤◌, ◌-◌, ℕ, nat_lt, List, [], ◌∷◌, length, get_or, Option, Some, None, Bool, true, false, refl, sym, ◌∙◌, ap, cond, slice_get, option_map, arith}
use Rattle.std.proofs.lemmas.Bool.Decides.{nat_tests}
use Rattle.std.proofs.lemmas.List.Sums.{position_or_len_is}
use Rattle.std.proofs.lemmas.Option.{slice_get-get_or}
use Rattle.std.specs.List.{position, position_or_len}
use Rattle.std.specs.Option.{option_map_or}
use Rattle.cell_table.specs.Site.{SiteView, CellView, IsSite, identity_at}
use Rattle.bssmap_messages.specs.declared.message.CellId.{CellId}
use Rattle.ho_procedure.specs.Procedure.{names, own_cell}

-- the first place that passes
first_at : {X : Type 0} (p : X → Bool) (xs : List X) (i : ℕ) (x : X) → i < length xs → slice_get xs i ≡ Some x → p x ≡ true → ((k : ℕ) → (y : X) → k < i → slice_get xs k ≡ Some y → p y ≡ false) → position p xs ≡ Some i
first_at p xs i x within there passes before =
    let here : Some (get_or xs i x) ≡ Some x = sym (slice_get-get_or xs i x within) ∙ there in
    let same : get_or xs i x ≡ x = cc in
    let place : position_or_len p xs ≡ i = position_or_len_is p xs i x (omega arith) (λ k less. before k (get_or xs k x) less (slice_get-get_or xs k x (omega arith))) (λ inside. ap p same ∙ passes) in
    let test : nat_lt i (length xs) ≡ true = grind (arith, nat_tests) in
    ap (λ n. cond (nat_lt n (length xs)) (Some n) None) place ∙ ap (λ b. cond b (Some i) None) test

none_at : {X : Type 0} (p : X → Bool) (xs : List X) → ((k : ℕ) → (y : X) → k < length xs → slice_get xs k ≡ Some y → p y ≡ false) → position p xs ≡ None
none_at p [] none = refl
none_at p (x ∷ xs) none =
    let n : ℕ = length (x ∷ xs) in
    let place : position_or_len p (x ∷ xs) ≡ n = position_or_len_is p (x ∷ xs) n x (omega arith) (λ k less. none k (get_or (x ∷ xs) k x) less (slice_get-get_or (x ∷ xs) k x less)) (λ inside. absurd (omega (arith, inside))) in
    let test : nat_lt n n ≡ false = grind (arith, nat_tests) in
    ap (λ m. cond (nat_lt m n) (Some m) None) place ∙ ap (λ b. cond b (Some n) None) test

-- the test of the cell with this number
abbrev pub is_named : CellId → SiteView → ℕ → Bool
is_named id site cell = option_map_or (names id) (identity_at site cell) false

-- an own cell has what identifies it
own_identity : (site : SiteView) (cell : ℕ) → IsSite site → cell < length site.cells → identity_at site cell ≡ option_map (λ c. c.identity) (slice_get site.cells cell)
own_identity site cell is within =
    let few : length site.cells ≤ 64 = is.within.cell_count.1 in
    let own : nat_lt cell 64 ≡ true = grind (arith, nat_tests) in
    ap (λ b. cond b (option_map (λ c. c.identity) (slice_get site.cells cell)) (slice_get site.outside (cell - 64))) own

named_by : (site : SiteView) (id : CellId) (cell : ℕ) (c : CellView) → IsSite site → cell < length site.cells → slice_get site.cells cell ≡ Some c → is_named id site cell ≡ names id c.identity
named_by site id cell c is within there = ap (λ o. option_map_or (names id) o false) (own_identity site cell is within ∙ ap (option_map (λ c. c.identity)) there)

-- the first that is named is found
pub found_first : (site : SiteView) (id : CellId) (cell : ℕ) → IsSite site → cell < length site.cells → ((k : ℕ) → k < cell → is_named id site k ≡ false) → is_named id site cell ≡ true → own_cell site id ≡ Some cell
found_first site id cell is within before here = by (slice_get site.cells cell) refl
  where
    by : (o : Option CellView) → slice_get site.cells cell ≡ o → own_cell site id ≡ Some cell
    by None there =
        let nowhere : is_named id site cell ≡ false = ap (λ o. option_map_or (names id) o false) (own_identity site cell is within ∙ ap (option_map (λ c. c.identity)) there) in
        absurd cc
    by (Some c) there =
        first_at (λ c. names id c.identity) site.cells cell c within there (sym (named_by site id cell c is within there) ∙ here)
        (λ k y less at. sym (named_by site id k y is (omega arith) at) ∙ before k less)

pub found_none : (site : SiteView) (id : CellId) → IsSite site → ((k : ℕ) → k < length site.cells → is_named id site k ≡ false) → own_cell site id ≡ None
found_none site id is none = none_at (λ c. names id c.identity) site.cells (λ k y less at. sym (named_by site id k y is less at) ∙ none k less)
