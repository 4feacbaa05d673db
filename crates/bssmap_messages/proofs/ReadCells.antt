-- What cells say of the octets that they are read from.
use Rattle.std.proofs.Common.{◌≡◌, ℕ, ◌<◌, ◌≤◌, ◌%◌, List, [], ◌∷◌, length, Option, Some, None, Bool, true, false, refl, sym, ◌∙◌, ap, arith, subst, IfSome, nat_eq, eqb, cond, Ok, Err, slice_index_or, take, drop, take_all, ◌-◌}
use Rattle.std.proofs.lemmas.Bool.Decides.{nat_tests}
use Rattle.std.specs.Option.{option_map, is_some}
use Rattle.bssmap_messages.specs.declared.message.CellId.{CellId}
use Rattle.bssmap_messages.specs.Values.{area_and_cell, cell_alone, cells_with_network, cells_with_area, cells_alone, cells_of_form, cells_after, only_cell, some_cells, cell_in, cells_in}
use Rattle.octet_elements.specs.declared.values.ValueFault.TheVariants.{Bad}

is_some-map : (f : List CellId → List CellId) (o : Option (List CellId)) → is_some (option_map f o) ≡ is_some o
is_some-map f None = refl
is_some-map f (Some x) = refl

not_none : (cell : CellId) (o : Option (List CellId)) → option_map (λ cells. cell ∷ cells) o ≡ Some [] → ⊥
not_none cell None h = cc
not_none cell (Some cells) h = cc

-- a cell that is read has so many octets: octets are whole cells where they are a multiple of it, fewer are no cell, and
-- some octets are never read as no cells
pub record HasSize (read : List ℕ → Option (List CellId)) (n : ℕ) : Type 0 where
  pub whole : (v : List ℕ) → is_some (read v) ≡ nat_eq (length v % n) 0
  pub short : (v : List ℕ) → length v < n → IfSome (read v) (λ cells. cells ≡ [])
  pub some : (v : List ℕ) → 0 < length v → read v ≡ Some [] → ⊥

pub size_0 : HasSize cells_with_network 7
size_0 = record { whole = whole; short = short; some = some }
  where
    whole : (v : List ℕ) → is_some (cells_with_network v) ≡ nat_eq (length v % 7) 0
    whole [] = refl
    whole (a ∷ []) = refl
    whole (a ∷ b ∷ []) = refl
    whole (a ∷ b ∷ c ∷ []) = refl
    whole (a ∷ b ∷ c ∷ d ∷ []) = refl
    whole (a ∷ b ∷ c ∷ d ∷ e ∷ []) = refl
    whole (a ∷ b ∷ c ∷ d ∷ e ∷ f ∷ []) = refl
    whole (a ∷ b ∷ c ∷ d ∷ e ∷ f ∷ g ∷ v) =
        let more : length v % 7 ≡ length (a ∷ b ∷ c ∷ d ∷ e ∷ f ∷ g ∷ v) % 7 = omega arith in
        is_some-map (λ cells. area_and_cell d e f g ∷ cells) (cells_with_network v) ∙ whole v ∙ ap (λ k. nat_eq k 0) more

    short : (v : List ℕ) → length v < 7 → IfSome (cells_with_network v) (λ cells. cells ≡ [])
    short [] less = refl
    short (a ∷ []) less = tt
    short (a ∷ b ∷ []) less = tt
    short (a ∷ b ∷ c ∷ []) less = tt
    short (a ∷ b ∷ c ∷ d ∷ []) less = tt
    short (a ∷ b ∷ c ∷ d ∷ e ∷ []) less = tt
    short (a ∷ b ∷ c ∷ d ∷ e ∷ f ∷ []) less = tt
    short (a ∷ b ∷ c ∷ d ∷ e ∷ f ∷ g ∷ v) less = absurd (omega arith)

    some : (v : List ℕ) → 0 < length v → cells_with_network v ≡ Some [] → ⊥
    some [] one h = omega arith
    some (a ∷ []) one h = cc
    some (a ∷ b ∷ []) one h = cc
    some (a ∷ b ∷ c ∷ []) one h = cc
    some (a ∷ b ∷ c ∷ d ∷ []) one h = cc
    some (a ∷ b ∷ c ∷ d ∷ e ∷ []) one h = cc
    some (a ∷ b ∷ c ∷ d ∷ e ∷ f ∷ []) one h = cc
    some (a ∷ b ∷ c ∷ d ∷ e ∷ f ∷ g ∷ v) one h = not_none (area_and_cell d e f g) (cells_with_network v) h

pub size_1 : HasSize cells_with_area 4
size_1 = record { whole = whole; short = short; some = some }
  where
    whole : (v : List ℕ) → is_some (cells_with_area v) ≡ nat_eq (length v % 4) 0
    whole [] = refl
    whole (a ∷ []) = refl
    whole (a ∷ b ∷ []) = refl
    whole (a ∷ b ∷ c ∷ []) = refl
    whole (a ∷ b ∷ c ∷ d ∷ v) =
        let more : length v % 4 ≡ length (a ∷ b ∷ c ∷ d ∷ v) % 4 = omega arith in
        is_some-map (λ cells. area_and_cell a b c d ∷ cells) (cells_with_area v) ∙ whole v ∙ ap (λ k. nat_eq k 0) more

    short : (v : List ℕ) → length v < 4 → IfSome (cells_with_area v) (λ cells. cells ≡ [])
    short [] less = refl
    short (a ∷ []) less = tt
    short (a ∷ b ∷ []) less = tt
    short (a ∷ b ∷ c ∷ []) less = tt
    short (a ∷ b ∷ c ∷ d ∷ v) less = absurd (omega arith)

    some : (v : List ℕ) → 0 < length v → cells_with_area v ≡ Some [] → ⊥
    some [] one h = omega arith
    some (a ∷ []) one h = cc
    some (a ∷ b ∷ []) one h = cc
    some (a ∷ b ∷ c ∷ []) one h = cc
    some (a ∷ b ∷ c ∷ d ∷ v) one h = not_none (area_and_cell a b c d) (cells_with_area v) h

pub size_2 : HasSize cells_alone 2
size_2 = record { whole = whole; short = short; some = some }
  where
    whole : (v : List ℕ) → is_some (cells_alone v) ≡ nat_eq (length v % 2) 0
    whole [] = refl
    whole (a ∷ []) = refl
    whole (a ∷ b ∷ v) =
        let more : length v % 2 ≡ length (a ∷ b ∷ v) % 2 = omega arith in
        is_some-map (λ cells. cell_alone a b ∷ cells) (cells_alone v) ∙ whole v ∙ ap (λ k. nat_eq k 0) more

    short : (v : List ℕ) → length v < 2 → IfSome (cells_alone v) (λ cells. cells ≡ [])
    short [] less = refl
    short (a ∷ []) less = tt
    short (a ∷ b ∷ v) less = absurd (omega arith)

    some : (v : List ℕ) → 0 < length v → cells_alone v ≡ Some [] → ⊥
    some [] one h = omega arith
    some (a ∷ []) one h = cc
    some (a ∷ b ∷ v) one h = not_none (cell_alone a b) (cells_alone v) h

-- octets are read as the form says
pub with_network : (form : ℕ) (v : List ℕ) → form ≡ 0 → cells_of_form form v ≡ cells_with_network v
with_network form [] is = refl
with_network form (octet ∷ v) is = ap (λ f. cells_of_form f (octet ∷ v)) is

pub with_area : (form : ℕ) (v : List ℕ) → form ≡ 1 → cells_of_form form v ≡ cells_with_area v
with_area form [] is = refl
with_area form (octet ∷ v) is = ap (λ f. cells_of_form f (octet ∷ v)) is

pub alone : (form : ℕ) (v : List ℕ) → form ≡ 2 → cells_of_form form v ≡ cells_alone v
alone form [] is = refl
alone form (octet ∷ v) is = ap (λ f. cells_of_form f (octet ∷ v)) is

-- seven octets that lead octets of the first form are a cell
pub leads_network : (d : ℕ) (v : List ℕ) (cell : CellId) → d % 16 ≡ 0 → 7 ≤ length v → cell ≡ area_and_cell (slice_index_or v 3 0) (slice_index_or v 4 0) (slice_index_or v 5 0) (slice_index_or v 6 0) → cells_after d v ≡ option_map (λ cells. cell ∷ cells) (cells_after d (take (length v - 7) (drop 7 v)))
leads_network d [] cell is long same = absurd (omega arith)
leads_network d (x ∷ []) cell is long same = absurd (omega arith)
leads_network d (x ∷ y ∷ []) cell is long same = absurd (omega arith)
leads_network d (x ∷ y ∷ z ∷ []) cell is long same = absurd (omega arith)
leads_network d (x ∷ y ∷ z ∷ a ∷ []) cell is long same = absurd (omega arith)
leads_network d (x ∷ y ∷ z ∷ a ∷ b ∷ []) cell is long same = absurd (omega arith)
leads_network d (x ∷ y ∷ z ∷ a ∷ b ∷ e ∷ []) cell is long same = absurd (omega arith)
leads_network d (x ∷ y ∷ z ∷ a ∷ b ∷ e ∷ f ∷ v) cell is long same =
    let all : take (length (x ∷ y ∷ z ∷ a ∷ b ∷ e ∷ f ∷ v) - 7) v ≡ v = take_all (length (x ∷ y ∷ z ∷ a ∷ b ∷ e ∷ f ∷ v) - 7) v (omega arith) in
    let rest : cells_after d (take (length (x ∷ y ∷ z ∷ a ∷ b ∷ e ∷ f ∷ v) - 7) v) ≡ cells_with_network v = ap (cells_after d) all ∙ with_network (d % 16) v is in
    with_network (d % 16) (x ∷ y ∷ z ∷ a ∷ b ∷ e ∷ f ∷ v) is ∙ ap (λ w. option_map (λ cells. w ∷ cells) (cells_with_network v)) (sym same) ∙ ap (option_map (λ cells. cell ∷ cells)) (sym rest)

pub none_read : (read : List ℕ → Option (List CellId)) (d n : ℕ) (v : List ℕ) → cells_after d v ≡ read v → HasSize read n → length v < n → IfSome (cells_after d v) (λ cells. cells ≡ [])
none_read read d n v is size less = subst (λ o. IfSome o (λ cells. cells ≡ [])) (sym is) (size.short v less)

pub are_whole : (read : List ℕ → Option (List CellId)) (d n : ℕ) (v : List ℕ) → cells_after d v ≡ read v → HasSize read n → is_some (cells_after d v) ≡ nat_eq (length v % n) 0
are_whole read d n v is size = ap is_some is ∙ size.whole v

-- another form has no cells
no_form : (form octet : ℕ) (v : List ℕ) → 2 < form → cells_of_form form (octet ∷ v) ≡ None
no_form form octet v other =
    let a : eqb form 0 ≡ false = grind (arith, nat_tests) in
    let b : eqb form 1 ≡ false = grind (arith, nat_tests) in
    let d : eqb form 2 ≡ false = grind (arith, nat_tests) in
    λ i. cond (a i) (cells_with_network (octet ∷ v)) (cond (b i) (cells_with_area (octet ∷ v)) (cond (d i) (cells_alone (octet ∷ v)) None))

pub none_by_form : (d : ℕ) (v : List ℕ) → 2 < d % 16 → IfSome (cells_after d v) (λ cells. cells ≡ [])
none_by_form d [] other = refl
none_by_form d (octet ∷ v) other = subst (λ o. IfSome o (λ cells. cells ≡ [])) (sym (no_form (d % 16) octet v other)) tt

pub no_cells : (d : ℕ) (v : List ℕ) → 2 < d % 16 → 0 < length v → is_some (cells_after d v) ≡ false
no_cells d [] other some = absurd (omega arith)
no_cells d (octet ∷ v) other some = ap is_some (no_form (d % 16) octet v other)

after_some : (d : ℕ) (v : List ℕ) → 0 < length v → cells_after d v ≡ Some [] → ⊥
after_some d [] some h = omega arith
after_some d (octet ∷ v) some h = by_form (eqb (d % 16) 0) (eqb (d % 16) 1) (eqb (d % 16) 2) h
  where
    by_form : (a b c : Bool) → cond a (cells_with_network (octet ∷ v)) (cond b (cells_with_area (octet ∷ v)) (cond c (cells_alone (octet ∷ v)) None)) ≡ Some [] → ⊥
    by_form true b c h = size_0.some (octet ∷ v) some h
    by_form false true c h = size_1.some (octet ∷ v) some h
    by_form false false true h = size_2.some (octet ∷ v) some h
    by_form false false false h = cc

-- a cell and octets behind it are no lone cell
pub not_lone : (cell : CellId) (d : ℕ) (v : List ℕ) (o : Option (List CellId)) → 0 < length v → o ≡ option_map (λ cells. cell ∷ cells) (cells_after d v) → Err (Bad 0x05) ≡ only_cell o
not_lone cell d v o some is = by_cells (cells_after d v) (after_some d v some) ∙ ap only_cell (sym is)
  where
    by_cells : (rest : Option (List CellId)) → (rest ≡ Some [] → ⊥) → Err (Bad 0x05) ≡ only_cell (option_map (λ cells. cell ∷ cells) rest)
    by_cells None not = refl
    by_cells (Some []) not = absurd (not refl)
    by_cells (Some (next ∷ cells)) not = refl

-- such a value is no cell identifier
pub not_lone_in : (cell : CellId) (value rest : List ℕ) → 0 < length value → 0 < length rest → cells_after (slice_index_or value 0 0) (take (length value - 1) (drop 1 value)) ≡ option_map (λ cells. cell ∷ cells) (cells_after (slice_index_or value 0 0) rest) → Err (Bad 0x05) ≡ cell_in (Some value)
not_lone_in cell [] rest long some found = absurd (omega arith)
not_lone_in cell (d ∷ v) rest long some found =
    let all = take_all (length (d ∷ v) - 1) v (omega arith) in
    not_lone cell d rest (cells_after d v) some (sym (ap (λ u. cells_after d u) all) ∙ found)

-- octets that are whole cells are some cells
pub some_are_read : (d : ℕ) (v : List ℕ) → 0 < length v → is_some (cells_after d v) ≡ true → (cells : List CellId) × (cells_after d v ≡ Some cells) × (some_cells (cells_after d v) ≡ Ok cells) × (0 < length cells)
some_are_read d v some whole = by_cells (cells_after d v) refl whole
  where
    by_cells : (o : Option (List CellId)) → cells_after d v ≡ o → is_some o ≡ true → (cells : List CellId) × (o ≡ Some cells) × (some_cells o ≡ Ok cells) × (0 < length cells)
    by_cells None is whole = absurd cc
    by_cells (Some []) is whole = absurd (after_some d v some is)
    by_cells (Some (cell ∷ cells)) is whole = (cell ∷ cells, refl, refl, omega arith)

-- such a value says them
pub some_are_in : (value : List ℕ) → 0 < length (take (length value - 1) (drop 1 value)) → is_some (cells_after (slice_index_or value 0 0) (take (length value - 1) (drop 1 value))) ≡ true → (cells : List CellId) × (cells_after (slice_index_or value 0 0) (take (length value - 1) (drop 1 value)) ≡ Some cells) × (cells_in (Some value) ≡ Ok cells) × (0 < length cells)
some_are_in [] some whole = absurd (omega arith)
some_are_in (d ∷ v) some whole =
    let all = take_all (length (d ∷ v) - 1) v (omega arith) in
    subst (λ u. 0 < length u → is_some (cells_after d u) ≡ true → (cells : List CellId) × (cells_after d u ≡ Some cells) × (some_cells (cells_after d v) ≡ Ok cells) × (0 < length cells)) (sym all) (some_are_read d v) some whole
