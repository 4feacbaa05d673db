-- A carrier stands in a neighbour list where as many of the BA list stand before it, and a report names one cell.
use Rattle.std.proofs.Common.{◌≡◌, ◌↔◌, ◌==◌, ℕ, zero, suc, ◌+◌, ◌<◌, ◌≤◌, ◌/◌, ◌%◌, Bool, true, false, ◌&&◌, ◌||◌, not, nat_lt, List, [], ◌∷◌, ◌++◌, count_by, Option, Some, None, option_map, option_and_then, slice_get, All, refl, sym, ◌∙◌, ap, arith, lit≤}
use Rattle.std.proofs.lemmas.Bool.{false≢true, and_parts, and_from, or_left, or_right}
use Rattle.std.proofs.lemmas.Bool.Decides.{nat_tests}
use Rattle.std.proofs.lemmas.Option.{same_Some, none-some}
use Rattle.std.proofs.lemmas.List.Elements.{All-head, All-tail}
use Rattle.std.specs.List.{list_any, range_with_len, AllByRecursion}
use Rattle.cell_table.specs.declared.tables.CellIdentity.{CellIdentity}
use Rattle.cell_table.specs.Limits.{most_carrier}
use Rattle.cell_table.specs.Site.{CellView, SiteView, identity_at, IsSite, IsCell}
use Rattle.cell_table.specs.Rules.{same_colour}
use Rattle.cell_table.specs.Neighbours.{all_carriers, neighbour_list, neighbour_at, IsNamedCell}
use Rattle.cell_table.specs.Searches.{stands_before, is_at, has_bsic, is_named, first_cell, first_named, has_pair, has_neighbour_pair}
use Rattle.cell_table.proofs.Ordered.{is_in, IsInOrder, count_in_order, stands_at, comes_after}
use Rattle.cell_table.proofs.SiteFacts.{got}
use Rattle.cell_table.proofs.Unique.{none_at}
use Rattle.cell_table.proofs.Lookups.{Passes, first_cell_is, unbroken_parts, identity_of_part}

-- carriers in their order

never_before : (n : ℕ) → stands_before n n ≡ false
never_before n = by (n == 0) refl
  where
    less : nat_lt n n ≡ false
    less = grind (arith, nat_tests)

    by : (b : Bool) → (n == 0) ≡ b → (not b && (b || nat_lt n n)) ≡ false
    by true e = refl
    by false e = less

later : (a k : ℕ) → 1 ≤ a → a < k → (stands_before a k ≡ true) × (stands_before k a ≡ false)
later a k some less =
    let zero_a : (a == 0) ≡ false = grind (arith, nat_tests) in
    let zero_k : (k == 0) ≡ false = grind (arith, nat_tests) in
    let there : nat_lt a k ≡ true = grind (arith, nat_tests) in
    let back : nat_lt k a ≡ false = grind (arith, nat_tests) in
    (rw (zero_a, zero_k, there) refl, rw (zero_a, zero_k, back) refl)

last : (a : ℕ) → 1 ≤ a → (stands_before a 0 ≡ true) × (stands_before 0 a ≡ false)
last a some =
    let zero_a : (a == 0) ≡ false = grind (arith, nat_tests) in
    (rw zero_a refl, refl)

all_later : (a b n : ℕ) → 1 ≤ a → a < b → AllByRecursion (λ y. (stands_before a y ≡ true) × (stands_before y a ≡ false)) (range_with_len b n ++ 0 ∷ [])
all_later a b zero some less = (last a some, tt)
all_later a b (suc n) some less = (later a b some less, all_later a (b + 1) n some (omega arith))

in_order : (a n : ℕ) → 1 ≤ a → IsInOrder stands_before (range_with_len a n ++ 0 ∷ [])
in_order a zero some = (tt, tt)
in_order a (suc n) some = (all_later a (a + 1) n some (omega arith), in_order (a + 1) n (omega arith))

zero_there : (a n : ℕ) → is_in (range_with_len a n ++ 0 ∷ []) 0 ≡ true
zero_there a zero = refl
zero_there a (suc n) = or_right (a == 0) _ (zero_there (a + 1) n)

is_there : (a n c : ℕ) → a ≤ c → c < a + n → is_in (range_with_len a n ++ 0 ∷ []) c ≡ true
is_there a zero c least most = absurd (omega arith)
is_there a (suc n) c least most = by (a == c) refl (λ further. is_there (a + 1) n c further (omega arith))
  where
    apart : (a == c) ≡ false → a + 1 ≤ c
    apart e = grind (arith, nat_tests)

    by : (b : Bool) → (a == c) ≡ b → (a + 1 ≤ c → is_in (range_with_len (a + 1) n ++ 0 ∷ []) c ≡ true) → is_in (range_with_len a (suc n) ++ 0 ∷ []) c ≡ true
    by true e rest = or_left (a == c) _ e
    by false e rest = or_right (a == c) _ (rest (apart e))

pub carriers_in_order : IsInOrder stands_before all_carriers
unfolding all_carriers
carriers_in_order = in_order 1 most_carrier (lit≤ tt)

pub carrier_there : (c : ℕ) → c ≤ most_carrier → is_in all_carriers c ≡ true
unfolding all_carriers
carrier_there zero most = zero_there 1 most_carrier
carrier_there (suc c) most = is_there 1 most_carrier (suc c) (omega arith) (omega (arith, most))

-- The carrier stands at a place of the neighbour list exactly where it is one of the BA list, and so many of these stand
-- before it.
equal : (n m : ℕ) → (n == m) ≡ true → n ≡ m
equal n m e = grind (arith, nat_tests)

same : (n m : ℕ) → n ≡ m → (n == m) ≡ true
same n m e = grind (arith, nat_tests)

carriers_there : (ba : List ℕ) → All (λ c. c ≤ most_carrier) ba → AllByRecursion (λ c. is_in all_carriers c ≡ true) ba
carriers_there [] small = tt
carriers_there (c ∷ ba) small =
    (carrier_there c (All-head (λ n. n ≤ most_carrier) c ba small), carriers_there ba (All-tail (λ n. n ≤ most_carrier) c ba small))

one_there : (ba : List ℕ) (c : ℕ) → All (λ n. n ≤ most_carrier) ba → is_in ba c ≡ true → is_in all_carriers c ≡ true
one_there [] c small there = absurd (false≢true there)
one_there (x ∷ ba) c small there = by (x == c) refl (λ further. one_there ba c (All-tail (λ n. n ≤ most_carrier) x ba small) further)
  where
    by : (b : Bool) → (x == c) ≡ b → (is_in ba c ≡ true → is_in all_carriers c ≡ true) → is_in all_carriers c ≡ true
    by true e rest = ap (is_in all_carriers) (sym (equal x c e)) ∙ carrier_there x (All-head (λ n. n ≤ most_carrier) x ba small)
    by false e rest = rest (sym (ap (λ b. b || is_in ba c) e) ∙ there)

pub is_at_is : (ba : List ℕ) (place carrier : ℕ) → All (λ c. c ≤ most_carrier) ba → has_pair (λ m n. n == m) ba ≡ false
    → (is_at ba place carrier ≡ true) ↔ (slice_get (neighbour_list ba) place ≡ Some carrier)
is_at_is ba place carrier small once = (there, back)
  where
    counts : count_by (λ other. stands_before other carrier) ba ≡ count_by (λ n. stands_before n carrier && is_in ba n) all_carriers
    counts = count_in_order stands_before (λ other. stands_before other carrier) all_carriers ba carriers_in_order (carriers_there ba small) once

    there : is_at ba place carrier ≡ true → slice_get (neighbour_list ba) place ≡ Some carrier
    there e =
        let (one, many) = and_parts (is_in ba carrier) (count_by (λ other. stands_before other carrier) ba == place) e in
        let at = stands_at stands_before never_before (is_in ba) carrier all_carriers carriers_in_order (one_there ba carrier small one) one in
        ap (slice_get (neighbour_list ba)) (sym (equal _ place many) ∙ counts) ∙ at

    back : slice_get (neighbour_list ba) place ≡ Some carrier → is_at ba place carrier ≡ true
    back at =
        let after = comes_after stands_before never_before (is_in ba) carrier place all_carriers carriers_in_order at in
        and_from (is_in ba carrier) (count_by (λ other. stands_before other carrier) ba == place) after.passes (same _ place (counts ∙ after.count))

-- what a position and a code name is one cell

named_alike : (ba : List ℕ) (place bsic : ℕ) → All (λ c. c ≤ most_carrier) ba → has_pair (λ m n. n == m) ba ≡ false → (x y : CellIdentity)
    → is_named ba place bsic x ≡ true → is_named ba place bsic y ≡ true → same_colour x y ≡ true
named_alike ba place bsic small once x y e e' =
    let (code, at) = and_parts (has_bsic bsic x) (is_at ba place x.bcch) e in
    let (code', at') = and_parts (has_bsic bsic y) (is_at ba place y.bcch) e' in
    let (ncc, bcc) = and_parts (x.ncc == bsic / 8) (x.bcc == bsic % 8) code in
    let (ncc', bcc') = and_parts (y.ncc == bsic / 8) (y.bcc == bsic % 8) code' in
    let bcch : x.bcch ≡ y.bcch = same_Some x.bcch y.bcch (sym ((is_at_is ba place x.bcch small once).0 at) ∙ (is_at_is ba place y.bcch small once).0 at') in
    and_from (x.bcch == y.bcch) ((x.ncc == y.ncc) && (x.bcc == y.bcc)) (same x.bcch y.bcch bcch)
    (and_from (x.ncc == y.ncc) (x.bcc == y.bcc) (both x.ncc y.ncc (bsic / 8) ncc ncc') (both x.bcc y.bcc (bsic % 8) bcc bcc'))
  where
    both : (n m k : ℕ) → (n == k) ≡ true → (m == k) ≡ true → (n == m) ≡ true
    both n m k a b = grind (arith, nat_tests)

-- a cell with the carrier of a place and the code
pub record IsNamedIn (site : SiteView) (ba : List ℕ) (place bsic cell : ℕ) : Type 0 where
  pub carrier : option_map (λ c. c.bcch) (identity_at site cell) ≡ slice_get (neighbour_list ba) place
  pub network : option_map (λ c. c.ncc) (identity_at site cell) ≡ Some (bsic / 8)
  pub station : option_map (λ c. c.bcc) (identity_at site cell) ≡ Some (bsic % 8)

named_parts : (site : SiteView) (ba : List ℕ) (place bsic cell : ℕ) → All (λ c. c ≤ most_carrier) ba → has_pair (λ m n. n == m) ba ≡ false
    → Passes (is_named ba place bsic) site cell ↔ IsNamedIn site ba place bsic cell
named_parts site ba place bsic cell small once = (there, back)
  where
    there : Passes (is_named ba place bsic) site cell → IsNamedIn site ba place bsic cell
    there is =
        let (code, at) = and_parts (has_bsic bsic is.identity) (is_at ba place is.identity.bcch) is.passes in
        let (ncc, bcc) = and_parts (is.identity.ncc == bsic / 8) (is.identity.bcc == bsic % 8) code in
        record {
          carrier = ap (option_map (λ c. c.bcch)) is.there ∙ sym ((is_at_is ba place is.identity.bcch small once).0 at);
          network = ap (option_map (λ c. c.ncc)) is.there ∙ ap (λ n. Some n) (equal is.identity.ncc (bsic / 8) ncc);
          station = ap (option_map (λ c. c.bcc)) is.there ∙ ap (λ n. Some n) (equal is.identity.bcc (bsic % 8) bcc);
        }

    back : IsNamedIn site ba place bsic cell → Passes (is_named ba place bsic) site cell
    back is =
        let (c, at, ncc) = identity_of_part site cell (bsic / 8) (λ c. c.ncc) is.network in
        let bcc : Some c.bcc ≡ Some (bsic % 8) = ap (option_map (λ c. c.bcc)) (sym at) ∙ is.station in
        let place_of : slice_get (neighbour_list ba) place ≡ Some c.bcch = sym is.carrier ∙ ap (option_map (λ c. c.bcch)) at in
        record {
          identity = c;
          there = at;
          passes = and_from (has_bsic bsic c) (is_at ba place c.bcch)
              (and_from (c.ncc == bsic / 8) (c.bcc == bsic % 8) (same c.ncc (bsic / 8) ncc) (same c.bcc (bsic % 8) (same_Some c.bcc (bsic % 8) bcc)))
              ((is_at_is ba place c.bcch small once).1 place_of);
        }

-- what a site says of the neighbours of its own cells
cell_once : (cells : List CellView) (i : ℕ) (c : CellView) → list_any has_neighbour_pair cells ≡ false → slice_get cells i ≡ Some c → has_neighbour_pair c ≡ false
cell_once cells i c once at = none_at has_neighbour_pair cells i c once at

-- a cell that isn't an own one has no neighbour list
pub not_served : (site : SiteView) (serving place bsic cell : ℕ) → slice_get site.cells serving ≡ None → IsNamedCell site serving place bsic cell → ⊥
not_served site serving place bsic cell at is =
    let (c, there, ncc) = identity_of_part site cell (bsic / 8) (λ c. c.ncc) is.network in
    let carrier : Some c.bcch ≡ None = ap (option_map (λ c. c.bcch)) (sym there) ∙ is.carrier ∙ ap (option_and_then (λ own. slice_get (neighbour_list own.ba) place)) at in
    none-some c.bcch (sym carrier)

ba_small : (site : SiteView) → IsSite site → (serving : ℕ) (own : CellView) → slice_get site.cells serving ≡ Some own → All (λ c. c ≤ most_carrier) own.ba
ba_small site limits serving own at = λ k d within. ((got IsCell site.cells serving own limits.within.each_cell at).neighbours k d within).1

ba_once : (site : SiteView) → IsSite site → (serving : ℕ) (own : CellView) → slice_get site.cells serving ≡ Some own → has_neighbour_pair own ≡ false
ba_once site limits serving own at = cell_once site.cells serving own (unbroken_parts site limits).4 at

-- a cell of the site passes the test of the serving cell's BA list exactly where a mobile names it so
pub named_in : (site : SiteView) → IsSite site → (serving place bsic cell : ℕ) (own : CellView) → slice_get site.cells serving ≡ Some own
    → Passes (is_named own.ba place bsic) site cell ↔ IsNamedCell site serving place bsic cell
named_in site limits serving place bsic cell own at = (λ is. to (parts.0 is), λ is. parts.1 (from is))
  where
    parts : Passes (is_named own.ba place bsic) site cell ↔ IsNamedIn site own.ba place bsic cell
    parts = named_parts site own.ba place bsic cell (ba_small site limits serving own at) (ba_once site limits serving own at)

    listed : neighbour_at site serving place ≡ slice_get (neighbour_list own.ba) place
    listed = ap (option_and_then (λ own. slice_get (neighbour_list own.ba) place)) at

    to : IsNamedIn site own.ba place bsic cell → IsNamedCell site serving place bsic cell
    to is = record { carrier = is.carrier ∙ sym listed; network = is.network; station = is.station }

    from : IsNamedCell site serving place bsic cell → IsNamedIn site own.ba place bsic cell
    from is = record { carrier = is.carrier ∙ listed; network = is.network; station = is.station }

pub named_is : (site : SiteView) → IsSite site → (serving place bsic cell : ℕ) → (first_named site serving place bsic ≡ Some cell) ↔ IsNamedCell site serving place bsic cell
named_is site limits serving place bsic cell = by (slice_get site.cells serving) refl
  where
    by : (o : Option CellView) → slice_get site.cells serving ≡ o → (first_named site serving place bsic ≡ Some cell) ↔ IsNamedCell site serving place bsic cell
    by None at = (λ e. absurd (none-some cell (sym (ap (λ o. option_and_then (λ ba. first_cell (is_named ba place bsic) site) (option_map (λ (c : CellView). c.ba) o)) at) ∙ e)), λ is. absurd (not_served site serving place bsic cell at is))
    by (Some own) at = (λ e. in_list.0 (found.0 (sym searched ∙ e)), λ is. searched ∙ found.1 (in_list.1 is))
      where
        searched : first_named site serving place bsic ≡ first_cell (is_named own.ba place bsic) site
        searched = ap (λ o. option_and_then (λ ba. first_cell (is_named ba place bsic) site) (option_map (λ (c : CellView). c.ba) o)) at

        found : (first_cell (is_named own.ba place bsic) site ≡ Some cell) ↔ Passes (is_named own.ba place bsic) site cell
        found = first_cell_is (is_named own.ba place bsic) same_colour site limits.within.cell_count.1 (unbroken_parts site limits).1 (named_alike own.ba place bsic (ba_small site limits serving own at) (ba_once site limits serving own at)) cell

        in_list : Passes (is_named own.ba place bsic) site cell ↔ IsNamedCell site serving place bsic cell
        in_list = named_in site limits serving place bsic cell own at

pub reports_name_one : (site : SiteView) → IsSite site → (serving place bsic one other : ℕ) → IsNamedCell site serving place bsic one → IsNamedCell site serving place bsic other → one ≡ other
reports_name_one site limits serving place bsic one other is is' =
    same_Some one other (sym ((named_is site limits serving place bsic one).1 is) ∙ (named_is site limits serving place bsic other).1 is')
