-- What has to hold of the cells of a site together, each rule looked at over the whole file before the next.
use Rattle.std.specs.Prelude.{ℕ, ◌==◌, Bool, true, false, ◌&&◌, ◌||◌, nat_lt, count_by, Option, Some, None, Result, Ok, Err, List, [], ◌∷◌, ◌++◌, map}
use Rattle.std.specs.List.{list_any, list_all, position}
use Rattle.cell_table.specs.declared.fault.SiteFault.{SiteFault}
use Rattle.cell_table.specs.declared.fault.SiteFault.TheVariants.{Twice, NoTraffic}
use Rattle.cell_table.specs.declared.fault.What.TheVariants as what
use Rattle.cell_table.specs.declared.tables.CellIdentity.{CellIdentity}
use Rattle.cell_table.specs.Views.{CellView, SiteView}

-- two of them are alike: one of them is like more than one, itself counted
abbrev pub has_twice : {A : Type 0} → (A → A → Bool) → List A → Bool
has_twice alike xs = list_any (λ x. nat_lt 1 (count_by (alike x) xs)) xs

-- one location area code and cell identity (TS 23.003 clause 4.3)
abbrev pub same_codes : CellIdentity → CellIdentity → Bool
same_codes x y = (x.lac == y.lac) && (x.ci == y.ci)

-- one BCCH carrier, network and base station colour code, which mobiles couldn't tell apart (TS 23.003 clause 4.3.2)
abbrev pub same_colour : CellIdentity → CellIdentity → Bool
same_colour x y = (x.bcch == y.bcch) && ((x.ncc == y.ncc) && (x.bcc == y.bcc))

-- all cells, the own and then those of others
abbrev pub identities : SiteView → List CellIdentity
identities site = map (λ c. c.identity) site.cells ++ site.outside

-- a cell has one carrier on two TRX
abbrev pub has_carrier_twice : CellView → Bool
has_carrier_twice c = has_twice (λ s t. t.arfcn == s.arfcn) c.trx

-- a cell has one timeslot twice in a TRX, among those for traffic or among those that also carry halves
abbrev pub has_slot_twice : CellView → Bool
has_slot_twice c = list_any (λ t. has_twice (λ m n. n == m) t.tch || has_twice (λ m n. n == m) t.half) c.trx

-- a cell has one carrier twice in its BA list
abbrev pub has_neighbour_twice : CellView → Bool
has_neighbour_twice c = has_twice (λ m n. n == m) c.ba

-- a list without elements
abbrev pub is_empty_list : List ℕ → Bool
is_empty_list [] = true
is_empty_list (x ∷ xs) = false

-- no TRX of the cell has a traffic channel
abbrev pub has_no_traffic : CellView → Bool
has_no_traffic c = list_all (λ t. is_empty_list t.tch) c.trx

-- the rules in their order; the first that is broken
abbrev pub first_broken : Bool → Bool → Bool → Bool → Bool → Option ℕ → Option SiteFault
first_broken true colour carrier slot neighbour silent = Some (Twice what.Identity)
first_broken false true carrier slot neighbour silent = Some (Twice what.Colour)
first_broken false false true slot neighbour silent = Some (Twice what.Carrier)
first_broken false false false true neighbour silent = Some (Twice what.Slot)
first_broken false false false false true silent = Some (Twice what.Neighbour)
first_broken false false false false false (Some cell) = Some (NoTraffic cell)
first_broken false false false false false None = None

-- the first rule that a site breaks
unfoldable pub broken_rule : SiteView → Option SiteFault
broken_rule site =
    first_broken (has_twice same_codes (identities site)) (has_twice same_colour (identities site)) (list_any has_carrier_twice site.cells)
    (list_any has_slot_twice site.cells) (list_any has_neighbour_twice site.cells) (position has_no_traffic site.cells)

-- a site that breaks none
abbrev pub unbroken : SiteView → Option SiteFault → Result SiteView SiteFault
unbroken site None = Ok site
unbroken site (Some fault) = Err fault

abbrev pub checked : SiteView → Result SiteView SiteFault
checked site = unbroken site (broken_rule site)
