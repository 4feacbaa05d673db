-- Laws of site files.
use Rattle.std.specs.Prelude.{◌≡◌, ◌==◌, ◌<◌, ◌≤◌, ℕ, true, false, List, All, length, slice_get, Some, ◌↔◌, IsTrue}
use Rattle.cell_table.specs.Views.{SiteView}
use Rattle.cell_table.specs.Site.{IsSite, IsCellOf}
use Rattle.cell_table.specs.Neighbours.{neighbour_list, IsNamedCell}
use Rattle.cell_table.specs.Searches.{is_at}
use Rattle.cell_table.specs.Same.{same_site}
use Rattle.cell_table.specs.Limits.{timeslots_of_trx, most_carrier}
use Rattle.cell_table.specs.Rules.{has_twice}

-- A TRX has eight timeslots: where nine are named, or more, one stands twice.
abbrev pub NineNameOneTwice : Type 0
NineNameOneTwice = (slots : List ℕ) → All (λ tn. tn < timeslots_of_trx) slots → timeslots_of_trx < length slots → has_twice (λ m n. n == m) slots ≡ true

-- Where every key says the same, the sites are equal, and only there.
abbrev pub SameSitesAreEqual : Type 0
SameSitesAreEqual = (x y : SiteView) → IsTrue (same_site x y) ↔ (x ≡ y)

-- No two cells have the same location area code and cell identity.
abbrev pub CodesNameOneCell : Type 0
CodesNameOneCell = (site : SiteView) → IsSite site → (lac ci one other : ℕ) → IsCellOf site lac ci one → IsCellOf site lac ci other → one ≡ other

-- No position and code name two cells.
abbrev pub ReportsNameOneCell : Type 0
ReportsNameOneCell =
    (site : SiteView) → IsSite site → (serving place bsic one other : ℕ) → IsNamedCell site serving place bsic one → IsNamedCell site serving place bsic other → one ≡ other

-- A carrier stands at a position of the neighbour list exactly where the BA list has it, and so many others of the BA list
-- stand before it.
abbrev pub PositionsAreCounted : Type 0
PositionsAreCounted =
    (ba : List ℕ) (position carrier : ℕ) → All (λ c. c ≤ most_carrier) ba → has_twice (λ m n. n == m) ba ≡ false
    → (is_at ba position carrier ≡ true) ↔ (slice_get (neighbour_list ba) position ≡ Some carrier)
