-- With which journal and which book a controller goes on. Ours, of no standard. What is read from the disk is an input.
use Rattle.std.specs.Prelude.{◌≡◌, ◌-◌, ◌++◌, ℕ, List, [], ◌∷◌, length, slice_get, Option, None, Some}
use Rattle.cell_table.specs.Site.{SiteView}
use Rattle.radio_book.specs.State.{State, empty_book}
use Rattle.journal_files.specs.declared.journal.Journal.{Journal}
use Rattle.journal_files.specs.Journals.{file_of, last_of, spans_of, waiting_of, IsHanded, IsRead}
use Rattle.journal_files.specs.Listings.{IsListed}
use Rattle.journal_resume.specs.Resume.{IsJournal}

-- A journal goes on with a file of the site that has this number in its name, and had these octets: its own file was handed them
-- without a record at the end that was cut. The book is that to which they lead, the last line that of their last record.
pub record GoesOn {R F D : Type 0} (contents : F → Option (List ℕ)) (sum : ℕ) (site : SiteView) (number : ℕ) (octets : List ℕ) (j : Journal R F D) (b : State) : Type 0 where
  pub whole : List ℕ
  pub left : List ℕ
  pub cut : octets ≡ whole ++ left
  pub read : IsJournal sum site number octets b (last_of j) left
  pub handed : IsHanded contents whole (file_of j)
  pub none_waits : waiting_of j ≡ []

-- A journal of the site begins: its file was handed a journal that leads to the site's empty book, which is the book; no line was
-- noted.
pub record Begins {R F D : Type 0} (contents : F → Option (List ℕ)) (sum : ℕ) (site : SiteView) (j : Journal R F D) (b : State) : Type 0 where
  pub octets : List ℕ
  pub empty : b ≡ empty_book site
  pub leads : IsJournal sum site 0 octets b (last_of j) []
  pub handed : IsHanded contents octets (file_of j)
  pub none_waits : waiting_of j ≡ []

-- the last of the numbers that files have in their names, if one has
abbrev pub last_span : List ℕ → Option ℕ
last_span spans = slice_get spans (length spans - 1)

-- behind which lines the files of a journal begin: those with the numbers that a folder has in its names; where it has none, the
-- one that was begun behind line 0
abbrev pub spans_by : Option ℕ → List ℕ → List ℕ
spans_by None spans = 0 ∷ []
spans_by (Some last) spans = spans

-- Where a folder has a last file, the journal goes on with the octets that were read of it; where it has none, one begins.
abbrev pub OpensBy : {R F D : Type 0} → (F → Option (List ℕ)) → (F → Option (List ℕ)) → ℕ → SiteView → Option ℕ → Journal R F D → State → Type 0
OpensBy contents remaining sum site None j b = Begins contents sum site j b
OpensBy contents remaining sum site (Some number) j b = (octets : List ℕ) × IsRead remaining octets × GoesOn contents sum site number octets j b

-- A journal opens so, by the names that its folder gave as it was listed, and knows these files.
abbrev pub Opens : {R F D N : Type 0} → (F → Option (List ℕ)) → (F → Option (List ℕ)) → (N → Option (List ℕ)) → ℕ → SiteView → Journal R F D → State → Type 0
Opens contents remaining names sum site j b = (spans : List ℕ) × IsListed names spans × (spans_of j ≡ spans_by (last_span spans) spans) × OpensBy contents remaining sum site (last_span spans) j b
