-- Which cells a mobile may be handed over to, by its reports. Ours, of no standard.
use Rattle.std.specs.Prelude.{ℕ, ◌≡◌, ◌≢◌, ◌+◌, ◌*◌, ◌≤◌, length}
use Rattle.cell_table.specs.Views.{SiteView}
use Rattle.cell_table.specs.Neighbours.{IsNamedCell}
use Rattle.measurements.specs.Reports.{Reports, sum_used, sum_named}
use Rattle.ho_candidates.specs.declared.listed.Candidate.{Candidate}

-- There are as many reports as the site says. The cell isn't the serving one; its carrier has a place in the serving
-- cell's neighbour list, and by that place and the cell's code the reports name it. Its sum is at least that of the serving
-- cell and the margin for each report, and at least the minimum for each report.
pub record IsCandidate (w : Reports) (site : SiteView) (serving : ℕ) (c : Candidate) : Type 0 where
  pub place : ℕ
  pub bsic : ℕ
  pub full : length w.reports ≡ site.handover.window
  pub other : c.cell ≢ serving
  pub name : IsNamedCell site serving place bsic c.cell
  pub sum : c.sum ≡ sum_named place bsic w.reports
  pub margin : sum_used w.reports + site.handover.margin * site.handover.window ≤ c.sum
  pub minimum : site.handover.minimum * site.handover.window ≤ c.sum

-- some cell is a candidate
abbrev pub SomeCandidate : Reports → SiteView → ℕ → Type 0
SomeCandidate w site serving = (c : Candidate) × IsCandidate w site serving c

-- this cell is none
abbrev pub NoCandidateIn : Reports → SiteView → ℕ → ℕ → Type 0
NoCandidateIn w site serving cell = (c : Candidate) → c.cell ≡ cell → ¬ IsCandidate w site serving c

-- this cell is one with no other sum
abbrev pub IsOnlyCandidateIn : Reports → SiteView → ℕ → ℕ → Candidate → Type 0
IsOnlyCandidateIn w site serving cell only = (c : Candidate) → c.cell ≡ cell → IsCandidate w site serving c → c ≡ only
