-- How often each report came. Ours, of no standard.
use Rattle.std.specs.Prelude.{◌≡◌, ◌+◌, ◌<◌, ◌^◌, ◌==◌, ◌&&◌, ℕ, Bool, false, List, Option, Some, None, All, if◌then◌else◌, count_by, sum_by}
use Rattle.radio_tables.specs.Same.{is_same}
use Rattle.run_counts.specs.declared.report.What.{What}
use Rattle.run_counts.specs.declared.report.Report.{Report}
use Rattle.run_counts.specs.contracts.report.What.{the_row as what_row}
use Rattle.run_counts.specs.contracts.report.Report.{the_row as report_row}
use Rattle.run_counts.specs.declared.counts.Row.{Row}
use Rattle.run_counts.specs.declared.summary.Summary.{Summary}
use Rattle.run_counts.specs.declared.told.Told.{Told}
use Rattle.run_counts.specs.Reports.{report_of, reports_of, standing_of}

-- a report is this one
abbrev pub is_report : Report → Report → Bool
is_report wanted report = is_same report_row.coded wanted report

-- a report is of this, in whatever cell
abbrev pub is_of : What → Report → Bool
is_of wanted report = is_same what_row.coded wanted report.what

-- this cell is the one that is told
abbrev pub is_cell : ℕ → Option ℕ → Bool
is_cell cell (Some told) = told == cell
is_cell cell None = false

-- a report is of this, in this cell
abbrev pub is_in : ℕ → What → Report → Bool
is_in cell wanted report = is_cell cell report.cell && is_of wanted report

-- of how many reports that pass a test rows tell
abbrev pub counted_by : (Report → Bool) → List Row → ℕ
counted_by p rows = sum_by (λ (row : Row). if p row.report then row.count else 0) rows

-- one more fits each count
abbrev pub HaveRoom : List Row → Type 0
HaveRoom rows = All (λ (row : Row). row.count + 1 < 2 ^ 64) rows

-- Rows count these reports: whatever a test asks of a report, as many pass it.
abbrev pub AreCountsOf : List Report → List Row → Type 0
AreCountsOf reports rows = (p : Report → Bool) → counted_by p rows ≡ count_by p reports

-- these lines were counted
pub record IsSummaryOf {A : Type 0} (lines : List Told) (s : Summary A) : Type 0 where
  pub standing : s.standing ≡ standing_of lines
  pub counts : AreCountsOf (reports_of lines) s.rows.items

-- what this line tells counts as a report that none of the lines before was counted as
abbrev pub IsFirstOfItsReport : List Told → Told → Type 0
IsFirstOfItsReport lines told =
    (report : Report) × (report_of (standing_of lines) told ≡ Some report) × (count_by (is_report report) (reports_of lines) ≡ 0)
