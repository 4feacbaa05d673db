-- The reports that are kept of each call.
use Rattle.std.specs.Prelude.{ℕ, ◌≡◌, ◌≢◌, ◌==◌, ◌≤◌, Bool, List, [], ◌∷◌, ◌++◌, find, slice_set, slice_index_or, All}
use Rattle.std.specs.Option.{option_map_or}
use Rattle.cell_table.specs.Limits.{most_reports}
use Rattle.rr_elements.specs.MeasResults.{Results}
use Rattle.measurements.specs.Reports.{Reports, no_reports, last_valid}

-- a call and the reports that are kept of it
abbrev pub Entry : Type 0
Entry = ℕ × Reports

-- Calls with their reports, how many reports count, and whether there is room for those of one more call.
pub record Kept : Type 0 where
  pub entries : List Entry
  pub width : ℕ
  pub is_ready : Bool

abbrev pub is_of : ℕ → Entry → Bool
is_of call e = e.0 == call

abbrev pub reports_in : ℕ → List Entry → ℕ → Reports
reports_in width entries call = option_map_or (λ e. e.1) (find (is_of call) entries) (no_reports width)

-- the reports that are kept of a call: none where it has no entry
abbrev pub reports_of : Kept → ℕ → Reports
reports_of w call = reports_in w.width w.entries call

-- the last reports that count, with one more
abbrev pub with_report : ℕ → List Results → Results → List Results
with_report width reports report = last_valid width (reports ++ report ∷ [])

abbrev pub reports_with : Results → Reports → Reports
reports_with report w = record { reports = with_report w.width w.reports report; width = w.width }

-- the report was added at this place
abbrev pub IsNoted : ℕ → Results → List Entry → List Entry → Type 0
IsNoted place report old new = (d : Entry) → new ≡ slice_set old place ((slice_index_or old place d).0, reports_with report (slice_index_or old place d).1)

-- the reports of each call are those that they were
abbrev pub SameReports : Kept → Kept → Type 0
SameReports old new = (call : ℕ) → reports_of new call ≡ reports_of old call

-- so are those of each call but one
abbrev pub SameReportsBut : ℕ → Kept → Kept → Type 0
SameReportsBut call old new = (other : ℕ) → other ≢ call → reports_of new other ≡ reports_of old other

-- what holds of them: each window is as wide as it is to be, 1 to 32 reports
pub record AreKept (entries : List Entry) (width : ℕ) : Type 0 where
  pub wide : All (λ e. e.1.width ≡ width) entries
  pub some : 1 ≤ width
  pub most : width ≤ most_reports
