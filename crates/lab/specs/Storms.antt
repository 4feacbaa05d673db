-- What a storm prints, and how it ends. Ours, of no standard.
use Rattle.std.specs.Prelude.{◌≡◌, ℕ, false, if◌then◌else◌, List, ◌++◌, codes, Option}
use Rattle.std.specs.Io.KnownBytes.{Appends}
use Rattle.lab_runs.specs.declared.run.Status.{Status}
use Rattle.lab_runs.specs.declared.run.Status.TheVariants as ended
use Rattle.lab_runs.specs.Statuses.{audit_status}
use Rattle.storms.specs.declared.outcome.Figures.{Figures}
use Rattle.storms.specs.declared.outcome.Outcome.{Outcome}
use Rattle.storms.specs.declared.outcome.Outcome.TheVariants.{Done, NoSite, TooSmall, Office}
use Rattle.storms.specs.Outcomes.{IsOutcome, figures_text}

-- how the work ends
abbrev pub status_of : Outcome → Status
status_of (Done figures) = audit_status figures.audit
status_of (NoSite fault) = ended.Refused
status_of (TooSmall shortage) = ended.Refused
status_of (Office fault) = ended.Refused

-- what figures are printed as: five lines of counts, and one that says whether all settled attempts together left a trace
abbrev pub storm_text : Figures → List ℕ
storm_text figures = figures_text figures ++ ((if figures.audit.same then codes "audit same" else codes "audit differs") ++ codes "\n")

-- the storm was run, and its settled attempts together left a trace
pub record LeftTrace (text : List ℕ) (calls : ℕ) : Type 0 where
  pub figures : Figures
  pub outcome : IsOutcome text calls (Done figures)
  pub differs : figures.audit.same ≡ false

-- What is printed, where it is known what a writer holds: the lines of figures, or one that says why there are none. Of a text
-- that describes no site nothing is said here.
abbrev pub Prints : Option (List ℕ) → Option (List ℕ) → Outcome → Type 0
Prints old new (Done figures) = Appends old new (storm_text figures)
Prints old new (NoSite fault) = Unit {0}
Prints old new (TooSmall shortage) = Appends old new (codes "site too small\n")
Prints old new (Office fault) = Appends old new (codes "office\n")
