-- The reports of all calls, where those of one change.
use Rattle.std.proofs.Common.{◌≡◌, ◌≢◌, ◌==◌, ℕ, Bool, true, false, if◌then◌else◌, List, refl, ap, subst, arith}
use Rattle.std.proofs.lemmas.Bool.Decides.{nat_tests}
use Rattle.rr_elements.specs.MeasResults.{Results}
use Rattle.ho_procedure.specs.Windows.{Kept, SameReportsBut}
use Rattle.ho_procedure.specs.Going.{last_reports}

equal : (n m : ℕ) → (n == m) ≡ true → n ≡ m
equal n m e = grind (arith, nat_tests)

differs : (n m : ℕ) → (n == m) ≡ false → m ≢ n
differs n m e is = grind (arith, nat_tests)

pub but_one : (old new : Kept) (call : ℕ) (now : List Results) → last_reports new call ≡ now → SameReportsBut call old new → (other : ℕ) → last_reports new other ≡ (if call == other then now else last_reports old other)
but_one old new call now here others other = by (call == other) refl
  where
    by : (b : Bool) → (call == other) ≡ b → last_reports new other ≡ (if b then now else last_reports old other)
    by true e = subst (λ c. last_reports new c ≡ now) (equal call other e) here
    by false e = ap (λ r. r.reports) (others other (differs call other e))
