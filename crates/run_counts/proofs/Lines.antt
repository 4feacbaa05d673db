-- What one line more does to reports.
use Rattle.std.proofs.Common.{◌≡◌, ◌+◌, ◌≤◌, ℕ, List, [], ◌∷◌, ◌++◌, length, Option, Some, None, refl, sym, ap, ◌∙◌, append_assoc, length-append, arith}
use Rattle.run_counts.specs.declared.told.Told.{Told}
use Rattle.run_counts.specs.declared.report.Report.{Report}
use Rattle.run_counts.specs.declared.report.Standing.{Standing}
use Rattle.run_counts.specs.Reports.{standing_behind, standing_from, report_of, reports_from, as_list}

-- behind one line more
pub stands : (s : Standing) (lines : List Told) (t : Told) → standing_from s (lines ++ t ∷ []) ≡ standing_behind (standing_from s lines) t
stands s [] t = refl
stands s (l ∷ lines) t = stands (standing_behind s l) lines t

-- the reports of one line more are those before, and its own
pub reported : (s : Standing) (lines : List Told) (t : Told) →
    reports_from s (lines ++ t ∷ []) ≡ reports_from s lines ++ as_list (report_of (standing_from s lines) t)
reported s [] t = alone (as_list (report_of s t)) where
  alone : (rs : List Report) → rs ++ [] ≡ [] ++ rs
  alone [] = refl
  alone (r ∷ rs) = ap (λ rest. r ∷ rest) (alone rs)
reported s (l ∷ lines) t =
    ap (λ rest. as_list (report_of s l) ++ rest) (reported (standing_behind s l) lines t)
    ∙ sym (append_assoc (as_list (report_of s l)) (reports_from (standing_behind s l) lines) (as_list (report_of (standing_from (standing_behind s l) lines) t)))

at_most_one : (o : Option Report) → length (as_list o) ≤ 1
at_most_one (Some report) = omega arith
at_most_one None = omega arith

-- a line has one report at most
pub few : (s : Standing) (lines : List Told) → length (reports_from s lines) ≤ length lines
few s [] = omega arith
few s (l ∷ lines) =
    let parts : length (as_list (report_of s l) ++ reports_from (standing_behind s l) lines) ≡ length (as_list (report_of s l)) + length (reports_from (standing_behind s l) lines) = length-append (as_list (report_of s l)) (reports_from (standing_behind s l) lines) in
    let one : length (as_list (report_of s l)) ≤ 1 = at_most_one (report_of s l) in
    let rest : length (reports_from (standing_behind s l) lines) ≤ length lines = few (standing_behind s l) lines in
    omega (arith, parts, one, rest)
