-- What one line more does to the counts of a summary.
use Rattle.std.proofs.Common.{◌≡◌, ◌+◌, ◌<◌, ◌≤◌, ◌^◌, ℕ, Bool, List, [], ◌∷◌, ◌++◌, length, Option, Some, None, refl, sym, ap, ◌∙◌, arith}
use Rattle.std.specs.Prelude.{if◌then◌else◌, count_by}
use Rattle.std.proofs.lemmas.List.{append-nil}
use Rattle.std.proofs.lemmas.List.Sums.{sum_by_push, count_by-le-length}
use Rattle.run_counts.specs.declared.told.Told.{Told}
use Rattle.run_counts.specs.declared.report.Report.{Report}
use Rattle.run_counts.specs.declared.report.Standing.{Standing}
use Rattle.run_counts.specs.declared.counts.Row.{Row}
use Rattle.run_counts.specs.Reports.{first_standing, standing_of, standing_behind, report_of, as_list, reports_of}
use Rattle.run_counts.specs.Counts.{counted_by, HaveRoom, AreCountsOf}
use Rattle.run_counts.proofs.Counting.{have_room}
use Rattle.run_counts.proofs.Lines.{few, reported, stands}

-- what is known behind a line more
pub stood : (lines : List Told) (t : Told) (before after : Standing) → before ≡ standing_of lines → after ≡ standing_behind before t
    → after ≡ standing_of (lines ++ t ∷ [])
stood lines t before after known is = is ∙ ap (λ s. standing_behind s t) known ∙ sym (stands first_standing lines t)

-- the counts of fewer lines than this are below it
pub below : (p : Report → Bool) (lines : List Told) (rows : List Row) (m : ℕ) → AreCountsOf (reports_of lines) rows → length lines < m → counted_by p rows < m
below p lines rows m counts within =
    let same : counted_by p rows ≡ count_by p (reports_of lines) = counts p in
    let most : count_by p (reports_of lines) ≤ length (reports_of lines) = count_by-le-length p (reports_of lines) in
    let least : length (reports_of lines) ≤ length lines = few first_standing lines in
    omega (arith, same, most, least, within)

-- a line more that counts as this report
pub one_more : (lines : List Told) (t : Told) (report : Report) (rows later : List Row) → AreCountsOf (reports_of lines) rows → length lines + 1 < 2 ^ 64
    → report_of (standing_of lines) t ≡ Some report
    → ((p : Report → Bool) → HaveRoom rows → counted_by p later ≡ counted_by p rows + (if p report then 1 else 0))
    → AreCountsOf (reports_of (lines ++ t ∷ [])) later
one_more lines t report rows later counts room is more p =
    more p (have_room (reports_of lines) rows (length lines) counts (few first_standing lines) room)
    ∙ ap (λ n. n + (if p report then 1 else 0)) (counts p)
    ∙ sym (sum_by_push (λ (r : Report). if p r then 1 else 0) (reports_of lines) report)
    ∙ sym (ap (count_by p) (reported first_standing lines t ∙ ap (λ o. reports_of lines ++ as_list o) is))

-- and one that counts as nothing
pub none_more : (lines : List Told) (t : Told) (rows : List Row) → AreCountsOf (reports_of lines) rows
    → report_of (standing_of lines) t ≡ None
    → AreCountsOf (reports_of (lines ++ t ∷ [])) rows
none_more lines t rows counts is p =
    counts p
    ∙ sym (ap (count_by p) (reported first_standing lines t ∙ ap (λ o. reports_of lines ++ as_list o) is ∙ append-nil (reports_of lines)))
