-- What one report more does to counts.
use Rattle.std.proofs.Common.{◌≡◌, ◌+◌, ◌<◌, ◌≤◌, ◌^◌, ℕ, suc, Bool, true, false, cond, not, nat_lt, Option, Some, None, position, List, [], ◌∷◌, ◌++◌, length, get_or, set, refl, sym, ap, ◌∙◌, subst, arith}
use Rattle.std.specs.Prelude.{All, if◌then◌else◌, count_by, sum_by}
use Rattle.std.specs.List.{position_or_len}
use Rattle.std.proofs.lemmas.List.Elements.{All-cons}
use Rattle.std.proofs.lemmas.List.Sums.{sum_by-set, sum_by_push, sum_by-cons, count_by-le-length}
use Rattle.run_counts.specs.declared.report.Report.{Report}
use Rattle.run_counts.specs.declared.counts.Row.{Row}
use Rattle.run_counts.proofs.Places.{past}
use Rattle.run_counts.specs.Counts.{counted_by, HaveRoom, AreCountsOf}

abbrev weight : (Report → Bool) → Row → ℕ
weight p row = if p row.report then row.count else 0

abbrev pub once_more : Row → Row
once_more row = record row { count = row.count + 1 }

weigh : (b : Bool) (new old n : ℕ) → new + (if b then n else 0) ≡ old + (if b then n + 1 else 0) → new ≡ old + (if b then 1 else 0)
weigh true new old n e = omega (arith, e)
weigh false new old n e = omega (arith, e)

-- where the count of a row is one more, just one more of its report is counted
pub more : (p : Report → Bool) (rows : List Row) (i : ℕ) (row : Row) → i < length rows → get_or rows i row ≡ row →
    counted_by p (set rows i (once_more row)) ≡ counted_by p rows + (if p row.report then 1 else 0)
more p rows i row within same =
    let moved : counted_by p (set rows i (once_more row)) + weight p (get_or rows i row) ≡ counted_by p rows + weight p (once_more row) = sum_by-set (weight p) rows i (once_more row) row within in
    let known : counted_by p (set rows i (once_more row)) + weight p row ≡ counted_by p rows + weight p (once_more row) =
    subst (λ (r : Row). counted_by p (set rows i (once_more row)) + weight p r ≡ counted_by p rows + weight p (once_more row)) same moved in
    weigh (p row.report) (counted_by p (set rows i (once_more row))) (counted_by p rows) row.count known

-- and where a row is added that counts one
pub begun : (p : Report → Bool) (rows : List Row) (report : Report) →
    counted_by p (rows ++ (record { report = report; count = 1 }) ∷ []) ≡ counted_by p rows + (if p report then 1 else 0)
begun p rows report = sum_by_push (weight p) rows (record { report = report; count = 1 })

any_report : Report → Bool
any_report report = true

-- no count is above what all counts come to
fit : (rows : List Row) (m : ℕ) → sum_by (weight any_report) rows ≤ m → m + 1 < 2 ^ 64 → HaveRoom rows
unfolding any_report
fit [] m least room = λ k d within. absurd (omega (arith, within))
fit (row ∷ rows) m least room =
    let parts : sum_by (weight any_report) (row ∷ rows) ≡ row.count + sum_by (weight any_report) rows = sum_by-cons (weight any_report) row rows in
    All-cons (λ (r : Row). r.count + 1 < 2 ^ 64) row rows (omega (arith, parts, least, room)) (fit rows m (omega (arith, parts, least)) room)

-- counts of reports that are no more than this have room for one more
pub have_room : (reports : List Report) (rows : List Row) (m : ℕ) → AreCountsOf reports rows → length reports ≤ m → m + 1 < 2 ^ 64 → HaveRoom rows
have_room reports rows m counts few room =
    let most : count_by any_report reports ≤ length reports = count_by-le-length any_report reports in
    fit rows m (omega (arith, counts any_report, most, few)) room

-- where no row is of a report that passes, none was counted
none_of : (b : Bool) (count rest all n len : ℕ) → all ≡ (if b then count else 0) + rest → suc len ≤ cond (not b) (1 + n) 0 → (len ≤ n → rest ≡ 0) → all ≡ 0
none_of true count rest all n len sum far below = absurd (omega (arith, far))
none_of false count rest all n len sum far below = omega (arith, sum, below (omega (arith, far)))

unmet : (p : Report → Bool) (rows : List Row) → length rows ≤ position_or_len (λ (r : Row). p r.report) rows → counted_by p rows ≡ 0
unmet p [] far = refl
unmet p (row ∷ rows) far =
    none_of (p row.report) row.count (counted_by p rows) (counted_by p (row ∷ rows)) (position_or_len (λ (r : Row). p r.report) rows) (length rows)
    (sum_by-cons (weight p) row rows) far (unmet p rows)

pub uncounted : (p : Report → Bool) (rows : List Row) → position (λ (r : Row). p r.report) rows ≡ None → counted_by p rows ≡ 0
uncounted p rows none = unmet p rows (past (position_or_len (λ (r : Row). p r.report) rows) (length rows) none)
