-- What `==` of reports says.
use Rattle.std.proofs.Common.{◌≡◌, ℕ, Option, true, ap, rules}
use Rattle.std.specs.Bool.{Decides}
use Rattle.std.specs.Cmp.{unsigned_Decides}
use Rattle.std.proofs.lemmas.Bool.Decides.{Decides-and, Decides-like, same_from_decides}
use Rattle.radio_tables.specs.Same.{is_same-Decides}
use Rattle.radio_tables.specs.declared.kinds.AttemptKind.{AttemptKind}
use Rattle.radio_tables.proofs.SameFacts.{option_eq-Decides}
use Rattle.run_counts.specs.declared.told.Cause.{Cause}
use Rattle.run_counts.specs.declared.report.What.{What}
use Rattle.run_counts.specs.declared.report.What.TheVariants as what
use Rattle.run_counts.specs.declared.report.Report.{Report}
use Rattle.run_counts.specs.contracts.report.WhatPartialEq.TheImpl.{eq-value as what_eq}
use Rattle.run_counts.specs.contracts.report.ReportPartialEq.TheImpl.{eq-value as report_eq}
use Rattle.run_counts.specs.contracts.report.What.{the_row as what_row}
use Rattle.run_counts.specs.contracts.report.Report.{the_row as report_row}
use Rattle.run_counts.specs.Counts.{is_report, is_of}

-- `==` tells what is counted, of each kind
like_opened : (w : What) → Decides (what_eq.it what.Opened w) (what.Opened ≡ w)
like_opened w = search rules

like_cleared : (w : What) → Decides (what_eq.it what.Cleared w) (what.Cleared ≡ w)
like_cleared w = search rules

like_began : (k : AttemptKind) (w : What) → Decides (what_eq.it (what.Began k) w) (what.Began k ≡ w)
like_began k w = search rules

like_activated : (w : What) → Decides (what_eq.it what.Activated w) (what.Activated ≡ w)
like_activated w = search rules

like_confirmed : (w : What) → Decides (what_eq.it what.Confirmed w) (what.Confirmed ≡ w)
like_confirmed w = search rules

like_completed : (k : Option AttemptKind) (w : What) → Decides (what_eq.it (what.Completed k) w) (what.Completed k ≡ w)
like_completed k w = search rules

like_undone : (cause : Cause) (w : What) → Decides (what_eq.it (what.Undone cause) w) (what.Undone cause ≡ w)
like_undone cause w = search rules

like_turned_away : (w : What) → Decides (what_eq.it what.TurnedAway w) (what.TurnedAway ≡ w)
like_turned_away w = search rules

like_fault : (w : What) → Decides (what_eq.it what.Fault w) (what.Fault ≡ w)
like_fault w = search rules

like_received : (n : ℕ) (w : What) → Decides (what_eq.it (what.Received n) w) (what.Received n ≡ w)
like_received n w = search rules

like_sent : (n : ℕ) (w : What) → Decides (what_eq.it (what.Sent n) w) (what.Sent n ≡ w)
like_sent n w = search rules

what_eq-Decides : (x y : What) → Decides (what_eq.it x y) (x ≡ y)
what_eq-Decides what.Opened y = like_opened y
what_eq-Decides what.Cleared y = like_cleared y
what_eq-Decides (what.Began k) y = like_began k y
what_eq-Decides what.Activated y = like_activated y
what_eq-Decides what.Confirmed y = like_confirmed y
what_eq-Decides (what.Completed k) y = like_completed k y
what_eq-Decides (what.Undone cause) y = like_undone cause y
what_eq-Decides what.TurnedAway y = like_turned_away y
what_eq-Decides what.Fault y = like_fault y
what_eq-Decides (what.Received n) y = like_received n y
what_eq-Decides (what.Sent n) y = like_sent n y

report_eq-Decides : (x y : Report) → Decides (report_eq.it x y) (x ≡ y)
report_eq-Decides x y =
    Decides-like (report_eq.it x y) (λ p i. record { cell = p.0 i; to = p.1.0 i; what = p.1.1 i })
    (λ e. (ap (λ z. z.cell) e, (ap (λ z. z.to) e, ap (λ z. z.what) e)))
    (Decides-and _ _ (option_eq-Decides unsigned_Decides x.cell y.cell)
    (Decides-and _ _ (option_eq-Decides unsigned_Decides x.to y.to) (what_eq-Decides x.what y.what)))

pub same_what : (x : What) (y : Report) → what_eq.it x y.what ≡ is_of x y
same_what x y = same_from_decides (what_eq.it x y.what) (is_of x y) (what_eq-Decides x y.what) (is_same-Decides what_row.coded x y.what)

pub same_report : (x y : Report) → report_eq.it x y ≡ is_report x y
same_report x y = same_from_decides (report_eq.it x y) (is_report x y) (report_eq-Decides x y) (is_same-Decides report_row.coded x y)

-- a report passes the test for another where they are one
pub the_report : (x y : Report) → is_report x y ≡ true → x ≡ y
the_report x y is = (is_same-Decides report_row.coded x y).0 is
