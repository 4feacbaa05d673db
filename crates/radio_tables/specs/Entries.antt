-- What stands in the book for each call: its record and the timer that is armed for it. Ours, of no standard.
use Rattle.std.specs.Prelude.{ℕ, List, [], ◌∷◌, Option, refl}
use Rattle.std.specs.Ordering.{nat_cmp}
use Rattle.std.specs.Coded.{Coded, code_by, coded×, coded_ℕ, coded_option}
use Rattle.std.specs.FinMap as map
use Rattle.attempt_journal.specs.declared.Timer.{Timer}
use Rattle.attempt_journal.specs.contracts.Timer.{the_row as timer_row}
use Rattle.radio_tables.specs.declared.kinds.CallRecord.{CallRecord}
use Rattle.radio_tables.specs.contracts.kinds.CallRecord.{the_row as record_row}
use Rattle.radio_tables.specs.Maps.{put}

pub record Kept : Type 0 where
  pub call : CallRecord
  pub timer : Option Timer

abbrev pub kept_code : Coded Kept
kept_code =
    code_by (CallRecord × Option Timer) (coded× record_row.coded (coded_option timer_row.coded)) (λ k. (k.call, k.timer))
    (λ p. record { call = p.0; timer = p.1 }) (λ _. refl)

-- the records of calls, and the timers of those that have one
pub record CallTable : Type 0 where
  pub records : map.FinMap nat_cmp CallRecord
  pub armed : map.FinMap nat_cmp Timer

abbrev pub call_table_code : Coded CallTable
call_table_code =
    code_by (map.FinMap nat_cmp CallRecord × map.FinMap nat_cmp Timer)
    (coded× (map.code coded_ℕ record_row.coded) (map.code coded_ℕ timer_row.coded)) (λ t. (t.records, t.armed))
    (λ p. record { records = p.0; armed = p.1 }) (λ _. refl)

abbrev pub records_of : List (ℕ × Kept) → map.FinMap nat_cmp CallRecord
records_of [] = map.empty
records_of (e ∷ es) = map.insert (records_of es) e.0 e.1.call

abbrev pub armed_of : List (ℕ × Kept) → map.FinMap nat_cmp Timer
armed_of [] = map.empty
armed_of (e ∷ es) = put (armed_of es) e.0 e.1.timer

-- the table, with this kept of a call
abbrev pub with_kept : CallTable → ℕ → Kept → CallTable
with_kept t c k = record { records = map.insert t.records c k.call; armed = put t.armed c k.timer }
