-- Tables in which one map has what is kept of each call: the records and the timers that it makes. Ours, of no standard.
use Rattle.std.specs.Prelude.{◌≡◌, ℕ, length, Option, option_map, option_and_then}
use Rattle.std.specs.Ordering.{nat_cmp}
use Rattle.std.specs.FinMap as map
use Rattle.attempt_journal.specs.declared.Timer.{Timer}
use Rattle.cell_table.specs.Site.{SiteView, TrafficLiesWithin}
use Rattle.radio_tables.specs.declared.kinds.CallRecord.{CallRecord}
use Rattle.radio_tables.specs.Entries.{Kept}
use Rattle.dense_tables.specs.Maps.{listed}

abbrev pub record_at : map.FinMap nat_cmp Kept → ℕ → Option CallRecord
record_at m c = option_map (λ k. k.call) (map.get m c)

abbrev pub timer_in : Option Kept → Option Timer
timer_in kept = option_and_then (λ k. k.timer) kept

abbrev pub timer_at : map.FinMap nat_cmp Kept → ℕ → Option Timer
timer_at m c = timer_in (map.get m c)

abbrev pub records_of : map.FinMap nat_cmp Kept → map.FinMap nat_cmp CallRecord
records_of m = listed nat_cmp (map.keys m) (record_at m)

abbrev pub armed_of : map.FinMap nat_cmp Kept → map.FinMap nat_cmp Timer
armed_of m = listed nat_cmp (map.keys m) (timer_at m)

-- what holds of such tables: each of the site's cells has a row of references, and the armed timers are counted
pub record IsTable (site : SiteView) (calls : map.FinMap nat_cmp Kept) (cells armed : ℕ) : Type 0 where
  pub rows : cells ≡ length site.cells
  pub lies : TrafficLiesWithin site
  pub counted : armed ≡ map.len (armed_of calls)
