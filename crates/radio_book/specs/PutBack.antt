-- What is kept of a call, out of the tables while the inverses of its attempt run. Ours, of no standard.
use Rattle.std.specs.Prelude.{ℕ, if◌then◌else◌, Option, None, option_and_then}
use Rattle.std.specs.Option.{option_map}
use Rattle.attempt_journal.specs.declared.Timer.{Timer}
use Rattle.radio_tables.specs.declared.kinds.CallRecord.{CallRecord}
use Rattle.radio_tables.specs.Entries.{Kept}
use Rattle.radio_tables.specs.Maps.{put}
use Rattle.radio_book.specs.State.{State}
use Rattle.radio_book.specs.Table.{is_armed}

abbrev pub record_in : Option Kept → Option CallRecord
record_in kept = option_map (λ (k : Kept). k.call) kept

abbrev pub timer_in : Option Kept → Option Timer
timer_in kept = option_and_then (λ (k : Kept). k.timer) kept

-- the book with this kept of a call in place of what stands there; where nothing is kept, the call is gone
abbrev pub put_back : ℕ → Option Kept → State → State
put_back c kept b = record b { calls = put b.calls c (record_in kept); timers = put b.timers c (timer_in kept) }

abbrev pub with_record_in : (CallRecord → CallRecord) → Option Kept → Option Kept
with_record_in f kept = option_map (λ (k : Kept). record k { call = f k.call }) kept

abbrev pub with_timer_in : Option Timer → Option Kept → Option Kept
with_timer_in m kept = option_map (λ (k : Kept). record k { timer = m }) kept

-- this timer is gone; another one that is armed stays
abbrev pub disarmed : Timer → Option Kept → Option Kept
disarmed m kept = option_map (λ (k : Kept). if is_armed m k.timer then record k { timer = None } else k) kept
