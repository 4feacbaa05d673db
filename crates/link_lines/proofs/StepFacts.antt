-- Steps along the words of a line: what is written is read.
use Rattle.std.proofs.Common.{◌≡◌, ℕ, ◌<◌, ◌^◌, List, ◌∷◌, ◌++◌, Option, Some, None, Ok, Bool, true, false, refl, arith, codes}
use Rattle.std.specs.Fmt.{decimal}
use Rattle.channel_fsm.specs.declared.ChanId.{ChanId}
use Rattle.channel_fsm.specs.Text.{timeslot_text}
use Rattle.attempt_journal.specs.declared.Timer.{Timer}
use Rattle.attempt_journal.specs.declared.Timer.TheVariants as of_call
use Rattle.link_tables.specs.declared.Timer as channel
use Rattle.link_tables.specs.declared.Timer.TheVariants as of_channel
use Rattle.link_exchange.specs.declared.TimerKey.{TimerKey}
use Rattle.link_exchange.specs.declared.TimerKey.TheVariants as key
use Rattle.link_lines.specs.declared.fault.Place.{Place}
use Rattle.link_lines.specs.declared.words.TimerName.{TimerName}
use Rattle.link_lines.specs.declared.words.TimerName.TheVariants as name
use Rattle.link_lines.specs.Words.{switch_of, timer_named}
use Rattle.encoded_messages.specs.Words.{Lacks}
use Rattle.link_lines.specs.Lines.{call_at, octet_at, timeslot_at, switch_at, advance_at, timer_at, station_at, channel_at, timer_of, key_at}
use Rattle.link_lines.specs.Laws.{FitsCall, FitsStation, FitsChannel, FitsKey}
use Rattle.link_lines.specs.Text.{channel_text, call_timer, channel_timer, key_text, switch_word}
use Rattle.link_lines.proofs.WordFacts.{word_first, word_behind, last_first, last_behind, number_read, decimal_lacks, timeslot_lacks, timeslot_read}

pub call_step : (c : ℕ) (rest : List ℕ) → FitsCall c → call_at (Some (decimal c ++ 32 ∷ rest)) ≡ Ok (c, Some rest)
unfolding call_at
call_step c rest f =
    let lacks = decimal_lacks 32 c (omega arith) (omega arith) in
    rw (word_first (decimal c) rest lacks, word_behind (decimal c) rest lacks, number_read 65536 c (omega arith) f) refl

pub call_last : (c : ℕ) → FitsCall c → call_at (Some (decimal c)) ≡ Ok (c, None)
unfolding call_at
call_last c f =
    let lacks = decimal_lacks 32 c (omega arith) (omega arith) in
    rw (last_first (decimal c) lacks, last_behind (decimal c) lacks, number_read 65536 c (omega arith) f) refl

octet_step : (place : Place) (n : ℕ) (rest : List ℕ) → n < 256 → octet_at place (Some (decimal n ++ 32 ∷ rest)) ≡ Ok (n, Some rest)
unfolding octet_at
octet_step place n rest f =
    let lacks = decimal_lacks 32 n (omega arith) (omega arith) in
    rw (word_first (decimal n) rest lacks, word_behind (decimal n) rest lacks, number_read 256 n (omega arith) f) refl

octet_last : (place : Place) (n : ℕ) → n < 256 → octet_at place (Some (decimal n)) ≡ Ok (n, None)
unfolding octet_at
octet_last place n f =
    let lacks = decimal_lacks 32 n (omega arith) (omega arith) in
    rw (last_first (decimal n) lacks, last_behind (decimal n) lacks, number_read 256 n (omega arith) f) refl

station_step : (cell trx : ℕ) (rest : List ℕ) → FitsStation cell trx → station_at (Some (decimal cell ++ 32 ∷ (decimal trx ++ 32 ∷ rest))) ≡ Ok ((cell, trx), Some rest)
unfolding station_at
station_step cell trx rest f = rw (octet_step _ cell (decimal trx ++ 32 ∷ rest) f.0, octet_step _ trx rest f.1) refl

pub station_last : (cell trx : ℕ) → FitsStation cell trx → station_at (Some (decimal cell ++ 32 ∷ decimal trx)) ≡ Ok ((cell, trx), None)
unfolding station_at
station_last cell trx f = rw (octet_step _ cell (decimal trx) f.0, octet_last _ trx f.1) refl

slot_last : (x : ChanId) → FitsChannel x → timeslot_at (Some (timeslot_text x.tn x.sub)) ≡ Ok ((x.tn, x.sub), None)
unfolding timeslot_at
slot_last x f =
    let lacks = timeslot_lacks x.tn x.sub f.tn in
    rw (last_first (timeslot_text x.tn x.sub) lacks, last_behind (timeslot_text x.tn x.sub) lacks, timeslot_read x.tn x.sub f.tn) refl

pub channel_last : (x : ChanId) → FitsChannel x → channel_at (Some (channel_text x)) ≡ Ok (x, None)
unfolding channel_at
channel_last x f =
    rw (station_step x.cell x.trx (timeslot_text x.tn x.sub) (f.cell, f.trx), slot_last x f) refl

switch_by : (w : List ℕ) (is_on : Bool) → Lacks 32 w → switch_of w ≡ Some is_on → switch_at (Some w) ≡ Ok (is_on, None)
unfolding switch_at
switch_by w is_on lacks says = rw (last_first w lacks, last_behind w lacks, says) refl

pub switch_last : (is_on : Bool) → switch_at (Some (switch_word is_on)) ≡ Ok (is_on, None)
switch_last true = switch_by (codes "on") true refl refl
switch_last false = switch_by (codes "off") false refl refl

pub advance_last : (n : ℕ) → n < 64 → advance_at (Some (decimal n)) ≡ Ok (n, None)
unfolding advance_at
advance_last n f =
    let lacks = decimal_lacks 32 n (omega arith) (omega arith) in
    rw (last_first (decimal n) lacks, last_behind (decimal n) lacks, number_read 64 n (omega arith) f) refl

timer_step : (w rest : List ℕ) (named : TimerName) → Lacks 32 w → timer_named w ≡ Some named → timer_at (Some (w ++ 32 ∷ rest)) ≡ Ok (named, Some rest)
unfolding timer_at
timer_step w rest named lacks says = rw (word_first w rest lacks, word_behind w rest lacks, says) refl

call_timer_step : (t : Timer) (rest : List ℕ) → timer_at (Some (call_timer t ++ 32 ∷ rest)) ≡ Ok (name.Call t, Some rest)
call_timer_step of_call.T3103 rest = timer_step (codes "T3103") rest _ refl refl
call_timer_step of_call.T7 rest = timer_step (codes "T7") rest _ refl refl
call_timer_step of_call.T8 rest = timer_step (codes "T8") rest _ refl refl

channel_timer_step : (t : channel.Timer) (rest : List ℕ) → timer_at (Some (channel_timer t ++ 32 ∷ rest)) ≡ Ok (name.Channel t, Some rest)
channel_timer_step of_channel.Activation rest = timer_step (codes "activation") rest _ refl refl
channel_timer_step of_channel.T3109 rest = timer_step (codes "T3109") rest _ refl refl
channel_timer_step of_channel.T3111 rest = timer_step (codes "T3111") rest _ refl refl
channel_timer_step of_channel.Release rest = timer_step (codes "release") rest _ refl refl
channel_timer_step of_channel.Bar rest = timer_step (codes "bar") rest _ refl refl

pub key_last : (k : TimerKey) → FitsKey k → key_at (Some (key_text k)) ≡ Ok (k, None)
unfolding key_at timer_of
key_last (key.Call call t) f = rw (call_timer_step t (decimal call), call_last call f) refl
key_last (key.Channel chan t) f = rw (channel_timer_step t (channel_text chan), channel_last chan f) refl
