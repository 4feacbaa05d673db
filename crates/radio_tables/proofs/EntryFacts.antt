-- The maps that the entries of calls make: their records, and the timers of those that have one.
use Rattle.std.proofs.Common.{◌≡◌, ◌+◌, ◌-◌, ℕ, arith, count_by, map as map_list, Bool, true, false, cond, List, [], ◌∷◌, Option, Some, None, is_some, option_and_then, refl, sym, ap, ◌∙◌}
use Rattle.std.specs.Option.{option_map}
use Rattle.std.specs.Ordering.{nat_cmp, eq_by_cmp}
use Rattle.std.specs.Cmp.{nat_cmp_total, eq_by_cmp_equiv}
use Rattle.std.specs.Map.{lookup, keys_of}
use Rattle.std.specs.BTreeMap.{BTreeMap, is_at, IsOrdered, values}
use Rattle.std.specs.List.Sorted.{IsStrictlySortedBy}
use Rattle.std.proofs.lemmas.List.Sums.{sum_by-cons}
use Rattle.std.specs.FinMap as map
use Rattle.std.specs.FinMap.{FinMap, same_map, get-empty, get-insert, len-empty, len-insert, len-remove, nat_cmp-IsAntisymmetric}
use Rattle.attempt_journal.specs.declared.Timer.{Timer}
use Rattle.radio_tables.specs.declared.kinds.CallRecord.{CallRecord}
use Rattle.radio_tables.specs.Maps.{put}
use Rattle.radio_tables.specs.Entries.{Kept, CallTable, records_of, armed_of, with_kept}
use Rattle.radio_tables.specs.State.{State, without_call}
use Rattle.radio_tables.specs.State.{with_kept as with_kept_of}
use Rattle.radio_tables.proofs.MapFacts.{get_put, get_listed, put_again}
use Rattle.radio_tables.proofs.TableFacts.{absent_below}

mapped_choice : {A B : Type 0} (f : A → B) (p : Bool) (w z : Option A) → option_map f (cond p w z) ≡ cond p (option_map f w) (option_map f z)
mapped_choice f true w z = refl
mapped_choice f false w z = refl

chained_choice : {A B : Type 0} (f : A → Option B) (p : Bool) (w z : Option A) → option_and_then f (cond p w z) ≡ cond p (option_and_then f w) (option_and_then f z)
chained_choice f true w z = refl
chained_choice f false w z = refl

mapped_there : {A B : Type 0} (f : A → B) (o : Option A) → is_some (option_map f o) ≡ is_some o
mapped_there f None = refl
mapped_there f (Some v) = refl

abbrev pub call_kept : Option Kept → Option CallRecord
call_kept o = option_map (λ (k : Kept). k.call) o

abbrev pub timer_kept : Option Kept → Option Timer
timer_kept o = option_and_then (λ (k : Kept). k.timer) o

-- each answers as the entries do
pub get_records : (es : List (ℕ × Kept)) (q : ℕ) → map.get (records_of es) q ≡ call_kept (lookup (is_at (nat_cmp q)) es)
get_records [] q = get-empty nat_cmp q
get_records (e ∷ es) q =
    get-insert nat_cmp_total (records_of es) e.0 e.1.call q ∙ ap (cond (eq_by_cmp nat_cmp q e.0) (Some e.1.call)) (get_records es q)
    ∙ sym (mapped_choice (λ (k : Kept). k.call) (eq_by_cmp nat_cmp q e.0) (Some e.1) (lookup (is_at (nat_cmp q)) es))

pub get_armed : (es : List (ℕ × Kept)) (q : ℕ) → map.get (armed_of es) q ≡ timer_kept (lookup (is_at (nat_cmp q)) es)
get_armed [] q = get-empty nat_cmp q
get_armed (e ∷ es) q =
    get_put nat_cmp_total (armed_of es) e.0 e.1.timer q ∙ ap (cond (eq_by_cmp nat_cmp q e.0) e.1.timer) (get_armed es q)
    ∙ sym (chained_choice (λ (k : Kept). k.timer) (eq_by_cmp nat_cmp q e.0) (Some e.1) (lookup (is_at (nat_cmp q)) es))

module _ (es fs : List (ℕ × Kept)) (k : ℕ) (w : Option Kept) (answers : (q : ℕ) → lookup (is_at (nat_cmp q)) fs ≡ cond (is_at (nat_cmp k) q) w (lookup (is_at (nat_cmp q)) es)) where
  turned : (q : ℕ) → lookup (is_at (nat_cmp q)) fs ≡ cond (eq_by_cmp nat_cmp q k) w (lookup (is_at (nat_cmp q)) es)
  turned q = answers q ∙ ap (λ b. cond b w (lookup (is_at (nat_cmp q)) es)) ((eq_by_cmp_equiv nat_cmp_total).symm k q)

  -- entries that answer as before but at one key make maps that are changed there
  pub record_written : records_of fs ≡ put (records_of es) k (call_kept w)
  record_written = same_map nat_cmp_total nat_cmp-IsAntisymmetric _ _ (λ q.
      get_records fs q ∙ ap call_kept (turned q) ∙ mapped_choice (λ (k : Kept). k.call) (eq_by_cmp nat_cmp q k) w (lookup (is_at (nat_cmp q)) es)
      ∙ sym (get_put nat_cmp_total (records_of es) k (call_kept w) q ∙ ap (cond (eq_by_cmp nat_cmp q k) (call_kept w)) (get_records es q)))

  pub timer_written : armed_of fs ≡ put (armed_of es) k (timer_kept w)
  timer_written = same_map nat_cmp_total nat_cmp-IsAntisymmetric _ _ (λ q.
      get_armed fs q ∙ ap timer_kept (turned q) ∙ chained_choice (λ (k : Kept). k.timer) (eq_by_cmp nat_cmp q k) w (lookup (is_at (nat_cmp q)) es)
      ∙ sym (get_put nat_cmp_total (armed_of es) k (timer_kept w) q ∙ ap (cond (eq_by_cmp nat_cmp q k) (timer_kept w)) (get_armed es q)))

-- the table that entries make
abbrev pub table_of : List (ℕ × Kept) → CallTable
table_of es = record { records = records_of es; armed = armed_of es }

pub kept_written : (es fs : List (ℕ × Kept)) (c : ℕ) (k : Kept)
    → ((q : ℕ) → lookup (is_at (nat_cmp q)) fs ≡ cond (is_at (nat_cmp c) q) (Some k) (lookup (is_at (nat_cmp q)) es)) → table_of fs ≡ with_kept (table_of es) c k
kept_written es fs c k answers =
    let records = record_written es fs c (Some k) answers in
    let armed = timer_written es fs c (Some k) answers in
    λ i. record { records = records i; armed = armed i }

-- there are as many records as entries
pub records_len : (es : List (ℕ × Kept)) → map.len (records_of es) ≡ map.len (map.from_entries {R = nat_cmp} es)
records_len [] = len-empty nat_cmp CallRecord ∙ sym (len-empty nat_cmp Kept)
records_len (e ∷ es) =
    let m = map.from_entries {R = nat_cmp} es in
    let there = ap is_some (get_records es e.0) ∙ mapped_there (λ (k : Kept). k.call) (lookup (is_at (nat_cmp e.0)) es) ∙ sym (ap is_some (get_listed nat_cmp_total es e.0)) in
    len-insert nat_cmp_total (records_of es) e.0 e.1.call
    ∙ ap (λ n. cond (is_some (map.get (records_of es) e.0)) n (n + 1)) (records_len es)
    ∙ ap (λ b. cond b (map.len m) (map.len m + 1)) there
    ∙ sym (len-insert nat_cmp_total m e.0 e.1)

-- a new key that is put, if a value is
put_len : (m : FinMap nat_cmp Timer) (k : ℕ) (v : Option Timer) → map.get m k ≡ None → map.len (put m k v) ≡ cond (is_some v) 1 0 + map.len m
put_len m k None absent =
    let removed = len-remove nat_cmp_total m k ∙ ap (λ o. cond (is_some o) (map.len m - 1) (map.len m)) absent in
    omega (arith, removed)
put_len m k (Some t) absent =
    let inserted = len-insert nat_cmp_total m k t ∙ ap (λ o. cond (is_some o) (map.len m) (map.len m + 1)) absent in
    omega (arith, inserted)

armed_entries : (es : List (ℕ × Kept)) → IsStrictlySortedBy nat_cmp (keys_of es) → map.len (armed_of es) ≡ count_by (λ (k : Kept). is_some k.timer) (map_list (λ e. e.1) es)
unfolding IsStrictlySortedBy
armed_entries [] h = len-empty nat_cmp Timer
armed_entries (e ∷ es) h =
    put_len (armed_of es) e.0 e.1.timer (get_armed es e.0 ∙ ap timer_kept (absent_below nat_cmp_total e.0 es h.0))
    ∙ ap (λ n. cond (is_some e.1.timer) 1 0 + n) (armed_entries es h.1)
    ∙ sym (sum_by-cons (λ (k : Kept). cond (is_some k.timer) 1 0) e.1 (map_list (λ e. e.1) es))

-- as many timers are armed as entries have one
pub armed_len : (t : BTreeMap ℕ Kept) → IsOrdered nat_cmp t → map.len (armed_of t.entries) ≡ count_by (λ (k : Kept). is_some k.timer) (values t)
armed_len t h = armed_entries t.entries h

-- what is kept of a call, where its timer or its record is the one that was there

pub with_record : (b : State) (c : ℕ) (k : Kept) → map.get b.timers c ≡ k.timer → with_kept_of b c k ≡ record b { calls = map.insert b.calls c k.call }
with_record b c k same =
    let timers = put_again nat_cmp_total nat_cmp-IsAntisymmetric b.timers c k.timer same in
    λ i. record { site = b.site; channels = b.channels; calls = map.insert b.calls c k.call; references = b.references; timers = timers i }

pub with_timer : (b : State) (c : ℕ) (k : Kept) → map.get b.calls c ≡ Some k.call → with_kept_of b c k ≡ record b { timers = put b.timers c k.timer }
with_timer b c k same =
    let calls = put_again nat_cmp_total nat_cmp-IsAntisymmetric b.calls c (Some k.call) same in
    λ i. record { site = b.site; channels = b.channels; calls = calls i; references = b.references; timers = put b.timers c k.timer }

-- a call that is gone, for which no timer was armed
pub without_unarmed : (b : State) (c : ℕ) → map.get b.timers c ≡ None → without_call b c ≡ record b { calls = map.remove b.calls c }
without_unarmed b c same =
    let timers = put_again nat_cmp_total nat_cmp-IsAntisymmetric b.timers c None same in
    λ i. record { site = b.site; channels = b.channels; calls = map.remove b.calls c; references = b.references; timers = timers i }
