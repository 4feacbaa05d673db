-- Tables in which one map has what is kept of each call: what becomes of the records and the timers that it makes where
-- something else is kept of a call, that they tell it, and how many there are; and what such tables say of free channels.
use Rattle.std.proofs.Common.{◌≡◌, ◌&&◌, ◌+◌, ◌-◌, ◌≤◌, ℕ, true, false, count_by, Option, Some, None, IfSome, IfNone, is_some, is_none, option_map, option_and_then, refl, sym, ap, ◌∙◌, subst, arith}
use Rattle.std.specs.Ordering.{nat_cmp}
use Rattle.std.specs.Cmp.{nat_cmp_total}
use Rattle.std.specs.FinMap as map
use Rattle.std.specs.FinMap.{FinMap, nat_cmp-IsAntisymmetric, same_map, get-empty, contains_key-keys, get-entries, get-from_entries, len-entries}
use Rattle.std.proofs.lemmas.List.{length-map}
use Rattle.std.proofs.lemmas.Option.{same_Some}
use Rattle.channel_fsm.specs.declared.ChanId.{ChanId}
use Rattle.channel_fsm.specs.declared.ChanState.{ChanState}
use Rattle.timeslots.specs.declared.Rate.{Rate}
use Rattle.channel_fsm.specs.Slots.{first_in_way}
use Rattle.cell_table.specs.Site.{SiteView, is_traffic}
use Rattle.radio_tables.specs.Entries.{Kept}
use Rattle.radio_tables.specs.Entries.{records_of as records_in}
use Rattle.radio_tables.specs.Keys.{reference_cmp}
use Rattle.radio_tables.specs.Maps.{put}
use Rattle.radio_tables.specs.State.{State, or_free, with_kept, without_call}
use Rattle.radio_tables.specs.Choice.{in_way, IsFreeAt, NoneFreeAt}
use Rattle.radio_tables.specs.Places.{is_free_traffic, free_in}
use Rattle.radio_tables.specs.Dense.{IsTable, record_at, timer_at, records_of, armed_of}
use Rattle.dense_tables.specs.Maps.{Covers}
use Rattle.dense_tables.specs.Channels as dense
use Rattle.dense_tables.proofs.MapFacts.{len_put, one_if_some}
use Rattle.dense_tables.proofs.Listed.{get_listed, listed_put, listed_empty, len_listed}
use Rattle.radio_tables.proofs.MapFacts.{get_put_same, get_put_other}
use Rattle.radio_tables.proofs.MapFacts.{get_listed as get_entries}
use Rattle.radio_tables.proofs.EntryFacts.{call_kept, timer_kept, get_records, records_len}

not_there : (o : Option Kept) → is_some o ≡ false → o ≡ None
not_there None e = refl
not_there (Some k) e = cc

-- what is told by what is kept is said of the map's keys alone
covered : {X : Type 0} (f : Option Kept → Option X) → f None ≡ None → (m : FinMap nat_cmp Kept) → Covers nat_cmp (map.keys m) (λ c. f (map.get m c))
covered f none m q absent = ap f (not_there (map.get m q) (contains_key-keys m q ∙ absent)) ∙ none

record_covers : (m : FinMap nat_cmp Kept) → Covers nat_cmp (map.keys m) (record_at m)
record_covers m = covered call_kept refl m

timer_covers : (m : FinMap nat_cmp Kept) → Covers nat_cmp (map.keys m) (timer_at m)
timer_covers m = covered timer_kept refl m

pub get_record : (m : FinMap nat_cmp Kept) (c : ℕ) → map.get (records_of m) c ≡ record_at m c
get_record m = get_listed nat_cmp_total nat_cmp-IsAntisymmetric (map.keys m) (record_at m) (record_covers m)

pub get_timer : (m : FinMap nat_cmp Kept) (c : ℕ) → map.get (armed_of m) c ≡ timer_at m c
get_timer m = get_listed nat_cmp_total nat_cmp-IsAntisymmetric (map.keys m) (timer_at m) (timer_covers m)

-- something else is kept of a call
pub records_put : (m : FinMap nat_cmp Kept) (c : ℕ) (w : Option Kept) → records_of (put m c w) ≡ put (records_of m) c (option_map (λ (k : Kept). k.call) w)
records_put m c w =
    listed_put nat_cmp_total nat_cmp-IsAntisymmetric (map.keys m) (map.keys (put m c w)) (record_at m) (record_at (put m c w)) (record_covers m) (record_covers (put m c w)) c
    (λ q other. ap (option_map (λ (k : Kept). k.call)) (get_put_other nat_cmp_total nat_cmp-IsAntisymmetric m c w q other))
    ∙ ap (λ o. put (records_of m) c (option_map (λ (k : Kept). k.call) o)) (get_put_same nat_cmp_total m c w)

pub armed_put : (m : FinMap nat_cmp Kept) (c : ℕ) (w : Option Kept) → armed_of (put m c w) ≡ put (armed_of m) c (option_and_then (λ (k : Kept). k.timer) w)
armed_put m c w =
    listed_put nat_cmp_total nat_cmp-IsAntisymmetric (map.keys m) (map.keys (put m c w)) (timer_at m) (timer_at (put m c w)) (timer_covers m) (timer_covers (put m c w)) c
    (λ q other. ap (option_and_then (λ (k : Kept). k.timer)) (get_put_other nat_cmp_total nat_cmp-IsAntisymmetric m c w q other))
    ∙ ap (λ o. put (armed_of m) c (option_and_then (λ (k : Kept). k.timer) o)) (get_put_same nat_cmp_total m c w)

pub no_records : records_of map.empty ≡ map.empty
no_records =
    let none : FinMap nat_cmp Kept = map.empty in
    listed_empty nat_cmp_total nat_cmp-IsAntisymmetric (map.keys none) (record_at none) (λ q. ap (option_map (λ (k : Kept). k.call)) (get-empty nat_cmp q))

pub none_armed : armed_of map.empty ≡ map.empty
none_armed =
    let none : FinMap nat_cmp Kept = map.empty in
    listed_empty nat_cmp_total nat_cmp-IsAntisymmetric (map.keys none) (timer_at none) (λ q. ap (option_and_then (λ (k : Kept). k.timer)) (get-empty nat_cmp q))

-- an entry is told by its record and its timer
kept_both : (o p : Option Kept) → option_map (λ (k : Kept). k.call) o ≡ option_map (λ (k : Kept). k.call) p → option_and_then (λ (k : Kept). k.timer) o ≡ option_and_then (λ (k : Kept). k.timer) p → o ≡ p
kept_both None None records timers = refl
kept_both None (Some j) records timers = cc
kept_both (Some k) None records timers = cc
kept_both (Some k) (Some j) records timers = λ i. Some (record { call = same_Some k.call j.call records i; timer = timers i })

pub kept_told : (m n : FinMap nat_cmp Kept) → records_of m ≡ records_of n → armed_of m ≡ armed_of n → m ≡ n
kept_told m n records timers =
    same_map nat_cmp_total nat_cmp-IsAntisymmetric m n (λ q. kept_both (map.get m q) (map.get n q)
    (sym (get_record m q) ∙ ap (λ l. map.get l q) records ∙ get_record n q)
    (sym (get_timer m q) ∙ ap (λ l. map.get l q) timers ∙ get_timer n q))

-- how many timers are armed, where something else is kept of a call
pub armed_count : (m : FinMap nat_cmp Kept) (c : ℕ) (w : Option Kept) → map.len (armed_of (put m c w)) + one_if_some (timer_at m c) ≡ map.len (armed_of m) + one_if_some (option_and_then (λ (k : Kept). k.timer) w)
armed_count m c w =
    (λ i. map.len (armed_put m c w i) + one_if_some (sym (get_timer m c) i))
    ∙ len_put nat_cmp_total (armed_of m) c (option_and_then (λ (k : Kept). k.timer) w)

-- no more timers than calls
pub few_armed : (m : FinMap nat_cmp Kept) → map.len (armed_of m) ≤ map.len m
few_armed m =
    let most = len_listed nat_cmp_total (map.keys m) (timer_at m) in
    omega (arith, most, length-map (map.entries m) (λ (e : ℕ × Kept). e.0), len-entries m)

-- as many records as calls
again : (m : FinMap nat_cmp Kept) → map.from_entries (map.entries m) ≡ m
again m = same_map nat_cmp_total nat_cmp-IsAntisymmetric _ _ (λ q. get-from_entries nat_cmp_total (map.entries m) q ∙ sym (get-entries m q))

records_again : (m : FinMap nat_cmp Kept) → records_of m ≡ records_in (map.entries m)
records_again m = same_map nat_cmp_total nat_cmp-IsAntisymmetric _ _ (λ q.
    get_record m q
    ∙ sym (get_records (map.entries m) q ∙ ap call_kept (sym (get_entries nat_cmp_total (map.entries m) q) ∙ ap (λ n. map.get n q) (again m))))

pub record_count : (m : FinMap nat_cmp Kept) → map.len (records_of m) ≡ map.len m
record_count m = ap map.len (records_again m) ∙ records_len (map.entries m) ∙ ap map.len (again m)

-- what the tables say
abbrev pub state_in : dense.Channels → FinMap nat_cmp Kept → FinMap reference_cmp ℕ → State
state_in ch m users = record { site = ch.site; channels = ch.states; calls = records_of m; references = users; timers = armed_of m }

pub kept_put : (ch : dense.Channels) (m : FinMap nat_cmp Kept) (users : FinMap reference_cmp ℕ) (c : ℕ) (k : Kept) → state_in ch (map.insert m c k) users ≡ with_kept (state_in ch m users) c k
kept_put ch m users c k =
    let records = records_put m c (Some k) in
    let armed = armed_put m c (Some k) in
    λ i. record { site = ch.site; channels = ch.states; calls = records i; references = users; timers = armed i }

pub kept_removed : (ch : dense.Channels) (m : FinMap nat_cmp Kept) (users : FinMap reference_cmp ℕ) (c : ℕ) → state_in ch (map.remove m c) users ≡ without_call (state_in ch m users) c
kept_removed ch m users c =
    let records = records_put m c None in
    let armed = armed_put m c None in
    λ i. record { site = ch.site; channels = ch.states; calls = records i; references = users; timers = armed i }

-- and that it tells them
pub told : (ch dh : dense.Channels) (m n : FinMap nat_cmp Kept) (users others : FinMap reference_cmp ℕ) → state_in ch m users ≡ state_in dh n others → (ch ≡ dh) × (m ≡ n) × (users ≡ others)
told ch dh m n users others e =
    ((λ i. record { site = (e i).site; states = (e i).channels }), kept_told m n (ap (λ b. b.calls) e) (ap (λ b. b.timers) e), ap (λ b. b.references) e)

-- ---- free channels

same_or_free : (o : Option ChanState) → dense.or_free o ≡ or_free o
same_or_free None = refl
same_or_free (Some s) = refl

module _ (ch : dense.Channels) (m : FinMap nat_cmp Kept) (users : FinMap reference_cmp ℕ) (cell : ℕ) where
  same_way : (x : ChanId) → first_in_way (dense.state_of ch) x ≡ in_way (state_in ch m users) x
  same_way x = λ i. first_in_way (λ y. same_or_free (map.get ch.states y) i) x

  pub found_free : (r : Rate) (o : Option ChanId) → IfSome o (λ x. dense.IsFreeAt ch cell r x) → IfSome o (λ x. IsFreeAt (state_in ch m users) cell r x)
  found_free r None free = tt
  found_free r (Some x) free =
      record { free = record { in_cell = free.free.in_cell; is_traffic = free.free.traffic; is_free = sym (same_way x) ∙ free.free.is_free }; rate = free.rate }

  pub none_free : (r : Rate) (o : Option ChanId) → IfNone o (dense.NoneFreeAt ch cell r) → IfNone o (NoneFreeAt (state_in ch m users) cell r)
  none_free r None none = λ x free.
      none x (record { free = record { in_cell = free.free.in_cell; traffic = free.free.is_traffic; is_free = same_way x ∙ free.free.is_free }; rate = free.rate })
  none_free r (Some x) none = tt

  pub same_count : dense.free_in ch cell ≡ free_in (state_in ch m users) cell
  same_count =
      let alike : (x : ChanId) → dense.is_free_traffic ch x ≡ is_free_traffic (state_in ch m users) x =
      λ x. ap (λ o. is_traffic ch.site x && is_none o) (same_way x) in
      λ i. count_by (λ x. alike x i) (dense.channels_of cell)

-- ---- what holds of the tables, after a change

pub same_site : (site later : SiteView) (m : FinMap nat_cmp Kept) (cells armed : ℕ) → IsTable site m cells armed → later ≡ site → IsTable later m cells armed
same_site site later m cells armed table same = subst (λ s. IsTable s m cells armed) (sym same) table

pub same_rows : (site : SiteView) (m : FinMap nat_cmp Kept) (cells later armed : ℕ) → IsTable site m cells armed → later ≡ cells → IsTable site m later armed
same_rows site m cells later armed table same = subst (λ n. IsTable site m n armed) (sym same) table

pub same_calls : (site : SiteView) (m n : FinMap nat_cmp Kept) (cells armed : ℕ) → IsTable site m cells armed → n ≡ m → IsTable site n cells armed
same_calls site m n cells armed table same = subst (λ k. IsTable site k cells armed) (sym same) table

-- a call that is there, or isn't, has a record or none
pub no_entry : (m : FinMap nat_cmp Kept) (c : ℕ) → map.get (records_of m) c ≡ None → map.get m c ≡ None
no_entry m c none = unmapped (map.get m c) (sym (get_record m c) ∙ none)
  where
    unmapped : (o : Option Kept) → call_kept o ≡ None → o ≡ None
    unmapped None e = refl
    unmapped (Some k) e = cc

pub has_entry : (m : FinMap nat_cmp Kept) (c : ℕ) → is_some (map.get (records_of m) c) ≡ true → is_some (map.get m c) ≡ true
has_entry m c there = mapped (map.get m c) (sym (ap is_some (get_record m c)) ∙ there)
  where
    mapped : (o : Option Kept) → is_some (call_kept o) ≡ true → is_some o ≡ true
    mapped None e = cc
    mapped (Some k) e = refl

-- the count of armed timers after a call was added, changed or removed
module _ (m n : FinMap nat_cmp Kept) (c armed : ℕ) (counted : armed ≡ map.len (armed_of m)) where
  pub armed_added : (k : Kept) (more : ℕ) → map.get m c ≡ None → n ≡ map.insert m c k → more ≡ one_if_some k.timer → armed + more ≡ map.len (armed_of n)
  armed_added k more new changed one =
      let counts = armed_count m c (Some k) in
      let none : one_if_some (timer_at m c) ≡ 0 = ap (λ o. one_if_some (timer_kept o)) new in
      let same : map.len (armed_of n) ≡ map.len (armed_of (map.insert m c k)) = ap (λ l. map.len (armed_of l)) changed in
      omega (arith, counts, none, same, counted, one)

  pub armed_changed : (k : Kept) (before more : ℕ) → n ≡ map.insert m c k → before ≡ one_if_some (timer_at m c) → more ≡ one_if_some k.timer → armed - before + more ≡ map.len (armed_of n)
  armed_changed k before more changed was one =
      let counts = armed_count m c (Some k) in
      let least = armed_count m c None in
      let same : map.len (armed_of n) ≡ map.len (armed_of (map.insert m c k)) = ap (λ l. map.len (armed_of l)) changed in
      omega (arith, counts, least, same, counted, was, one)

  pub armed_same : (k : Kept) → n ≡ map.insert m c k → k.timer ≡ timer_at m c → armed ≡ map.len (armed_of n)
  armed_same k changed stays =
      let counts = armed_count m c (Some k) in
      let one : one_if_some k.timer ≡ one_if_some (timer_at m c) = ap {B = ℕ} (λ o. one_if_some o) stays in
      let same : map.len (armed_of n) ≡ map.len (armed_of (map.insert m c k)) = ap (λ l. map.len (armed_of l)) changed in
      omega (arith, counts, one, same, counted)

  pub armed_removed : (before : ℕ) → n ≡ map.remove m c → before ≡ one_if_some (timer_at m c) → armed - before ≡ map.len (armed_of n)
  armed_removed before changed was =
      let least = armed_count m c None in
      let same : map.len (armed_of n) ≡ map.len (armed_of (map.remove m c)) = ap (λ l. map.len (armed_of l)) changed in
      omega (arith, least, same, counted, was)

-- a call has no more timers armed than there are
pub armed_least : (m : FinMap nat_cmp Kept) (c armed before : ℕ) → armed ≡ map.len (armed_of m) → before ≡ one_if_some (timer_at m c) → before ≤ armed
armed_least m c armed before counted was =
    let least = armed_count m c None in
    omega (arith, least, counted, was)
