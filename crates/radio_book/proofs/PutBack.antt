-- An inverse that changes what is kept of a call, out of the tables, comes to what it makes of the tables.
use Rattle.std.proofs.Common.{◌≡◌, ℕ, Bool, true, false, Option, Some, None, cond, refl, sym, ap, ◌∙◌}
use Rattle.std.specs.Cmp.{nat_cmp_total}
use Rattle.std.specs.FinMap as map
use Rattle.std.specs.FinMap.{nat_cmp-IsAntisymmetric}
use Rattle.attempt_journal.specs.declared.Timer.{Timer}
use Rattle.attempt_journal.specs.declared.Inverse.TheVariants.{Forget, DropReference, Disarm}
use Rattle.radio_tables.specs.declared.kinds.CallRecord.{CallRecord}
use Rattle.radio_tables.specs.Entries.{Kept}
use Rattle.radio_tables.specs.Maps.{put}
use Rattle.radio_tables.proofs.MapFacts.{get_put_same, record_same, put_put_same, put_again}
use Rattle.radio_book.specs.State.{State, apply, record_of}
use Rattle.radio_book.specs.Table.{no_change, is_armed}
use Rattle.radio_book.specs.Journal.{record_change, timer_change, disarming, reference_removal_of_call, run_inverse}
use Rattle.radio_book.specs.PutBack.{record_in, timer_in, put_back, with_record_in, with_timer_in, disarmed}

-- to put back what stands there changes nothing
pub kept_again : (c : ℕ) (k : Kept) (b : State) → record_of b c ≡ Some k.call → map.get b.timers c ≡ k.timer → put_back c (Some k) b ≡ b
kept_again c k b known armed =
    let calls = put_again nat_cmp_total nat_cmp-IsAntisymmetric b.calls c (Some k.call) known in
    let timers = put_again nat_cmp_total nat_cmp-IsAntisymmetric b.timers c k.timer armed in
    λ i. record { site = b.site; channels = b.channels; calls = calls i; references = b.references; timers = timers i }

module _ (c : ℕ) (b : State) where
  recorded : (o : Option Kept) → record_of (put_back c o b) c ≡ record_in o
  recorded o = record_same b.calls c (record_in o)

  timed : (o : Option Kept) → map.get ((put_back c o b).timers) c ≡ timer_in o
  timed o = get_put_same nat_cmp_total b.timers c (timer_in o)

  pub record_put_back : (f : CallRecord → CallRecord) (o : Option Kept) → put_back c (with_record_in f o) b ≡ apply (record no_change { call = record_change c f (record_of (put_back c o b) c) }) (put_back c o b)
  record_put_back f None = ap (λ r. apply (record no_change { call = record_change c f r }) (put_back c None b)) (sym (recorded None))
  record_put_back f (Some k) =
      let calls = sym (put_put_same nat_cmp_total nat_cmp-IsAntisymmetric b.calls c (Some k.call) (Some (f k.call))) in
      (λ i. record { site = b.site; channels = b.channels; calls = calls i; references = b.references; timers = put b.timers c k.timer })
      ∙ ap (λ r. apply (record no_change { call = record_change c f r }) (put_back c (Some k) b)) (sym (recorded (Some k)))

  pub timer_put_back : (m : Option Timer) (o : Option Kept) → put_back c (with_timer_in m o) b ≡ apply (record no_change { timer = timer_change c m (record_of (put_back c o b) c) }) (put_back c o b)
  timer_put_back m None = ap (λ r. apply (record no_change { timer = timer_change c m r }) (put_back c None b)) (sym (recorded None))
  timer_put_back m (Some k) =
      let timers = sym (put_put_same nat_cmp_total nat_cmp-IsAntisymmetric b.timers c k.timer m) in
      (λ i. record { site = b.site; channels = b.channels; calls = put b.calls c (Some k.call); references = b.references; timers = timers i })
      ∙ ap (λ r. apply (record no_change { timer = timer_change c m r }) (put_back c (Some k) b)) (sym (recorded (Some k)))

  disarm_by : (m : Timer) (k : Kept) (armed : Bool) → is_armed m k.timer ≡ armed → put_back c (Some (cond armed (record k { timer = None }) k)) b ≡ apply (record no_change { timer = cond armed (timer_change c None (record_of (put_back c (Some k) b) c)) None }) (put_back c (Some k) b)
  disarm_by m k true is = timer_put_back None (Some k)
  disarm_by m k false is = refl

  pub disarm_put_back : (m : Timer) (o : Option Kept) → put_back c (disarmed m o) b ≡ run_inverse c (Disarm m) (put_back c o b)
  disarm_put_back m None = ap (λ a. apply (record no_change { timer = disarming c m a (record_of (put_back c None b) c) }) (put_back c None b)) (sym (timed None))
  disarm_put_back m (Some k) =
      disarm_by m k (is_armed m k.timer) refl
      ∙ ap (λ a. apply (record no_change { timer = disarming c m a (record_of (put_back c (Some k) b) c) }) (put_back c (Some k) b)) (sym (timed (Some k)))

  pub forget_put_back : (o : Option Kept) → put_back c None b ≡ run_inverse c Forget (put_back c o b)
  forget_put_back o =
      let calls = sym (put_put_same nat_cmp_total nat_cmp-IsAntisymmetric b.calls c (record_in o) None) in
      let timers = sym (put_put_same nat_cmp_total nat_cmp-IsAntisymmetric b.timers c (timer_in o) None) in
      λ i. record { site = b.site; channels = b.channels; calls = calls i; references = b.references; timers = timers i }

  pub drop_put_back : (n : ℕ) (o : Option Kept) → put_back c o (apply (record no_change { reference = reference_removal_of_call n (record_in o) }) b) ≡ run_inverse c (DropReference n) (put_back c o b)
  drop_put_back n o = ap (λ r. apply (record no_change { reference = reference_removal_of_call n r }) (put_back c o b)) (sym (recorded o))
