-- Changes of different entries commute.
use Rattle.std.proofs.Common.{◌≡◌, ◌≢◌, ℕ, Option, Some, None, refl, ap}
use Rattle.std.specs.declared.cmp.Ordering.{Ordering}
use Rattle.std.specs.Option.{option_map}
use Rattle.std.specs.Cmp.{IsTotalOrder, nat_cmp_total}
use Rattle.std.specs.FinMap.{FinMap, IsAntisymmetric, nat_cmp-IsAntisymmetric}
use Rattle.std.specs.FinMap as map
use Rattle.channel_fsm.specs.declared.ChanId.{ChanId}
use Rattle.dense_tables.specs.declared.references.Reference.{Reference}
use Rattle.radio_tables.specs.Maps.{Entry, with_change}
use Rattle.radio_book.specs.State.{State, Change, apply, or_free, state_of, record_of}
use Rattle.radio_book.proofs.Frame.{Touches, get_untouched}
use Rattle.radio_tables.proofs.MapFacts.{put_put_other}
use Rattle.radio_tables.proofs.KeyFacts.{chan_total, chan_exact, reference_total, reference_exact}

-- the change names another key, or none
abbrev pub Misses : {K X : Type 0} → Option (Entry K X) → K → Type 0
Misses p k = Touches p k → ⊥

-- whichever of two changes of a map comes first, the other doesn't meet it
abbrev pub AreApart : {K X : Type 0} → Option (Entry K X) → Option (Entry K X) → Type 0
AreApart None q = Unit {0}
AreApart (Some e) q = Misses q e.0

-- a change that depends on what may not be there
pub option_missed : {A K X : Type 0} (f : A → Entry K X) (o : Option A) (k : K) → ((v : A) → o ≡ Some v → k ≢ (f v).0) → Misses (option_map f o) k
option_missed f None k differs = λ touched. touched
option_missed f (Some v) k differs = differs v refl

pub option_apart : {A K X : Type 0} (f : A → Entry K X) (o : Option A) (q : Option (Entry K X)) → ((v : A) → o ≡ Some v → Misses q (f v).0) → AreApart (option_map f o) q
option_apart f None q misses = tt
option_apart f (Some v) q misses = misses v refl

module _ {K X : Type 0} {R : K → K → Ordering} (o : IsTotalOrder R) (exact : IsAntisymmetric R) where
  with_change_swap : (m : FinMap R X) (p q : Option (Entry K X)) → AreApart p q → with_change (with_change m p) q ≡ with_change (with_change m q) p
  with_change_swap m None q apart = refl
  with_change_swap m (Some e) None apart = refl
  with_change_swap m (Some e) (Some f) apart = put_put_other o exact m e.0 f.0 e.1 f.1 apart

-- two changes of a book, apart in each of its maps
pub record ChangesApart (p q : Change) : Type 0 where
  pub channel : AreApart p.channel q.channel
  pub call : AreApart p.call q.call
  pub reference : AreApart p.reference q.reference
  pub timer : AreApart p.timer q.timer

-- changes of different entries come to one book in either order
pub apply_swap : (p q : Change) (b : State) → ChangesApart p q → apply q (apply p b) ≡ apply p (apply q b)
apply_swap p q b apart = λ i. record {
  site = b.site;
  channels = with_change_swap chan_total chan_exact b.channels p.channel q.channel apart.channel i;
  calls = with_change_swap nat_cmp_total nat_cmp-IsAntisymmetric b.calls p.call q.call apart.call i;
  references = with_change_swap reference_total reference_exact b.references p.reference q.reference apart.reference i;
  timers = with_change_swap nat_cmp_total nat_cmp-IsAntisymmetric b.timers p.timer q.timer apart.timer i;
}

-- what a change misses reads as before

pub state_kept : (p : Change) (b : State) (x : ChanId) → Misses p.channel x → state_of (apply p b) x ≡ state_of b x
state_kept p b x missed = ap or_free (get_untouched chan_total chan_exact b.channels p.channel x missed)

pub record_kept : (p : Change) (b : State) (c : ℕ) → Misses p.call c → record_of (apply p b) c ≡ record_of b c
record_kept p b c missed = get_untouched nat_cmp_total nat_cmp-IsAntisymmetric b.calls p.call c missed

pub user_kept : (p : Change) (b : State) (k : Reference) → Misses p.reference k → map.get (apply p b).references k ≡ map.get b.references k
user_kept p b k missed = get_untouched reference_total reference_exact b.references p.reference k missed

pub timer_kept : (p : Change) (b : State) (c : ℕ) → Misses p.timer c → map.get (apply p b).timers c ≡ map.get b.timers c
timer_kept p b c missed = get_untouched nat_cmp_total nat_cmp-IsAntisymmetric b.timers p.timer c missed
