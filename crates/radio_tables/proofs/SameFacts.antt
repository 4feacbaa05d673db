-- What `==` of the types of a book says.
use Rattle.std.proofs.Common.{◌≡◌, ◌==◌, ◌&&◌, ℕ, Bool, Option, Some, None, refl, sym, ap, ◌∙◌}
use Rattle.std.specs.Bool.{Decides}
use Rattle.std.specs.declared.cmp.Ordering.{Ordering}
use Rattle.std.specs.Cmp.Lexicographic.{pointwise}
use Rattle.std.specs.Coded.{Coded}
use Rattle.std.specs.FinMap as map
use Rattle.std.specs.FinMap.{FinMap, IsAntisymmetric, nat_cmp-IsAntisymmetric}
use Rattle.std.specs.Map.{lookup}
use Rattle.std.specs.BTreeMap.{BTreeMap, IsOrdered, is_at}
use Rattle.std.proofs.lemmas.Map.Lookups.{btree_map_from_get, btree_map_eq-Decides}
use Rattle.std.specs.Option.{option_eq}
use Rattle.std.specs.Ordering.{nat_cmp}
use Rattle.std.specs.Cmp.{IsTotalOrder, nat_cmp_total, unsigned_Decides}
use Rattle.std.proofs.lemmas.Bool.Decides.{Decides-and, Decides-like, same_from_decides}
use Rattle.std.proofs.lemmas.Bool.{eq-eqb, eqb-true}
use Rattle.std.proofs.lemmas.Option.{same_Some}
use denote.Enum.Bare.{same_true, true_same}
use Rattle.channel_fsm.specs.declared.ChanState.{ChanState}
pub use Rattle.channel_fsm.proofs.KeyFacts.{chan_eq-Decides}
use Rattle.channel_fsm.specs.contracts.ChanStatePartialEq.TheImpl.{eq-value as chan_state_eq}
use Rattle.channel_fsm.specs.declared.ChanState.TheVariants.{Free, Held, Pending, On, Off}
use Rattle.attempt_journal.specs.declared.Timer.{Timer}
use Rattle.attempt_journal.specs.contracts.Timer.{the_type as timer_type}
use Rattle.attempt_journal.specs.contracts.TimerPartialEq.TheImpl.{eq-value as timer_eq}
use Rattle.radio_tables.specs.declared.kinds.Attempt.{Attempt}
use Rattle.radio_tables.specs.declared.kinds.CallRecord.{CallRecord}
use Rattle.dense_tables.specs.declared.references.Reference.{Reference}
use Rattle.radio_tables.specs.contracts.kinds.AttemptKind.{the_type as kind_type}
use Rattle.radio_tables.specs.contracts.kinds.Stage.{the_type as stage_type}
use Rattle.radio_tables.specs.contracts.kinds.AttemptPartialEq.TheImpl.{eq-value as attempt_eq}
use Rattle.radio_tables.specs.contracts.kinds.CallRecordPartialEq.TheImpl.{eq-value as call_record_eq}
use Rattle.dense_tables.specs.contracts.references.ReferencePartialEq.TheImpl.{eq-value as reference_eq}
use Rattle.cell_table.specs.Same.{same_site}
use Rattle.cell_table.specs.Laws.{SameSitesAreEqual}
use Rattle.radio_tables.specs.State.{State, state_code, channels_code, references_code}
use Rattle.radio_tables.specs.Entries.{Kept, kept_code, CallTable, call_table_code, records_of, armed_of}
use Rattle.radio_tables.specs.Same.{is_same, is_same-Decides}
use Rattle.radio_tables.proofs.MapFacts.{get_listed}
use Rattle.radio_tables.proofs.EntryFacts.{call_kept, timer_kept, get_records, get_armed}

pub option_eq-Decides : {A : Type 0} {E : A → A → Bool} → ((x y : A) → Decides (E x y) (x ≡ y)) → (o p : Option A) → Decides (option_eq E o p) (o ≡ p)
option_eq-Decides each None None = (λ _. refl, λ _. refl)
option_eq-Decides each None (Some y) = (λ e. cc, λ e. cc)
option_eq-Decides each (Some x) None = (λ e. cc, λ e. cc)
option_eq-Decides {E = E} each (Some x) (Some y) = Decides-like (E x y) (ap Some) (same_Some x y) (each x y)

pub reference_eq-Decides : (x y : Reference) → Decides (reference_eq.it x y) (x ≡ y)
reference_eq-Decides x y =
    Decides-like (reference_eq.it x y) (λ p i. record { cell = p.0 i; number = p.1 i })
    (λ e. (ap (λ z. z.cell) e, ap (λ z. z.number) e))
    (Decides-and _ _ (unsigned_Decides x.cell y.cell) (unsigned_Decides x.number y.number))

pub timer_eq-Decides : (x y : Timer) → Decides (timer_eq.it x y) (x ≡ y)
timer_eq-Decides x y = (same_true timer_type tt x y, true_same timer_type x y)

attempt_eq-Decides : (x y : Attempt) → Decides (attempt_eq.it x y) (x ≡ y)
attempt_eq-Decides x y =
    Decides-like (attempt_eq.it x y) (λ p i. record { kind = p.0 i; stage = p.1.0 i; target = p.1.1.0 i; reference = p.1.1.1 i })
    (λ e. (ap (λ z. z.kind) e, (ap (λ z. z.stage) e, (ap (λ z. z.target) e, ap (λ z. z.reference) e))))
    (Decides-and _ _ (same_true kind_type tt x.kind y.kind, true_same kind_type x.kind y.kind)
    (Decides-and _ _ (same_true stage_type tt x.stage y.stage, true_same stage_type x.stage y.stage)
    (Decides-and _ _ (option_eq-Decides chan_eq-Decides x.target y.target) (option_eq-Decides unsigned_Decides x.reference y.reference))))

pub call_record_eq-Decides : (x y : CallRecord) → Decides (call_record_eq.it x y) (x ≡ y)
call_record_eq-Decides x y =
    Decides-like (call_record_eq.it x y) (λ p i. record { serving = p.0 i; attempt = p.1 i })
    (λ e. (ap (λ z. z.serving) e, ap (λ z. z.attempt) e))
    (Decides-and _ _ (option_eq-Decides chan_eq-Decides x.serving y.serving) (option_eq-Decides attempt_eq-Decides x.attempt y.attempt))

-- the call that a state names
number_of : ChanState → ℕ
number_of Free = 0
number_of (Held n) = n
number_of (Pending n) = n
number_of (On n) = n
number_of Off = 0

pub chan_state_eq-Decides : (x y : ChanState) → Decides (chan_state_eq.it x y) (x ≡ y)
unfolding number_of
chan_state_eq-Decides Free Free = (λ _. refl, λ _. refl)
chan_state_eq-Decides Free (Held n) = (λ e. cc, λ e. cc)
chan_state_eq-Decides Free (Pending n) = (λ e. cc, λ e. cc)
chan_state_eq-Decides Free (On n) = (λ e. cc, λ e. cc)
chan_state_eq-Decides Free Off = (λ e. cc, λ e. cc)
chan_state_eq-Decides (Held m) Free = (λ e. cc, λ e. cc)
chan_state_eq-Decides (Held m) (Held n) = Decides-like (m == n) (ap Held) (ap number_of) (unsigned_Decides m n)
chan_state_eq-Decides (Held m) (Pending n) = (λ e. cc, λ e. cc)
chan_state_eq-Decides (Held m) (On n) = (λ e. cc, λ e. cc)
chan_state_eq-Decides (Held m) Off = (λ e. cc, λ e. cc)
chan_state_eq-Decides (Pending m) Free = (λ e. cc, λ e. cc)
chan_state_eq-Decides (Pending m) (Held n) = (λ e. cc, λ e. cc)
chan_state_eq-Decides (Pending m) (Pending n) = Decides-like (m == n) (ap Pending) (ap number_of) (unsigned_Decides m n)
chan_state_eq-Decides (Pending m) (On n) = (λ e. cc, λ e. cc)
chan_state_eq-Decides (Pending m) Off = (λ e. cc, λ e. cc)
chan_state_eq-Decides (On m) Free = (λ e. cc, λ e. cc)
chan_state_eq-Decides (On m) (Held n) = (λ e. cc, λ e. cc)
chan_state_eq-Decides (On m) (Pending n) = (λ e. cc, λ e. cc)
chan_state_eq-Decides (On m) (On n) = Decides-like (m == n) (ap On) (ap number_of) (unsigned_Decides m n)
chan_state_eq-Decides (On m) Off = (λ e. cc, λ e. cc)
chan_state_eq-Decides Off Free = (λ e. cc, λ e. cc)
chan_state_eq-Decides Off (Held n) = (λ e. cc, λ e. cc)
chan_state_eq-Decides Off (Pending n) = (λ e. cc, λ e. cc)
chan_state_eq-Decides Off (On n) = (λ e. cc, λ e. cc)
chan_state_eq-Decides Off Off = (λ _. refl, λ _. refl)

-- where two tests decide whether the parts of two values are equal, both together decide whether the values are
both_same : {A P Q : Type 0} (k : Coded A) (x y : A) (p q : Bool) → Decides p P → Decides q Q → (P × Q → x ≡ y) → (x ≡ y → P × Q) → (p && q) ≡ is_same k x y
both_same k x y p q first second there back =
    same_from_decides (p && q) (is_same k x y) (Decides-like (p && q) there back (Decides-and p q first second)) (is_same-Decides k x y)

pub entry_eq : (x y : Kept) → (call_record_eq.it x.call y.call && option_eq timer_eq.it x.timer y.timer) ≡ is_same kept_code x y
entry_eq x y =
    both_same kept_code x y _ _ (call_record_eq-Decides x.call y.call) (option_eq-Decides timer_eq-Decides x.timer y.timer)
    (λ p i. record { call = p.0 i; timer = p.1 i }) (λ e. (ap (λ z. z.call) e, ap (λ z. z.timer) e))

-- maps whose entries are the same
module _ {K X : Type 0} {R : K → K → Ordering} (o : IsTotalOrder R) (exact : IsAntisymmetric R) {E : K → K → Bool} {F : X → X → Bool} (keys : (a b : K) → Decides (E a b) (a ≡ b)) (values : (a b : X) → Decides (F a b) (a ≡ b)) (k : Coded (FinMap R X)) where
  pub listed_eq : (m n : BTreeMap K X) → IsOrdered R m → IsOrdered R n → pointwise (λ (p q : K × X). E p.0 q.0 && F p.1 q.1) m.entries n.entries ≡ is_same k (map.from_entries m.entries) (map.from_entries n.entries)
  listed_eq m n s t =
      let entries = pointwise (λ (p q : K × X). E p.0 q.0 && F p.1 q.1) m.entries n.entries in
      let back : map.from_entries {R = R} m.entries ≡ map.from_entries n.entries → m.entries ≡ n.entries =
      λ e. btree_map_from_get o m n s t (λ q. sym (get_listed o m.entries q) ∙ ap (λ l. map.get l q) e ∙ get_listed o n.entries q) exact in
      same_from_decides entries (is_same k (map.from_entries m.entries) (map.from_entries n.entries))
      (Decides-like entries (ap map.from_entries) back (btree_map_eq-Decides keys values m n entries refl)) (is_same-Decides k _ _)

-- tables of different sizes are different
pub sizes_differ : {A : Type 0} (k : Coded A) (x y : A) (size : A → ℕ) (a b : ℕ) → a ≡ size x → b ≡ size y → (a ≡ b → ⊥) → (a == b) ≡ is_same k x y
sizes_differ k x y size a b first second apart =
    same_from_decides (a == b) (is_same k x y)
    ((λ e. absurd (apart (eqb-true a b e))), λ e. eq-eqb a b (first ∙ ap size e ∙ sym second)) (is_same-Decides k x y)

-- an entry is told by its record and its timer
kept_both : (o p : Option Kept) → call_kept o ≡ call_kept p → timer_kept o ≡ timer_kept p → o ≡ p
kept_both None None records timers = refl
kept_both None (Some j) records timers = cc
kept_both (Some k) None records timers = cc
kept_both (Some k) (Some j) records timers = λ i. Some (record { call = same_Some k.call j.call records i; timer = timers i })

abbrev table_of : BTreeMap ℕ Kept → CallTable
table_of t = record { records = records_of t.entries; armed = armed_of t.entries }

entries_told : (m n : BTreeMap ℕ Kept) → IsOrdered nat_cmp m → IsOrdered nat_cmp n → table_of m ≡ table_of n → m.entries ≡ n.entries
entries_told m n s t e =
    btree_map_from_get nat_cmp_total m n s t (λ q. kept_both (lookup (is_at (nat_cmp q)) m.entries) (lookup (is_at (nat_cmp q)) n.entries)
    (sym (get_records m.entries q) ∙ ap (λ l. map.get l.records q) e ∙ get_records n.entries q)
    (sym (get_armed m.entries q) ∙ ap (λ l. map.get l.armed q) e ∙ get_armed n.entries q)) nat_cmp-IsAntisymmetric

pub calls_eq : (m n : BTreeMap ℕ Kept) → IsOrdered nat_cmp m → IsOrdered nat_cmp n → pointwise (λ (p q : ℕ × Kept). p.0 == q.0 && is_same kept_code p.1 q.1) m.entries n.entries ≡ is_same call_table_code (record { records = records_of m.entries; armed = armed_of m.entries }) (record { records = records_of n.entries; armed = armed_of n.entries })
calls_eq m n s t =
    let entries = pointwise (λ (p q : ℕ × Kept). p.0 == q.0 && is_same kept_code p.1 q.1) m.entries n.entries in
    same_from_decides entries (is_same call_table_code (table_of m) (table_of n))
    (Decides-like entries (ap (λ es. record { records = records_of es; armed = armed_of es })) (entries_told m n s t)
    (btree_map_eq-Decides unsigned_Decides (is_same-Decides kept_code) m n entries refl))
    (is_same-Decides call_table_code (table_of m) (table_of n))

-- what each map says together
pub state_eq : SameSitesAreEqual → (a b : State) → (((same_site a.site b.site && is_same channels_code a.channels b.channels) && is_same call_table_code (record { records = a.calls; armed = a.timers }) (record { records = b.calls; armed = b.timers })) && is_same references_code a.references b.references) ≡ is_same state_code a b
state_eq sites a b =
    both_same state_code a b _ _
    (Decides-and _ _ (Decides-and _ _ (sites a.site b.site) (is_same-Decides channels_code a.channels b.channels))
    (is_same-Decides call_table_code (record { records = a.calls; armed = a.timers }) (record { records = b.calls; armed = b.timers })))
    (is_same-Decides references_code a.references b.references)
    (λ p i. record { site = p.0.0.0 i; channels = p.0.0.1 i; calls = (p.0.1 i).records; references = p.1 i; timers = (p.0.1 i).armed })
    (λ e. (((ap (λ z. z.site) e, ap (λ z. z.channels) e), (λ i. record { records = (e i).calls; armed = (e i).timers })), ap (λ z. z.references) e))
