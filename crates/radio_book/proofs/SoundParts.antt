-- What the proofs that steps keep a book sound share: facts of states, and an attempt that comes to another stage.
use Rattle.std.proofs.Common.{◌≡◌, ◌≢◌, inl, inr, ℕ, true, Option, Some, None, refl, sym, ◌∙◌, ap}
use Rattle.std.specs.Ordering.{nat_cmp}
use Rattle.std.specs.Option.{option_map}
use Rattle.std.specs.FinMap as map
use Rattle.std.specs.FinMap.{FinMap}
use Rattle.std.specs.Cmp.{nat_cmp_total}
use Rattle.channel_fsm.specs.declared.ChanId.{ChanId}
use Rattle.channel_fsm.specs.declared.ChanState.{ChanState}
use Rattle.channel_fsm.specs.declared.ChanState.TheVariants.{Free}
use Rattle.radio_tables.specs.declared.kinds.AttemptKind.{AttemptKind}
use Rattle.radio_tables.specs.declared.kinds.AttemptKind.TheVariants.{Internal, Incoming, Outgoing}
use Rattle.radio_tables.specs.declared.kinds.Stage.{Stage}
use Rattle.radio_tables.specs.declared.kinds.CallRecord.{CallRecord}
use Rattle.dense_tables.specs.declared.references.Reference.{Reference}
use Rattle.attempt_journal.specs.declared.Timer.{Timer}
use Rattle.cell_table.specs.Site.{is_traffic}
use Rattle.radio_tables.specs.Maps.{Entry, put, with_change}
use Rattle.radio_book.specs.State.{State, Change, apply, or_free, state_of, record_of}
use Rattle.radio_book.specs.Table.{owner, with_entry}
use Rattle.radio_book.specs.Sound.{IsSound, IsStageOf, HasTarget, HasServing, HasReference, armed_in}
use Rattle.radio_tables.specs.Stages.{stage_row}
use Rattle.radio_tables.proofs.MapFacts.{get_put_same, state_same, state_other, record_same}
use Rattle.radio_book.proofs.Frame.{same_some, at_some, Stands, Touches, AtKey, call_of, attempting, attempt_of, attempting_call, target_owned, target_stays, concerned_sound}

-- facts of states

-- two calls that a state names are one
pub one_owner : (s : ChanState) (c d : ℕ) → owner s ≡ Some c → owner s ≡ Some d → d ≡ c
one_owner s c d h g = same_some d c (sym g ∙ h)

pub owned_not_free : (s : ChanState) (c : ℕ) → owner s ≡ Some c → s ≢ Free
owned_not_free s c h f = let bad : None ≡ Some c = sym (ap owner f) ∙ h in cc

-- a channel that isn't free has an entry
pub listed : (b : State) → IsSound b → (x : ChanId) (o : Option ChanState) → map.get b.channels x ≡ o → or_free o ≢ Free → is_traffic b.site x ≡ true
listed b sound x None e used = absurd (used refl)
listed b sound x (Some s) e used = sound.is_traffic x s e

pub owned_traffic : (b : State) → IsSound b → (x : ChanId) (c : ℕ) → owner (state_of b x) ≡ Some c → is_traffic b.site x ≡ true
owned_traffic b sound x c h = listed b sound x (map.get b.channels x) refl (owned_not_free (state_of b x) c h)

-- what a channel becomes, when that isn't free
pub state_fits : (b : State) (x : ChanId) (v : ChanState) → is_traffic b.site x ≡ true → v ≢ Free → Stands b x → (s : ChanState) → Some v ≡ Some s → (is_traffic b.site x ≡ true) × (s ≢ Free) × Stands b x
state_fits b x v traffic used stands s h = (traffic, at_some (λ z. z ≢ Free) v s used h, stands)

-- a change that leaves the timers as they are
abbrev pub changes : Option (Entry ChanId ChanState) → Option (Entry ℕ CallRecord) → Option (Entry Reference ℕ) → Change
changes channel call reference = record { channel = channel; call = call; reference = reference; timer = None }

-- a call on its serving channel, without an attempt
abbrev pub rests : ChanId → CallRecord
rests x = record { serving = Some x; attempt = None }

-- changes that depend on what may not be there

pub at_option : {A K X : Type 0} (f : A → Entry K X) (o : Option A) (P : K → Option X → Type 0) → ((v : A) → o ≡ Some v → P (f v).0 (f v).1) → AtKey (option_map f o) P
at_option f None P p = tt
at_option f (Some v) P p = p v refl

pub touched_at : {A K X : Type 0} (f : A → Entry K X) (o : Option A) (v : A) → o ≡ Some v → Touches (option_map f o) (f v).0
touched_at f None v e = cc
touched_at f (Some w) v e = ap (λ z. (f z).0) (sym (same_some w v e))

-- a channel that may not be there is not another
pub other_than : {X : Type 0} (f : ChanId → Option X) (o : Option ChanId) (y : ChanId) → ((t : ChanId) → o ≡ Some t → y ≢ t) → Touches (option_map (λ t. (t, f t)) o) y → ⊥
other_than f None y other touched = touched
other_than f (Some t) y other touched = other t refl touched

-- a timer that is taken away, if there is one
pub disarmed : (m : FinMap nat_cmp Timer) (c : ℕ) (o : Option Timer) → map.get m c ≡ o → map.get (with_change m (option_map (λ t. (c, None)) o)) c ≡ None
disarmed m c None e = e
disarmed m c (Some t) e = get_put_same nat_cmp_total m c None

-- a new stage of an attempt

pub serving_apart : (c : ℕ) (o : Option ChanId) (look seen : ChanId → ChanState) → ((x : ChanId) → ((t : ChanId) → o ≡ Some t → x ≢ t) → seen x ≡ look x) → (k : AttemptKind) (s : Option ChanId) → ((x y : ChanId) → s ≡ Some x → o ≡ Some y → x.cell ≢ y.cell) → HasServing c k s look → HasServing c k s seen
serving_apart c o look seen same Internal None apart h = h
serving_apart c o look seen same Internal (Some x) apart h = same x (λ t aims e. apart x t refl aims (ap (λ z. z.cell) e)) ∙ h
serving_apart c o look seen same Incoming s apart h = h
serving_apart c o look seen same Outgoing None apart h = h
serving_apart c o look seen same Outgoing (Some x) apart h = same x (λ t aims e. apart x t refl aims (ap (λ z. z.cell) e)) ∙ h

-- what a stage says of an attempt of this kind with this reference
pub record IsAt (k : AttemptKind) (n : Option ℕ) (h : Stage) : Type 0 where
  pub stage_of_kind : IsStageOf k (stage_row h).target
  pub reference_by_stage : HasReference (stage_row h).has_reference n

-- and the target comes to another state
pub staged : (b : State) → IsSound b → (c : ℕ) (s : Option ChanId) (k : AttemptKind) (g : Stage) (t : ChanId) (n : Option ℕ) → record_of b c ≡ Some (attempting s k g (Some t) n) → (h : Stage) (v : ChanState) → HasTarget c (stage_row h).target (Some t) (λ y. v) → (stage_row g).timer ≡ (stage_row h).timer → IsAt k n h →
    IsSound (apply (changes (with_entry t v) (with_entry c (attempting s k h (Some t) n)) None) b)
staged b sound c s k g t n e h v is timers at =
    let has = attempt_of _ _ c s k g (Some t) n (call_of b sound c _ e) in
    let owned : owner (state_of b t) ≡ Some c = target_owned c (state_of b) t g has.state in
    let owned_after : owner v ≡ Some c = target_owned c (λ y. v) t h is in
    concerned_sound b sound (changes (with_entry t v) (with_entry c (attempting s k h (Some t) n)) None) c (Some (attempting s k g (Some t) n)) (Some (attempting s k h (Some t) n)) (record {
      before = e;
      after = record_same b.calls c (Some (attempting s k h (Some t) n));
      call = refl;
      channel_was = λ d u. one_owner (state_of b t) c d owned u;
      channel_is = λ d u. (one_owner v c d owned_after u, inr refl);
      entry = state_fits b t v (owned_traffic b sound t c owned) (owned_not_free v c owned_after) (inl (owned_not_free (state_of b t) c owned));
      channels = λ y t u. u;
      reference_was = tt;
      reference_is = tt;
      references = λ j t u. u;
      sound = attempting_call _ _ c s k h (Some t) n (record {
        stage_of_kind = at.stage_of_kind;
        state = target_stays c (λ y. v) _ (stage_row h).target (Some t) (λ z aims. ap (λ y. or_free (map.get (put b.channels t (Some v)) y)) (sym (same_some t z aims)) ∙ state_same b.channels t (Some v)) is;
        cells_differ = has.cells_differ;
        serving_while_open = serving_apart c (Some t) (state_of b) _ (λ x other. state_other b.channels t (Some v) x (other t refl)) k s has.cells_differ has.serving_while_open;
        reference_is_used = has.reference_is_used;
        reference_by_stage = at.reference_by_stage;
      });
      timer = tt;
      armed = sound.timers c ∙ ap armed_in e ∙ timers;
    })

-- and the timer is another
pub restaged : (b : State) → IsSound b → (c : ℕ) (s : Option ChanId) (k : AttemptKind) (g : Stage) (o : Option ChanId) (n : Option ℕ) → record_of b c ≡ Some (attempting s k g o n) → (h : Stage) → HasTarget c (stage_row h).target o (state_of b) → (timer : Option (Entry ℕ Timer)) → AtKey timer (λ d v. d ≡ c) → map.get (with_change b.timers timer) c ≡ (stage_row h).timer → IsAt k n h →
    IsSound (apply (record { channel = None; call = with_entry c (attempting s k h o n); reference = None; timer = timer }) b)
restaged b sound c s k g o n e h is timer concerned armed at =
    let has = attempt_of _ _ c s k g o n (call_of b sound c _ e) in
    concerned_sound b sound (record { channel = None; call = with_entry c (attempting s k h o n); reference = None; timer = timer }) c (Some (attempting s k g o n)) (Some (attempting s k h o n)) (record {
      before = e;
      after = record_same b.calls c (Some (attempting s k h o n));
      call = refl;
      channel_was = tt;
      channel_is = tt;
      entry = tt;
      channels = λ y t u. u;
      reference_was = tt;
      reference_is = tt;
      references = λ j t u. u;
      sound = attempting_call _ _ c s k h o n (record {
        stage_of_kind = at.stage_of_kind;
        state = is;
        cells_differ = has.cells_differ;
        serving_while_open = has.serving_while_open;
        reference_is_used = has.reference_is_used;
        reference_by_stage = at.reference_by_stage;
      });
      timer = concerned;
      armed = armed;
    })

-- a kind that has a stage with a target has every such stage
pub aims_always : (k : AttemptKind) (one other : ℕ → ChanState) → IsStageOf k (Some one) → IsStageOf k (Some other)
aims_always Internal one other h = tt
aims_always Incoming one other h = tt
aims_always Outgoing one other h = absurd h
