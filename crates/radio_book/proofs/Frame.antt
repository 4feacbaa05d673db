-- What has to be known of a change of one call, one channel and one reference, so that the book after it is sound.
use Rattle.std.proofs.Common.{◌≡◌, ◌≢◌, ◌⊎◌, inl, inr, ℕ, true, Option, Some, None, IsSome, refl, sym, ◌∙◌, ap, subst}
use Rattle.std.specs.declared.cmp.Ordering.{Ordering}
use Rattle.std.specs.Cmp.{IsTotalOrder, nat_cmp_total}
use Rattle.std.specs.FinMap as map
use Rattle.std.specs.FinMap.{FinMap, IsAntisymmetric, nat_cmp-IsAntisymmetric}
use Rattle.channel_fsm.specs.declared.ChanId.{ChanId}
use Rattle.channel_fsm.specs.declared.ChanState.{ChanState}
use Rattle.timeslots.specs.declared.Sub.TheVariants.{Full}
use Rattle.channel_fsm.specs.Slots.{Conflicts}
use Rattle.channel_fsm.proofs.WayFacts.{all_free}
use Rattle.channel_fsm.specs.declared.ChanState.TheVariants.{Free, On}
use Rattle.radio_tables.specs.declared.kinds.AttemptKind.{AttemptKind}
use Rattle.radio_tables.specs.declared.kinds.AttemptKind.TheVariants.{Internal, Incoming, Outgoing}
use Rattle.radio_tables.specs.declared.kinds.Stage.{Stage}
use Rattle.radio_tables.specs.declared.kinds.Stage.TheVariants.{Taken, Reserved, Sent, Refused, Confirmed, Commanded, Detected, Required, Ordered}
use Rattle.radio_tables.specs.declared.kinds.Attempt.{Attempt}
use Rattle.radio_tables.specs.declared.kinds.CallRecord.{CallRecord}
use Rattle.dense_tables.specs.declared.references.Reference.{Reference}
use Rattle.cell_table.specs.Site.{is_traffic}
use Rattle.radio_tables.specs.Maps.{Entry, put, with_change}
use Rattle.radio_book.specs.State.{State, Change, apply, or_free, state_of, record_of}
use Rattle.radio_tables.specs.Stages.{stage_row}
use Rattle.radio_book.specs.Table.{in_way, owner, reference_held}
use Rattle.radio_book.specs.Sound.{IsSound, Uses, target_in, reference_of, IsStageOf, HasTarget, HasServing, HasReference, armed_in}
use Rattle.radio_tables.proofs.KeyFacts.{chan_total, chan_exact, reference_total, reference_exact}
use Rattle.radio_tables.proofs.MapFacts.{key_cases, get_put_same, get_put_other, call_cases}

pub same_some : {X : Type 0} (x y : X) → Some x ≡ Some y → x ≡ y
same_some x y e = cc

-- what holds of the one value that an option has
pub at_some : {X : Type 0} (P : X → Type 0) (x y : X) → P x → Some x ≡ Some y → P y
at_some P x y p e = subst P (same_some x y e) p

-- the change is of this key
abbrev pub Touches : {K X : Type 0} → Option (Entry K X) → K → Type 0
Touches None q = ⊥
Touches (Some e) q = q ≡ e.0

-- this holds of the key that is changed, if any, and of what it gets
abbrev pub AtKey : {K X : Type 0} → Option (Entry K X) → (K → Option X → Type 0) → Type 0
AtKey None P = Unit {0}
AtKey (Some e) P = P e.0 e.1

module _ {K X : Type 0} {R : K → K → Ordering} (o : IsTotalOrder R) (exact : IsAntisymmetric R) where
  pub get_untouched : (m : FinMap R X) (e : Option (Entry K X)) (q : K) → (Touches e q → ⊥) → map.get (with_change m e) q ≡ map.get m q
  get_untouched m None q other = refl
  get_untouched m (Some e) q other = get_put_other o exact m e.0 e.1 q other

  -- at a key that is changed stands what it gets, at another what stood there
  pub get-with_change : (m : FinMap R X) (e : Option (Entry K X)) (P : K → Option X → Type 0) (q : K) → AtKey e P → (P q (map.get (with_change m e) q) × Touches e q) ⊎ ((Touches e q → ⊥) × (map.get (with_change m e) q ≡ map.get m q))
  get-with_change m None P q p = inr (λ t. t, refl)
  get-with_change m (Some e) P q p = elim (key_cases o exact q e.0) [
    | inl same ↦ inl (subst (λ k. P k (map.get (put m e.0 e.1) k)) (sym same) (subst (P e.0) (sym (get_put_same o m e.0 e.1)) p), same)
    | inr other ↦ inr (other, get_put_other o exact m e.0 e.1 q other)
  ]

-- what a sound book says of one call
pub record IsCallSound (look : ChanId → ChanState) (user : Reference → Option ℕ) (c : ℕ) (r : CallRecord) : Type 0 where
  pub serving_is_owned : (x : ChanId) → r.serving ≡ Some x → owner (look x) ≡ Some c
  pub stage_of_kind : (a : Attempt) → r.attempt ≡ Some a → IsStageOf a.kind (stage_row a.stage).target
  pub target_by_stage : (a : Attempt) → r.attempt ≡ Some a → HasTarget c (stage_row a.stage).target a.target look
  pub cells_differ : (x y : ChanId) → r.serving ≡ Some x → target_in r ≡ Some y → x.cell ≢ y.cell
  pub serving_while_open : (a : Attempt) → r.attempt ≡ Some a → HasServing c a.kind r.serving look
  pub serving_at_rest : r.attempt ≡ None → IsSome r.serving
  pub reference_is_used : (k : Reference) → reference_of r.attempt ≡ Some k → user k ≡ Some c
  pub reference_by_stage : (a : Attempt) → r.attempt ≡ Some a → HasReference (stage_row a.stage).has_reference a.reference

pub call_of : (b : State) → IsSound b → (c : ℕ) (r : CallRecord) → record_of b c ≡ Some r → IsCallSound (state_of b) (map.get b.references) c r
call_of b sound c r e = record {
  serving_is_owned = λ x h. sound.serving_is_owned c r x e h;
  stage_of_kind = λ a h. sound.stage_of_kind c r a e h;
  target_by_stage = λ a h. sound.target_by_stage c r a e h;
  cells_differ = λ x y h g. sound.cells_differ c r x y e h g;
  serving_while_open = λ a h. sound.serving_while_open c r a e h;
  serving_at_rest = λ h. sound.serving_at_rest c r e h;
  reference_is_used = λ k h. sound.reference_is_used c r k e h;
  reference_by_stage = λ a h. sound.reference_by_stage c r a e h;
}

-- the call of an attempt owns its target
pub target_owned : (c : ℕ) (look : ChanId → ChanState) (t : ChanId) (g : Stage) → HasTarget c (stage_row g).target (Some t) look → owner (look t) ≡ Some c
target_owned c look t Taken h = ap owner h
target_owned c look t Reserved h = ap owner h
target_owned c look t Sent h = ap owner h
target_owned c look t Refused h = ap owner h
target_owned c look t Confirmed h = ap owner h
target_owned c look t Commanded h = ap owner h
target_owned c look t Detected h = ap owner h
target_owned c look t Required h = absurd h
target_owned c look t Ordered h = absurd h

pub aimed_is_owned : (b : State) → IsSound b → (c : ℕ) (r : CallRecord) (a : Attempt) (t : ChanId) → record_of b c ≡ Some r → r.attempt ≡ Some a → a.target ≡ Some t → owner (state_of b t) ≡ Some c
aimed_is_owned b sound c r a t known opened aims =
    target_owned c (state_of b) t a.stage (subst (λ o. HasTarget c (stage_row a.stage).target o (state_of b)) aims (sound.target_by_stage c r a known opened))

pub target_stays : (c : ℕ) (look seen : ChanId → ChanState) (said : Option (ℕ → ChanState)) (o : Option ChanId) → ((t : ChanId) → o ≡ Some t → seen t ≡ look t) → HasTarget c said o look → HasTarget c said o seen
target_stays c look seen None None same h = h
target_stays c look seen None (Some t) same h = h
target_stays c look seen (Some state) None same h = h
target_stays c look seen (Some state) (Some t) same h = same t refl ∙ h

serving_stays : (c : ℕ) (look seen : ChanId → ChanState) → ((x : ChanId) → owner (look x) ≡ Some c → seen x ≡ look x) → (k : AttemptKind) (s : Option ChanId) → HasServing c k s look → HasServing c k s seen
serving_stays c look seen same Internal None h = h
serving_stays c look seen same Internal (Some x) h = same x (ap owner h) ∙ h
serving_stays c look seen same Incoming s h = h
serving_stays c look seen same Outgoing None h = h
serving_stays c look seen same Outgoing (Some x) h = same x (ap owner h) ∙ h

-- a call whose channels and references stay, stays sound
pub call_stays : (look seen : ChanId → ChanState) (user used : Reference → Option ℕ) (c : ℕ) (r : CallRecord) → ((x : ChanId) → owner (look x) ≡ Some c → seen x ≡ look x) → ((k : Reference) → user k ≡ Some c → used k ≡ Some c) → IsCallSound look user c r → IsCallSound seen used c r
call_stays look seen user used c r same kept is = record {
  serving_is_owned = λ x h. ap owner (same x (is.serving_is_owned x h)) ∙ is.serving_is_owned x h;
  stage_of_kind = is.stage_of_kind;
  target_by_stage = λ a h. target_stays c look seen (stage_row a.stage).target a.target
      (λ t aims. same t (target_owned c look t a.stage (subst (λ o. HasTarget c (stage_row a.stage).target o look) aims (is.target_by_stage a h)))) (is.target_by_stage a h);
  cells_differ = is.cells_differ;
  serving_while_open = λ a h. serving_stays c look seen same a.kind r.serving (is.serving_while_open a h);
  serving_at_rest = is.serving_at_rest;
  reference_is_used = λ k h. kept k (is.reference_is_used k h);
  reference_by_stage = is.reference_by_stage;
}

-- a call without an attempt, and one with an attempt, by their parts

pub resting_call : (look : ChanId → ChanState) (user : Reference → Option ℕ) (c : ℕ) (x : ChanId) → owner (look x) ≡ Some c → IsCallSound look user c (record { serving = Some x; attempt = None })
resting_call look user c x owned = record {
  serving_is_owned = λ y h. at_some (λ z. owner (look z) ≡ Some c) x y owned h;
  stage_of_kind = λ a h. cc;
  target_by_stage = λ a h. cc;
  cells_differ = λ y z h g. cc;
  serving_while_open = λ a h. cc;
  serving_at_rest = λ h. refl;
  reference_is_used = λ k h. cc;
  reference_by_stage = λ a h. cc;
}

abbrev pub attempting : Option ChanId → AttemptKind → Stage → Option ChanId → Option ℕ → CallRecord
attempting s k g o n = record { serving = s; attempt = Some (record { kind = k; stage = g; target = o; reference = n }) }

pub record HasAttempt (look : ChanId → ChanState) (user : Reference → Option ℕ) (c : ℕ) (s : Option ChanId) (k : AttemptKind) (g : Stage) (o : Option ChanId) (n : Option ℕ) : Type 0 where
  pub stage_of_kind : IsStageOf k (stage_row g).target
  pub state : HasTarget c (stage_row g).target o look
  pub cells_differ : (x y : ChanId) → s ≡ Some x → o ≡ Some y → x.cell ≢ y.cell
  pub serving_while_open : HasServing c k s look
  pub reference_is_used : (j : Reference) → reference_held o n ≡ Some j → user j ≡ Some c
  pub reference_by_stage : HasReference (stage_row g).has_reference n

pub attempt_of : (look : ChanId → ChanState) (user : Reference → Option ℕ) (c : ℕ) (s : Option ChanId) (k : AttemptKind) (g : Stage) (o : Option ChanId) (n : Option ℕ) → IsCallSound look user c (attempting s k g o n) → HasAttempt look user c s k g o n
attempt_of look user c s k g o n is = record {
  stage_of_kind = is.stage_of_kind _ refl;
  state = is.target_by_stage _ refl;
  cells_differ = λ x y h aims. is.cells_differ x y h aims;
  serving_while_open = is.serving_while_open _ refl;
  reference_is_used = λ j h. is.reference_is_used j h;
  reference_by_stage = is.reference_by_stage _ refl;
}

serving_owned : (c : ℕ) (look : ChanId → ChanState) (k : AttemptKind) (s : Option ChanId) → HasServing c k s look → (x : ChanId) → s ≡ Some x → owner (look x) ≡ Some c
serving_owned c look Internal None h x e = absurd h
serving_owned c look Internal (Some y) h x e = at_some (λ z. owner (look z) ≡ Some c) y x (ap owner h) e
serving_owned c look Incoming s h x e = cc
serving_owned c look Outgoing None h x e = absurd h
serving_owned c look Outgoing (Some y) h x e = at_some (λ z. owner (look z) ≡ Some c) y x (ap owner h) e

-- the serving channel is on while an attempt is open
pub serving_is_on : (c : ℕ) (look : ChanId → ChanState) (k : AttemptKind) (s : Option ChanId) (x : ChanId) → HasServing c k s look → s ≡ Some x → look x ≡ On c
serving_is_on c look Internal None x on serves = absurd on
serving_is_on c look Internal (Some y) x on serves = ap look (sym (same_some y x serves)) ∙ on
serving_is_on c look Incoming s x on serves = let bad : None ≡ Some x = sym on ∙ serves in cc
serving_is_on c look Outgoing None x on serves = absurd on
serving_is_on c look Outgoing (Some y) x on serves = ap look (sym (same_some y x serves)) ∙ on

pub attempting_call : (look : ChanId → ChanState) (user : Reference → Option ℕ) (c : ℕ) (s : Option ChanId) (k : AttemptKind) (g : Stage) (o : Option ChanId) (n : Option ℕ) → HasAttempt look user c s k g o n → IsCallSound look user c (attempting s k g o n)
attempting_call look user c s k g o n has = record {
  serving_is_owned = λ x h. serving_owned c look k s has.serving_while_open x h;
  stage_of_kind = λ a h. at_some (λ (a : Attempt). IsStageOf a.kind (stage_row a.stage).target) _ a has.stage_of_kind h;
  target_by_stage = λ a h. at_some (λ (a : Attempt). HasTarget c (stage_row a.stage).target a.target look) _ a has.state h;
  cells_differ = λ x y h e. has.cells_differ x y h e;
  serving_while_open = λ a h. at_some (λ (a : Attempt). HasServing c a.kind s look) _ a has.serving_while_open h;
  serving_at_rest = λ h. cc;
  reference_is_used = λ j h. has.reference_is_used j h;
  reference_by_stage = λ a h. at_some (λ (a : Attempt). HasReference (stage_row a.stage).has_reference a.reference) _ a has.reference_by_stage h;
}

-- a call's record, if it has one, uses the channel; has the reference; is sound

abbrev pub UsedBy : Option CallRecord → ChanId → Type 0
UsedBy None x = ⊥
UsedBy (Some r) x = Uses r x

abbrev pub ReferredBy : Option CallRecord → Reference → Type 0
ReferredBy None k = ⊥
ReferredBy (Some r) k = reference_of r.attempt ≡ Some k

abbrev pub SoundIfAny : (ChanId → ChanState) → (Reference → Option ℕ) → ℕ → Option CallRecord → Type 0
SoundIfAny look user c None = Unit {0}
SoundIfAny look user c (Some r) = IsCallSound look user c r

-- a channel may have an entry: it has one, or nothing is in its way
abbrev pub Stands : State → ChanId → Type 0
Stands b x = (state_of b x ≢ Free) ⊎ (in_way b x ≡ None)

-- in whose way nothing is is free
pub way_free : (b : State) (x : ChanId) → in_way b x ≡ None → state_of b x ≡ Free
way_free b x none = all_free (state_of b) x none x (inl refl)

turned : {x y : ChanId} → Conflicts x y → Conflicts y x
turned {x} {y} clash = record { cell = sym clash.cell; trx = sym clash.trx; timeslot = sym clash.timeslot; differ = λ e. clash.differ (sym e); whole = other clash.whole }
  where
    other : (x.sub ≡ Full) ⊎ (y.sub ≡ Full) → (y.sub ≡ Full) ⊎ (x.sub ≡ Full)
    other (inl e) = inr e
    other (inr e) = inl e

same_touch : {K X : Type 0} (e : Option (Entry K X)) (x y : K) → Touches e x → Touches e y → x ≡ y
same_touch None x y t u = absurd t
same_touch (Some e) x y t u = t ∙ sym u

-- what has to be known of a change which concerns one call, whose record this was and that will be
pub record Concerns (b : State) (change : Change) (c : ℕ) (was is : Option CallRecord) : Type 0 where
  pub before : record_of b c ≡ was
  pub after : record_of (apply change b) c ≡ is
  -- no other call is changed
  pub call : AtKey change.call (λ d v. d ≡ c)
  -- the channel was of no other call, and is of none
  pub channel_was : AtKey change.channel (λ x v. (d : ℕ) → owner (state_of b x) ≡ Some d → d ≡ c)
  pub channel_is : AtKey change.channel (λ x v. (d : ℕ) → owner (or_free v) ≡ Some d → (d ≡ c) × UsedBy is x)
  pub entry : AtKey change.channel (λ x v. (s : ChanState) → v ≡ Some s → (is_traffic b.site x ≡ true) × (s ≢ Free) × Stands b x)
  -- the call goes on using its other channels
  pub channels : (x : ChanId) → (Touches change.channel x → ⊥) → UsedBy was x → UsedBy is x
  -- the reference was of no other call, and is of none
  pub reference_was : AtKey change.reference (λ k v. (d : ℕ) → map.get b.references k ≡ Some d → d ≡ c)
  pub reference_is : AtKey change.reference (λ k v. (d : ℕ) → v ≡ Some d → (d ≡ c) × ReferredBy is k)
  -- the call keeps its other references
  pub references : (k : Reference) → (Touches change.reference k → ⊥) → ReferredBy was k → ReferredBy is k
  pub sound : SoundIfAny (state_of (apply change b)) (map.get (apply change b).references) c is
  -- no other timer is changed, and that of the call is the one that its stage says
  pub timer : AtKey change.timer (λ d v. d ≡ c)
  pub armed : map.get (apply change b).timers c ≡ armed_in is

module _ (b : State) (sound : IsSound b) (change : Change) (c : ℕ) (was is : Option CallRecord) (concerns : Concerns b change c was is) where
  abbrev b' : State
  b' = apply change b

  other_call : (d : ℕ) → d ≢ c → record_of b' d ≡ record_of b d
  other_call d other = elim (get-with_change nat_cmp_total nat_cmp-IsAntisymmetric b.calls change.call (λ e v. e ≡ c) d concerns.call) [
    | inl (same, t) ↦ absurd (other same)
    | inr (t, same) ↦ same
  ]

  other_channel : (d : ℕ) → d ≢ c → (x : ChanId) → owner (state_of b x) ≡ Some d → state_of b' x ≡ state_of b x
  other_channel d other x owned = elim (get-with_change chan_total chan_exact b.channels change.channel (λ x v. (d : ℕ) → owner (state_of b x) ≡ Some d → d ≡ c) x concerns.channel_was) [
    | inl (was, t) ↦ absurd (other (was d owned))
    | inr (t, same) ↦ ap or_free same
  ]

  other_reference : (d : ℕ) → d ≢ c → (k : Reference) → map.get b.references k ≡ Some d → map.get b'.references k ≡ Some d
  other_reference d other k used = elim (get-with_change reference_total reference_exact b.references change.reference (λ k v. (d : ℕ) → map.get b.references k ≡ Some d → d ≡ c) k concerns.reference_was) [
    | inl (was, t) ↦ absurd (other (was d used))
    | inr (t, same) ↦ same ∙ used
  ]

  timers : (d : ℕ) → map.get b'.timers d ≡ armed_in (record_of b' d)
  timers d = elim (call_cases d c) [
    | inl at ↦ ap (map.get b'.timers) at ∙ concerns.armed ∙ ap armed_in (sym concerns.after) ∙ ap (λ z. armed_in (record_of b' z)) (sym at)
    | inr other ↦ elim (get-with_change nat_cmp_total nat_cmp-IsAntisymmetric b.timers change.timer (λ e v. e ≡ c) d concerns.timer) [
      | inl (same, t) ↦ absurd (other same)
      | inr (t, same) ↦ same ∙ sound.timers d ∙ ap armed_in (sym (other_call d other))
    ]
  ]

  calls : (d : ℕ) (r : CallRecord) → record_of b' d ≡ Some r → IsCallSound (state_of b') (map.get b'.references) d r
  calls d r e = elim (call_cases d c) [
    | inl same ↦ subst (λ z. IsCallSound (state_of b') (map.get b'.references) z r) (sym same)
        (subst (SoundIfAny (state_of b') (map.get b'.references) c) (sym concerns.after ∙ ap (record_of b') (sym same) ∙ e) concerns.sound)
    | inr other ↦ call_stays (state_of b) (state_of b') (map.get b.references) (map.get b'.references) d r (other_channel d other) (other_reference d other)
        (call_of b sound d r (sym (other_call d other) ∙ e))
  ]

  user_of : (o : Option CallRecord) → record_of b' c ≡ o → (d : ℕ) → d ≡ c → (x : ChanId) → UsedBy o x → (r : CallRecord) × (record_of b' d ≡ Some r) × Uses r x
  user_of None e d same x used = absurd used
  user_of (Some r) e d same x used = (r, ap (record_of b') same ∙ e, used)

  referrer_of : (o : Option CallRecord) → record_of b' c ≡ o → (d : ℕ) → d ≡ c → (k : Reference) → ReferredBy o k → (r : CallRecord) × (record_of b' d ≡ Some r) × (reference_of r.attempt ≡ Some k)
  referrer_of None e d same k has = absurd has
  referrer_of (Some r) e d same k has = (r, ap (record_of b') same ∙ e, has)

  owner_uses : (x : ChanId) (d : ℕ) → owner (state_of b' x) ≡ Some d → (r : CallRecord) × (record_of b' d ≡ Some r) × Uses r x
  owner_uses x d owned = elim (get-with_change chan_total chan_exact b.channels change.channel (λ x v. (d : ℕ) → owner (or_free v) ≡ Some d → (d ≡ c) × UsedBy is x) x concerns.channel_is) [
    | inl (now, t) ↦ let n = now d owned in user_of is concerns.after d n.0 x n.1
    | inr (t, same) ↦ let n = sound.owner_uses x d (sym (ap (λ o. owner (or_free o)) same) ∙ owned) in elim (call_cases d c) [
      | inl at ↦ user_of is concerns.after d at x (concerns.channels x t (subst (λ o. UsedBy o x) (sym n.1 ∙ ap (record_of b) at ∙ concerns.before) n.2))
      | inr other ↦ (n.0, other_call d other ∙ n.1, n.2)
    ]
  ]

  user_has_reference : (k : Reference) (d : ℕ) → map.get b'.references k ≡ Some d → (r : CallRecord) × (record_of b' d ≡ Some r) × (reference_of r.attempt ≡ Some k)
  user_has_reference k d used = elim (get-with_change reference_total reference_exact b.references change.reference (λ k v. (d : ℕ) → v ≡ Some d → (d ≡ c) × ReferredBy is k) k concerns.reference_is) [
    | inl (now, t) ↦ let n = now d used in referrer_of is concerns.after d n.0 k n.1
    | inr (t, same) ↦ let n = sound.user_has_reference k d (sym same ∙ used) in elim (call_cases d c) [
      | inl at ↦ referrer_of is concerns.after d at k (concerns.references k t (subst (λ o. ReferredBy o k) (sym n.1 ∙ ap (record_of b) at ∙ concerns.before) n.2))
      | inr other ↦ (n.0, other_call d other ∙ n.1, n.2)
    ]
  ]

  entries : (x : ChanId) (s : ChanState) → map.get b'.channels x ≡ Some s → (is_traffic b.site x ≡ true) × (s ≢ Free)
  entries x s e = elim (get-with_change chan_total chan_exact b.channels change.channel (λ x v. (s : ChanState) → v ≡ Some s → (is_traffic b.site x ≡ true) × (s ≢ Free) × Stands b x) x concerns.entry) [
    | inl (now, t) ↦ let n = now s e in (n.0, n.1)
    | inr (t, same) ↦ (sound.is_traffic x s (sym same ∙ e), sound.not_free x s (sym same ∙ e))
  ]

  entry_used : (x : ChanId) (s : ChanState) → map.get b.channels x ≡ Some s → state_of b x ≢ Free
  entry_used x s e free = sound.not_free x s e (sym (ap or_free e) ∙ free)

  stands_alone : (x y : ChanId) (t : ChanState) → Stands b x → map.get b.channels y ≡ Some t → Conflicts x y → ⊥
  stands_alone x y t (inl used) f clash = by (map.get b.channels x) refl
    where
      by : (o : Option ChanState) → map.get b.channels x ≡ o → ⊥
      by None e = used (ap or_free e)
      by (Some s) e = sound.apart x y s t e f clash
  stands_alone x y t (inr none) f clash = entry_used y t f (all_free (state_of b) x none y (inr (turned clash)))

  apart : (x y : ChanId) (s t : ChanState) → map.get b'.channels x ≡ Some s → map.get b'.channels y ≡ Some t → Conflicts x y → ⊥
  apart x y s t e f clash =
      elim (get-with_change chan_total chan_exact b.channels change.channel (λ x v. (s : ChanState) → v ≡ Some s → (is_traffic b.site x ≡ true) × (s ≢ Free) × Stands b x) x concerns.entry) [
        | inl (now, touched) ↦ elim (get-with_change chan_total chan_exact b.channels change.channel (λ x v. (s : ChanState) → v ≡ Some s → (is_traffic b.site x ≡ true) × (s ≢ Free) × Stands b x) y concerns.entry) [
          | inl (there, too) ↦ clash.differ (same_touch change.channel x y touched too)
          | inr (t', same) ↦ let n = now s e in stands_alone x y t n.2 (sym same ∙ f) clash
        ]
        | inr (s', same) ↦ elim (get-with_change chan_total chan_exact b.channels change.channel (λ x v. (s : ChanState) → v ≡ Some s → (is_traffic b.site x ≡ true) × (s ≢ Free) × Stands b x) y concerns.entry) [
          | inl (there, too) ↦ let n = there t f in stands_alone y x s n.2 (sym same ∙ e) (turned clash)
          | inr (t', as_before) ↦ sound.apart x y s t (sym same ∙ e) (sym as_before ∙ f) clash
        ]
      ]

  pub concerned_sound : IsSound (apply change b)
  concerned_sound = record {
    is_traffic = λ x s e. (entries x s e).0;
    not_free = λ x s e. (entries x s e).1;
    apart = apart;
    owner_uses = owner_uses;
    serving_is_owned = λ d r x e h. (calls d r e).serving_is_owned x h;
    stage_of_kind = λ d r a e h. (calls d r e).stage_of_kind a h;
    target_by_stage = λ d r a e h. (calls d r e).target_by_stage a h;
    cells_differ = λ d r x y e h g. (calls d r e).cells_differ x y h g;
    serving_while_open = λ d r a e h. (calls d r e).serving_while_open a h;
    serving_at_rest = λ d r e h. (calls d r e).serving_at_rest h;
    reference_is_used = λ d r k e h. (calls d r e).reference_is_used k h;
    user_has_reference = user_has_reference;
    reference_by_stage = λ d r a e h. (calls d r e).reference_by_stage a h;
    timers = timers;
  }
