-- What an open attempt hides, and what its target hides once it is off: in both phases the rows of others agree.
use Rattle.std.proofs.Common.{◌≡◌, ◌≢◌, inl, inr, ℕ, false, Option, Some, None, refl, sym, ◌∙◌, ap, subst}
use Rattle.std.specs.Option.{option_map, option_and_then}
use Rattle.std.specs.FinMap as map
use Rattle.std.proofs.lemmas.Option.{same_Some}
use Rattle.channel_fsm.specs.declared.ChanId.{ChanId}
use Rattle.channel_fsm.specs.declared.ChanState.{ChanState}
use Rattle.channel_fsm.specs.declared.ChanState.TheVariants.{Free, Pending, On, Off}
use Rattle.radio_tables.specs.declared.kinds.AttemptKind.{AttemptKind}
use Rattle.radio_tables.specs.declared.kinds.AttemptKind.TheVariants.{Internal, Incoming, Outgoing}
use Rattle.radio_tables.specs.declared.kinds.Attempt.{Attempt}
use Rattle.radio_tables.specs.declared.kinds.CallRecord.{CallRecord}
use Rattle.dense_tables.specs.declared.references.Reference.{Reference}
use Rattle.radio_book.specs.declared.event.Event.{Event}
use Rattle.radio_book.specs.declared.facts.About.{About}
use Rattle.radio_book.specs.declared.facts.About.TheVariants.{Call, Channel}
use Rattle.radio_book.specs.Facts.{event_facts}
use Rattle.radio_book.specs.declared.event.Refusal.TheVariants.{ChannelBusy, RefBusy, Unexpected}
use Rattle.radio_book.specs.declared.event.Reply.{Reply}
use Rattle.radio_book.specs.declared.event.Reply.TheVariants.{Refused}
use Rattle.radio_tables.specs.Maps.{Entry, with_change}
use Rattle.radio_book.specs.State.{State, apply, state_of, record_of}
use Rattle.radio_book.specs.Table.{owner, Refuses, is_target, detect_by, resting_record, reference_held, reply_to, left_state, Outcome, Accepts, row, book_after, needs}
use Rattle.radio_book.specs.Sound.{IsSound, target_in, reference_of, armed_in}
use Rattle.radio_book.specs.Others.{IsHeldChannel, IsHeldReference, without_attempt, without_channel, CommutesWithUndone, UndoneIsRemoved, LeavesOpenAttempts, LeavesOffTargets}
use Rattle.radio_book.specs.Kinds.{call_in, channel_in, call_of, channel_of}
use Rattle.radio_book.proofs.Rows.{detect_of, detect_at}
use Rattle.radio_tables.proofs.KeyFacts.{chan_total, chan_exact, other_chan}
use Rattle.radio_tables.proofs.MapFacts.{put_put_same, call_cases, record_same}
use Rattle.radio_book.proofs.Frame.{Touches, aimed_is_owned, serving_is_on}
use Rattle.radio_book.proofs.Changes.{Misses, AreApart, option_missed, record_kept, state_kept}
use Rattle.radio_book.proofs.SoundSteps.{sound_step}
use Rattle.radio_book.proofs.Agreement.{Avoids, Hides, IsAboutOther, IsOfOther, IsNotHeld, AgreesWithOthers, agrees_commute}

-- a channel isn't the target of an attempt that aims at another, or at none
other_target : (x : ChanId) (o : Option ChanId) → (o ≡ Some x → ⊥) → is_target x o ≡ false
other_target x None other = refl
other_target x (Some t) other = other_chan t x (λ same. other (ap Some same))

-- while an attempt is open
module _ (c : ℕ) (r : CallRecord) (a : Attempt) (b : State) (sound : IsSound b) (is : record_of b c ≡ Some r) (has : r.attempt ≡ Some a) where
  target_is_owned : (x : ChanId) → a.target ≡ Some x → owner (state_of b x) ≡ Some c
  target_is_owned x aims = aimed_is_owned b sound c r a x is has aims

  reference_is_used : (k : Reference) → reference_held a.target a.reference ≡ Some k → map.get b.references k ≡ Some c
  reference_is_used k held = sound.reference_is_used c r k is (ap reference_of has ∙ held)

  -- of the call's channels only the target waits for its station
  waits_for_other : (x : ChanId) (d : ℕ) → state_of b x ≡ Pending d → (a.target ≡ Some x → ⊥) → d ≢ c
  waits_for_other x d pending other here =
      let user = sound.owner_uses x d (ap owner pending) in
      let one : user.0 ≡ r = same_Some _ _ (sym user.1 ∙ ap (record_of b) here ∙ is) in
      elim user.2 [
        | inl serves ↦
            let on = serving_is_on c (state_of b) a.kind r.serving x (sound.serving_while_open c r a is has) (ap (λ q. q.serving) (sym one) ∙ serves) in
            let bad : Pending d ≡ On c = sym pending ∙ on in cc
        | inr aims ↦ other (sym (ap target_in one ∙ ap (option_and_then (λ w. w.target)) has) ∙ aims)
      ]

  -- a channel that is no target is detected neither with the attempt nor without it
  not_aimed : (x : ChanId) (d : ℕ) → (a.target ≡ Some x → ⊥) → d ≡ c → detect_by x d (record_of b d) ≡ Refuses (Unexpected x)
  not_aimed x d other here =
      ap (detect_by x d) (ap (record_of b) here ∙ is) ∙ ap (detect_of x d r) has
      ∙ ap (λ aimed. needs aimed (Unexpected x) (detect_at x d r a a.stage)) (other_target x a.target other)

  left_alone : (x : ChanId) (d : ℕ) → d ≡ c → detect_by x d (record_of (apply (without_attempt c r a (map.get b.timers c)) b) d) ≡ Refuses (Unexpected x)
  left_alone x d here = ap (λ e. detect_by x d (record_of (apply (without_attempt c r a (map.get b.timers c)) b) e)) here ∙ ap (detect_by x d) (record_same b.calls c (resting_record a.kind r)) ∙ rests a.kind
    where
      rests : (k : AttemptKind) → detect_by x d (resting_record k r) ≡ Refuses (Unexpected x)
      rests Internal = refl
      rests Incoming = refl
      rests Outgoing = refl

  pub open_hides : Hides (without_attempt c r a (map.get b.timers c)) b
  open_hides = record {
    free_channel = λ x free. option_missed (λ t. (t, None)) a.target x (λ t aims here.
        let bad : None ≡ Some c = sym (ap owner free) ∙ ap (λ z. owner (state_of b z)) here ∙ target_is_owned t aims in cc);
    others_channel = λ x d owned other. option_missed (λ t. (t, None)) a.target x (λ t aims here.
        other (same_Some d c (sym owned ∙ ap (λ z. owner (state_of b z)) here ∙ target_is_owned t aims)));
    others_pending = λ x d pending missed. waits_for_other x d pending (λ aims. subst (λ o. Misses {X = ChanState} (option_map (λ t. (t, None)) o) x) aims missed refl);
    others_on = λ x d on missed. elim (call_cases d c) [
      | inl here ↦ inr (not_aimed x d (λ aims. subst (λ o. Misses {X = ChanState} (option_map (λ t. (t, None)) o) x) aims missed refl) here, left_alone x d here)
      | inr other ↦ inl other
    ];
    free_reference = λ k free. option_missed (λ j. (j, None)) (reference_held a.target a.reference) k (λ j held here.
        let bad : None ≡ Some c = sym free ∙ ap (map.get b.references) here ∙ reference_is_used j held in cc);
    others_reference = λ k d used other. option_missed (λ j. (j, None)) (reference_held a.target a.reference) k (λ j held here.
        other (same_Some d c (sym used ∙ ap (map.get b.references) here ∙ reference_is_used j held)));
    others_timer = λ d other. option_missed (λ m. (c, None)) (map.get b.timers c) d (λ m armed. other);
  }

module _ (c : ℕ) (r : CallRecord) (a : Attempt) (b : State) where
  open_missed : (x : ChanId) → (a.target ≡ Some x → ⊥) → Misses (without_attempt c r a (map.get b.timers c)).channel x
  open_missed x other = option_missed (λ t. (t, None)) a.target x (λ v is here. other (is ∙ ap Some (sym here)))

  by_other : (d : ℕ) → (Some d ≡ Some c → ⊥) → d ≢ c
  by_other d by here = by (ap Some here)

  on_other : (y : ChanId) → ((t : ChanId) → a.target ≡ Some t → Some y ≡ Some t → ⊥) → Misses (without_attempt c r a (map.get b.timers c)).channel y
  on_other y on = open_missed y (λ aims. on y aims refl)

  pub open_others : (e : Event) → (call_of e ≡ Some c → ⊥) → ((t : ChanId) → a.target ≡ Some t → channel_of e ≡ Some t → ⊥) → IsOfOther (without_attempt c r a (map.get b.timers c)) e
  open_others e = about_other (event_facts e).about
    where
      about_other : (about : About) → (call_in about ≡ Some c → ⊥) → ((t : ChanId) → a.target ≡ Some t → channel_in about ≡ Some t → ⊥)
          → IsAboutOther (without_attempt c r a (map.get b.timers c)) about
      about_other (Call d) by on = by_other d by
      about_other (Channel y) by on = on_other y on

  pub open_not_held : (reply : Reply) → ((t : ChanId) → a.target ≡ Some t → IsHeldChannel t reply → ⊥) → (IsHeldReference (reference_held a.target a.reference) reply → ⊥) →
      IsNotHeld (without_attempt c r a (map.get b.timers c)) reply
  open_not_held reply channel reference = record {
    channel = λ x e. open_missed x (λ aims. channel x aims e);
    reference = λ k e. option_missed (λ j. (j, None)) (reference_held a.target a.reference) k (λ j held here.
        subst (λ o. IsHeldReference o reply → ⊥) held reference (e ∙ ap (λ z. Refused (RefBusy z.cell z.number)) here));
  }

-- while the target is off
pub off_hides : (t : ChanId) (b : State) → state_of b t ≡ Off → Hides (without_channel (Some t)) b
off_hides t b off = record {
  free_channel = λ x free here. let bad : Free ≡ Off = sym free ∙ ap (state_of b) here ∙ off in cc;
  others_channel = λ x d owned other here. let bad : Some d ≡ None = sym owned ∙ ap owner (ap (state_of b) here ∙ off) in cc;
  others_pending = λ x d pending missed touched. touched;
  others_on = λ x d on missed. inl (λ touched. touched);
  free_reference = λ k free touched. touched;
  others_reference = λ k d used other touched. touched;
  others_timer = λ d other. other;
}

pub off_others : (t : ChanId) (e : Event) → (channel_of e ≡ Some t → ⊥) → IsOfOther (without_channel (Some t)) e
off_others t e = about_other (event_facts e).about
  where
    about_other : (about : About) → (channel_in about ≡ Some t → ⊥) → IsAboutOther (without_channel (Some t)) about
    about_other (Call d) on = λ touched. touched
    about_other (Channel y) on = λ here. on (ap Some here)

pub off_not_held : (t : ChanId) (reply : Reply) → (IsHeldChannel t reply → ⊥) → IsNotHeld (without_channel (Some t)) reply
off_not_held t reply channel = record {
  channel = λ x e here. channel (e ∙ ap (λ z. Refused (ChannelBusy z)) here);
  reference = λ k e touched. touched;
}

-- a row that agrees with others commutes in both phases
pub commutes_with_undone : (e : Event) → AgreesWithOthers e → CommutesWithUndone e
commutes_with_undone e agrees = record {
  while_open = λ c r a b sound is has by alone reference.
      agrees_commute (without_attempt c r a (map.get b.timers c)) b e
      (agrees (without_attempt c r a (map.get b.timers c)) b sound (open_hides c r a b sound is has) (open_others c r a b e by (λ t aims. (alone t aims).event))
      (open_not_held c r a b (reply_to b e) (λ t aims. (alone t aims).reply) reference));
  while_off = λ t b sound off alone.
      agrees_commute (without_channel (Some t)) b e
      (agrees (without_channel (Some t)) b sound (off_hides t b off) (off_others t e alone.event) (off_not_held t (reply_to b e) alone.reply));
}

-- of the target two changes follow one another, and the later stands; all else is the same in both
pub undone_is_removed : UndoneIsRemoved
undone_is_removed c r a b =
    let removal = apply (without_attempt c r a (map.get b.timers c)) b in
    (λ i. record { site = b.site; channels = channels a.target i; calls = removal.calls; references = removal.references; timers = removal.timers })
  where
    channels : (o : Option ChanId) →
        with_change (with_change b.channels (option_map (λ y. (y, left_state (state_of b y))) o)) (option_map (λ y. (y, None)) o) ≡ with_change b.channels (option_map (λ y. (y, None)) o)
    channels None = refl
    channels (Some t) = put_put_same chan_total chan_exact b.channels t (left_state (state_of b t)) None

-- what the row of an event of others doesn't touch, stays

untouched : {K X : Type 0} (p : Option (Entry K X)) (k : K) (v : Option X) → AreApart p (Some (k, v)) → Touches p k → ⊥
untouched None k v apart touched = touched
untouched (Some e) k v apart touched = apart (sym touched)

record_avoided : (c : ℕ) (r : CallRecord) (a : Attempt) (b : State) (o : Outcome) → Avoids o (without_attempt c r a (map.get b.timers c)) → record_of (book_after o b) c ≡ record_of b c
record_avoided c r a b (Refuses refusal) away = refl
record_avoided c r a b (Accepts change reply) away = record_kept change b c (untouched change.call c (resting_record a.kind r) away.call)

target_avoided : (c : ℕ) (r : CallRecord) (a : Attempt) (b : State) (o : Outcome) → Avoids o (without_attempt c r a (map.get b.timers c)) → (t : ChanId) → a.target ≡ Some t → state_of (book_after o b) t ≡ state_of b t
target_avoided c r a b (Refuses refusal) away t aims = refl
target_avoided c r a b (Accepts change reply) away t aims =
    state_kept change b t (untouched change.channel t None (subst (λ o. AreApart change.channel (option_map (λ (t : ChanId). (t, None)) o)) aims away.channel))

pub leaves_open_attempts : (e : Event) → AgreesWithOthers e → LeavesOpenAttempts e
leaves_open_attempts e agrees c r a b sound is has by alone reference =
    let agreed = agrees (without_attempt c r a (map.get b.timers c)) b sound (open_hides c r a b sound is has) (open_others c r a b e by (λ t aims. (alone t aims).event))
    (open_not_held c r a b (reply_to b e) (λ t aims. (alone t aims).reply) reference) in
    let same = record_avoided c r a b (row b e) agreed.away in
    record {
      record_stays = same;
      target_stays = target_avoided c r a b (row b e) agreed.away;
      timer_stays = (sound_step b e sound).timers c ∙ ap armed_in same ∙ sym (sound.timers c);
    }

-- and while the target is off

off_avoided : (t : ChanId) (b : State) (o : Outcome) → Avoids o (without_channel (Some t)) → state_of (book_after o b) t ≡ state_of b t
off_avoided t b (Refuses refusal) away = refl
off_avoided t b (Accepts change reply) away = state_kept change b t (untouched change.channel t None away.channel)

pub leaves_off_targets : (e : Event) → AgreesWithOthers e → LeavesOffTargets e
leaves_off_targets e agrees t b sound off alone =
    let agreed = agrees (without_channel (Some t)) b sound (off_hides t b off) (off_others t e alone.event) (off_not_held t (reply_to b e) alone.reply) in
    off_avoided t b (row b e) agreed.away ∙ off
