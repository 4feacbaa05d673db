-- Each step keeps a book sound.
use Rattle.std.proofs.Common.{◌≡◌, ◌≢◌, inl, inr, ℕ, Bool, true, false, List, [], ◌∷◌, Option, Some, None, IsSome, if◌then◌else◌, ◌==◌, refl, sym, ◌∙◌, ap, subst}
use Rattle.std.specs.declared.cmp.Ordering.{Ordering}
use Rattle.std.specs.Ordering.{nat_cmp}
use Rattle.std.specs.Option.{option_map}
use Rattle.std.proofs.lemmas.Bool.{eqb-false}
use Rattle.std.specs.FinMap as map
use Rattle.channel_fsm.specs.declared.ChanId.{ChanId}
use Rattle.channel_fsm.specs.declared.ChanState.{ChanState}
use Rattle.channel_fsm.specs.declared.ChanState.TheVariants.{Free, Held, Pending, On, Off}
use Rattle.radio_tables.specs.declared.kinds.AttemptKind.{AttemptKind}
use Rattle.radio_tables.specs.declared.kinds.AttemptKind.TheVariants.{Internal, Incoming, Outgoing}
use Rattle.radio_tables.specs.declared.kinds.Stage.{Stage}
use Rattle.radio_tables.specs.declared.kinds.Stage.TheVariants.{Taken, Reserved, Sent, Refused, Confirmed, Commanded, Detected, Required, Ordered}
use Rattle.radio_tables.specs.declared.kinds.Attempt.{Attempt}
use Rattle.radio_tables.specs.declared.kinds.CallRecord.{CallRecord}
use Rattle.dense_tables.specs.declared.references.Reference.{Reference}
use Rattle.radio_book.specs.declared.event.Kind.{Kind}
use Rattle.radio_book.specs.declared.event.Kind.TheVariants as kind
use Rattle.attempt_journal.specs.declared.Timer.{Timer}
use Rattle.radio_book.specs.declared.event.Why.{Why}
use Rattle.radio_book.specs.declared.event.Why.TheVariants.{Asked, Expired}
use Rattle.radio_book.specs.declared.event.Refusal.{Refusal}
use Rattle.radio_book.specs.declared.event.Refusal.TheVariants.{WrongPhase, NotArmed}
use Rattle.radio_book.specs.declared.event.Event.{Event}
use Rattle.radio_book.specs.declared.event.Event.TheVariants as event
use Rattle.cell_table.specs.Site.{SiteView, is_traffic}
use Rattle.radio_tables.specs.Keys.{chan_cmp, reference_cmp}
use Rattle.radio_tables.specs.Maps.{Entry, put}
use Rattle.radio_book.specs.State.{State, Change, apply, or_free, state_of, record_of, empty_book}
use Rattle.radio_book.specs.Table.{in_way, owner, step, book_after, with_entry, without_entry, begin_row, clear_row, look_row, moved_entry, confirm_row, refuse_row, released_row, taking_change, take_row, reference_at, reference_held, reserve_row, activate_row, left_state, resting_record, undo_change, undo_attempt, undo_row, is_armed, needs}
use Rattle.radio_book.specs.Sound.{IsSound, Uses, IsStageOf, HasTarget, HasServing, armed_in}
use Rattle.radio_tables.specs.Stages.{stage_row}
use Rattle.radio_book.specs.Run.{run_book, RunsAreSound}
use Rattle.radio_book.proofs.Rows.{clear_at, take_from, take_at, reserve_number, reserve_at, reserve_by, activate_at, activate_by}
use Rattle.radio_tables.proofs.KeyFacts.{chan_total, chan_exact, same_chan_itself}
use Rattle.radio_tables.proofs.MapFacts.{state_same, state_other, record_same, reference_same}
use Rattle.radio_book.proofs.Frame.{same_some, at_some, way_free, UsedBy, ReferredBy, call_of, call_stays, resting_call, attempting, attempt_of, attempting_call, aimed_is_owned, serving_is_on, get_untouched, SoundIfAny, concerned_sound}
use Rattle.radio_book.proofs.SoundHandover.{sound_command, sound_complete, sound_detect, sound_owner, sound_require, sound_order, sound_left}
use Rattle.radio_book.proofs.SoundParts.{other_than, one_owner, owned_not_free, owned_traffic, state_fits, changes, rests, at_option, touched_at, disarmed, serving_apart, IsAt, staged, aims_always}

-- a call begins: what it makes of a free traffic channel is sound

begin_sound : (b : State) → IsSound b → (c : ℕ) (x : ChanId) (r : CallRecord) (v : ChanState) →
    (record_of b c ≡ None → is_traffic b.site x ≡ true → in_way b x ≡ None → IsSound (apply (changes (with_entry x v) (with_entry c r) None) b)) →
    (o : Option CallRecord) (t : Bool) (w : Option ChanId) → record_of b c ≡ o → is_traffic b.site x ≡ t → in_way b x ≡ w → IsSound (book_after (begin_row c x r v o t w) b)
begin_sound b sound c x r v begun (Some old) t w e f g = sound
begin_sound b sound c x r v begun None false w e f g = sound
begin_sound b sound c x r v begun None true None e f g = begun e f g
begin_sound b sound c x r v begun None true (Some y) e f g = sound

-- Open

opened : (b : State) → IsSound b → (c : ℕ) (x : ChanId) → record_of b c ≡ None → is_traffic b.site x ≡ true → in_way b x ≡ None → IsSound (apply (changes (with_entry x (Pending c)) (with_entry c (rests x)) None) b)
opened b sound c x new traffic free = concerned_sound b sound (changes (with_entry x (Pending c)) (with_entry c (rests x)) None) c None (Some (rests x)) (record {
  before = new;
  after = record_same b.calls c (Some (rests x));
  call = refl;
  channel_was = λ d h. let bad : None ≡ Some d = sym (ap owner (way_free b x free)) ∙ h in cc;
  channel_is = λ d h. (one_owner (Pending c) c d refl h, inl refl);
  entry = state_fits b x (Pending c) traffic (λ h. cc) (inr free);
  channels = λ y t u. absurd u;
  reference_was = tt;
  reference_is = tt;
  references = λ k t u. absurd u;
  sound = resting_call _ _ c x (ap owner (state_same b.channels x (Some (Pending c))));
  timer = tt;
  armed = sound.timers c ∙ ap armed_in new;
})

pub sound_open : (b : State) → IsSound b → (c : ℕ) (x : ChanId) → IsSound (step b (event.Open c x))
sound_open b sound c x = begin_sound b sound c x (rests x) (Pending c) (opened b sound c x) (record_of b c) (is_traffic b.site x) (in_way b x) refl refl refl

-- what is left of a channel that is used no more

left_unowned : (s : ChanState) (d : ℕ) → owner (or_free (left_state s)) ≡ Some d → ⊥
left_unowned Free d h = cc
left_unowned (Held c) d h = cc
left_unowned (Pending c) d h = cc
left_unowned (On c) d h = cc
left_unowned Off d h = cc

left_not_free : (s z : ChanState) → left_state s ≡ Some z → z ≢ Free
left_not_free Free z h f = cc
left_not_free (Held c) z h f = cc
left_not_free (Pending c) z h f = cc
left_not_free (On c) z h f = cc
left_not_free Off z h f = cc

-- Clear

clear_sound : (b : State) → IsSound b → (c : ℕ) (s : Option ChanId) (o : Option Attempt) → record_of b c ≡ Some (record { serving = s; attempt = o }) → IsSound (book_after (clear_at c (record { serving = s; attempt = o }) o (state_of b)) b)
clear_sound b sound c s (Some a) e = sound
clear_sound b sound c None None e = let bad = sound.serving_at_rest c (record { serving = None; attempt = None }) e refl in cc
clear_sound b sound c (Some x) None e =
    let owned : owner (state_of b x) ≡ Some c = sound.serving_is_owned c _ x e refl in
    concerned_sound b sound (changes (Some (x, left_state (state_of b x))) (Some (c, None)) None) c (Some (rests x)) None (record {
      before = e;
      after = record_same b.calls c None;
      call = refl;
      channel_was = λ d h. one_owner (state_of b x) c d owned h;
      channel_is = λ d h. absurd (left_unowned (state_of b x) d h);
      entry = λ z h. (owned_traffic b sound x c owned, left_not_free (state_of b x) z h, inl (owned_not_free (state_of b x) c owned));
      channels = λ y t u. elim u [ inl h ↦ t (sym (same_some x y h)) | inr h ↦ cc ];
      reference_was = tt;
      reference_is = tt;
      references = λ k t h. cc;
      sound = tt;
      timer = tt;
      armed = sound.timers c ∙ ap armed_in e;
    })

clear_row_sound : (b : State) → IsSound b → (c : ℕ) (o : Option CallRecord) → record_of b c ≡ o → IsSound (book_after (clear_row c o (state_of b)) b)
clear_row_sound b sound c None e = sound
clear_row_sound b sound c (Some r) e = clear_sound b sound c r.serving r.attempt e

pub sound_clear : (b : State) → IsSound b → (c : ℕ) → IsSound (step b (event.Clear c))
sound_clear b sound c = clear_row_sound b sound c (record_of b c) refl

-- Look

look_sound : (b : State) → IsSound b → (o : Option CallRecord) → IsSound (book_after (look_row o (state_of b)) b)
look_sound b sound None = sound
look_sound b sound (Some r) = sound

pub sound_look : (b : State) → IsSound b → (c : ℕ) → IsSound (step b (event.Look c))
sound_look b sound c = look_sound b sound (record_of b c)

-- Confirm and Refuse: a station answers an activation, and the channel comes to this state

abbrev answers : ChanId → Stage → ChanState → ℕ → Option CallRecord → Change
answers x g v c o = changes (with_entry x v) (moved_entry x g c o) None

-- the stage is one of those that an answer leads to
record IsAnswer (c : ℕ) (x : ChanId) (g : Stage) (v : ChanState) : Type 0 where
  owned : owner v ≡ Some c
  state : HasTarget c (stage_row g).target (Some x) (λ y. v)
  timer : None ≡ (stage_row g).timer
  at : (k : AttemptKind) (n : Option ℕ) → IsStageOf k (Some Pending) → IsSome n → IsAt k n g

-- the channel is the serving one of a call without an attempt
serving_answered : (b : State) → IsSound b → (c : ℕ) (x : ChanId) (v : ChanState) → owner v ≡ Some c → record_of b c ≡ Some (rests x) →
    IsSound (apply (changes (with_entry x v) None None) b)
serving_answered b sound c x v names e =
    let owned : owner (state_of b x) ≡ Some c = sound.serving_is_owned c _ x e refl in
    concerned_sound b sound (changes (with_entry x v) None None) c (Some (rests x)) (Some (rests x)) (record {
      before = e;
      after = e;
      call = tt;
      channel_was = λ d h. one_owner (state_of b x) c d owned h;
      channel_is = λ d h. (one_owner v c d names h, inl refl);
      entry = state_fits b x v (owned_traffic b sound x c owned) (owned_not_free v c names) (inl (owned_not_free (state_of b x) c owned));
      channels = λ y t u. u;
      reference_was = tt;
      reference_is = tt;
      references = λ k t h. h;
      sound = resting_call _ _ c x (ap owner (state_same b.channels x (Some v)) ∙ names);
      timer = tt;
      armed = sound.timers c ∙ ap armed_in e;
    })

-- a target whose activation is awaited is that of an attempt in Sent
pub sent_stage : (c : ℕ) (look : ChanId → ChanState) (x : ChanId) (g : Stage) → HasTarget c (stage_row g).target (Some x) look → look x ≡ Pending c → g ≡ Sent
sent_stage c look x Taken h p = let bad : Pending c ≡ Held c = sym p ∙ h in cc
sent_stage c look x Reserved h p = let bad : Pending c ≡ Held c = sym p ∙ h in cc
sent_stage c look x Sent h p = refl
sent_stage c look x Refused h p = let bad : Pending c ≡ Held c = sym p ∙ h in cc
sent_stage c look x Confirmed h p = let bad : Pending c ≡ On c = sym p ∙ h in cc
sent_stage c look x Commanded h p = let bad : Pending c ≡ On c = sym p ∙ h in cc
sent_stage c look x Detected h p = let bad : Pending c ≡ On c = sym p ∙ h in cc
sent_stage c look x Required h p = absurd h
sent_stage c look x Ordered h p = absurd h

-- the channel is the target of the call's attempt
sent_answered : (b : State) → IsSound b → (c : ℕ) (x : ChanId) (g : Stage) (v : ChanState) → IsAnswer c x g v →
    (s : Option ChanId) (k : AttemptKind) (n : Option ℕ) → record_of b c ≡ Some (attempting s k Sent (Some x) n) → IsSound (apply (answers x g v c (Some (attempting s k Sent (Some x) n))) b)
sent_answered b sound c x g v is s k n e =
    let has = attempt_of _ _ c s k Sent (Some x) n (call_of b sound c _ e) in
    let change = λ (w : Option (Entry ℕ CallRecord)). changes (with_entry x v) w None in
    subst (λ q. IsSound (apply (change (if q then with_entry c (attempting s k g (Some x) n) else None)) b)) (sym (same_chan_itself x))
    (staged b sound c s k Sent x n e g v is.state is.timer (is.at k n has.stage_of_kind has.reference_by_stage))

target_answered : (b : State) → IsSound b → (c : ℕ) (x : ChanId) (g : Stage) (v : ChanState) → IsAnswer c x g v → state_of b x ≡ Pending c →
    (s : Option ChanId) (k : AttemptKind) (h : Stage) (n : Option ℕ) → record_of b c ≡ Some (attempting s k h (Some x) n) → IsSound (apply (answers x g v c (Some (attempting s k h (Some x) n))) b)
target_answered b sound c x g v is p s k h n e =
    let has = attempt_of _ _ c s k h (Some x) n (call_of b sound c _ e) in
    let sent = sent_stage c (state_of b) x h has.state p in
    subst (λ z. IsSound (apply (answers x g v c (Some (attempting s k z (Some x) n))) b)) (sym sent)
    (sent_answered b sound c x g v is s k n (e ∙ ap (λ z. Some (attempting s k z (Some x) n)) sent))

answer_sound : (b : State) → IsSound b → (c : ℕ) (x : ChanId) (g : Stage) (v : ChanState) → IsAnswer c x g v → state_of b x ≡ Pending c →
    (s : Option ChanId) (o : Option Attempt) → record_of b c ≡ Some (record { serving = s; attempt = o }) → Uses (record { serving = s; attempt = o }) x → IsSound (apply (answers x g v c (Some (record { serving = s; attempt = o }))) b)
answer_sound b sound c x g v is p s None e (inl h) = serving_answered b sound c x v is.owned (e ∙ ap (λ z. Some (record { serving = z; attempt = None })) h)
answer_sound b sound c x g v is p s None e (inr h) = cc
answer_sound b sound c x g v is p s (Some a) e (inl h) =
    let bad : Pending c ≡ On c = sym p ∙ serving_is_on c (state_of b) a.kind s x (sound.serving_while_open c _ a e refl) h in cc
answer_sound b sound c x g v is p s (Some a) e (inr h) =
    subst (λ z. IsSound (apply (answers x g v c (Some (record { serving = s; attempt = Some (record a { target = z }) }))) b)) (sym h)
    (target_answered b sound c x g v is p s a.kind a.stage a.reference (e ∙ ap (λ z. Some (record { serving = s; attempt = Some (record a { target = z }) })) h))

answered : (b : State) → IsSound b → (c : ℕ) (x : ChanId) (g : Stage) (v : ChanState) → IsAnswer c x g v → state_of b x ≡ Pending c → IsSound (apply (answers x g v c (record_of b c)) b)
answered b sound c x g v is p =
    let n = sound.owner_uses x c (ap owner p) in
    subst (λ o. IsSound (apply (answers x g v c o) b)) (sym n.1) (answer_sound b sound c x g v is p n.0.serving n.0.attempt n.1 n.2)

confirm_sound : (b : State) → IsSound b → (x : ChanId) (s : ChanState) → state_of b x ≡ s → IsSound (book_after (confirm_row x s (record_of b)) b)
confirm_sound b sound x Free e = sound
confirm_sound b sound x (Held c) e = sound
confirm_sound b sound x (Pending c) e = answered b sound c x Confirmed (On c)
    (record { owned = refl; state = refl; timer = refl; at = λ k n h m. record { stage_of_kind = aims_always k Pending On h; reference_by_stage = m } }) e
confirm_sound b sound x (On c) e = sound
confirm_sound b sound x Off e = sound

pub sound_confirm : (b : State) → IsSound b → (x : ChanId) → IsSound (step b (event.Confirm x))
sound_confirm b sound x = confirm_sound b sound x (state_of b x) refl

refuse_sound : (b : State) → IsSound b → (x : ChanId) (s : ChanState) → state_of b x ≡ s → IsSound (book_after (refuse_row x s (record_of b)) b)
refuse_sound b sound x Free e = sound
refuse_sound b sound x (Held c) e = sound
refuse_sound b sound x (Pending c) e = answered b sound c x Refused (Held c)
    (record { owned = refl; state = refl; timer = refl; at = λ k n h m. record { stage_of_kind = aims_always k Pending Held h; reference_by_stage = m } }) e
refuse_sound b sound x (On c) e = sound
refuse_sound b sound x Off e = sound

pub sound_refuse : (b : State) → IsSound b → (x : ChanId) → IsSound (step b (event.Refuse x))
sound_refuse b sound x = refuse_sound b sound x (state_of b x) refl

-- Released: the channel is nobody's

released : (b : State) → IsSound b → (x : ChanId) → state_of b x ≡ Off → IsSound (apply (changes (without_entry x) None None) b)
released b sound x off = concerned_sound b sound (changes (without_entry x) None None) 0 (record_of b 0) (record_of b 0) (record {
  before = refl;
  after = refl;
  call = tt;
  channel_was = λ d h. absurd (unowned d h);
  channel_is = λ d h. cc;
  entry = λ s h. cc;
  channels = λ y t u. u;
  reference_was = tt;
  reference_is = tt;
  references = λ k t h. h;
  sound = stays (record_of b 0) refl;
  timer = tt;
  armed = sound.timers 0;
})
  where
    unowned : (d : ℕ) → owner (state_of b x) ≡ Some d → ⊥
    unowned d h = let bad : None ≡ Some d = sym (ap owner off) ∙ h in cc

    stays : (o : Option CallRecord) → record_of b 0 ≡ o → SoundIfAny (state_of (apply (changes (without_entry x) None None) b)) (map.get b.references) 0 o
    stays None e = tt
    stays (Some r) e = call_stays (state_of b) _ (map.get b.references) _ 0 r (λ y owned. state_other b.channels x None y (λ same. unowned 0 (ap (λ z. owner (state_of b z)) (sym same) ∙ owned))) (λ k h. h) (call_of b sound 0 r e)

released_sound : (b : State) → IsSound b → (x : ChanId) (s : ChanState) → state_of b x ≡ s → IsSound (book_after (released_row x s) b)
released_sound b sound x Free e = sound
released_sound b sound x (Held c) e = sound
released_sound b sound x (Pending c) e = sound
released_sound b sound x (On c) e = sound
released_sound b sound x Off e = released b sound x e

pub sound_released : (b : State) → IsSound b → (x : ChanId) → IsSound (step b (event.Released x))
sound_released b sound x = released_sound b sound x (state_of b x) refl

-- Take: an attempt on a free channel

taken : (b : State) → IsSound b → (c : ℕ) (x : ChanId) (was : Option CallRecord) (s : Option ChanId) (k : AttemptKind) → record_of b c ≡ was → is_traffic b.site x ≡ true → in_way b x ≡ None →
    ((y : ChanId) → UsedBy was y → s ≡ Some y) → ((j : Reference) → ReferredBy was j → ⊥) → ((y : ChanId) → s ≡ Some y → y.cell ≢ x.cell) → HasServing c k s (state_of b) → IsStageOf k (Some Held) → armed_in was ≡ None →
    IsSound (apply (taking_change c x (attempting s k Taken (Some x) None)) b)
taken b sound c x was s k e traffic free uses refers apart during kinds unarmed =
    let differ : (y z : ChanId) → s ≡ Some y → Some x ≡ Some z → y.cell ≢ z.cell = λ y z serves aims. at_some (λ z. y.cell ≢ z.cell) x z (apart y serves) aims in
    concerned_sound b sound (taking_change c x (attempting s k Taken (Some x) None)) c was (Some (attempting s k Taken (Some x) None)) (record {
      before = e;
      after = record_same b.calls c (Some (attempting s k Taken (Some x) None));
      call = refl;
      channel_was = λ d h. let bad : None ≡ Some d = sym (ap owner (way_free b x free)) ∙ h in cc;
      channel_is = λ d h. (one_owner (Held c) c d refl h, inr refl);
      entry = state_fits b x (Held c) traffic (λ h. cc) (inr free);
      channels = λ y t u. inl (uses y u);
      reference_was = tt;
      reference_is = tt;
      references = λ j t u. absurd (refers j u);
      sound = attempting_call _ _ c s k Taken (Some x) None (record {
        stage_of_kind = kinds;
        state = state_same b.channels x (Some (Held c));
        cells_differ = differ;
        serving_while_open = serving_apart c (Some x) (state_of b) _ (λ y other. state_other b.channels x (Some (Held c)) y (other x refl)) k s differ during;
        reference_is_used = λ j h. cc;
        reference_by_stage = refl;
      });
      timer = tt;
      armed = sound.timers c ∙ ap armed_in e ∙ unarmed;
    })

internal_sound : (b : State) → IsSound b → (c : ℕ) (x y : ChanId) (now : ChanState) (t same : Bool) (w : Option ChanId) → record_of b c ≡ Some (rests y) → state_of b y ≡ now → is_traffic b.site x ≡ t → y.cell == x.cell ≡ same → in_way b x ≡ w →
    IsSound (book_after (take_from c x (rests y) now t same w) b)
internal_sound b sound c x y Free t same s e n f h g = sound
internal_sound b sound c x y (Held d) t same s e n f h g = sound
internal_sound b sound c x y (Pending d) t same s e n f h g = sound
internal_sound b sound c x y Off t same s e n f h g = sound
internal_sound b sound c x y (On d) false same s e n f h g = sound
internal_sound b sound c x y (On d) true true s e n f h g = sound
internal_sound b sound c x y (On d) true false (Some z) e n f h g = sound
internal_sound b sound c x y (On d) true false None e n f h g =
    let own : d ≡ c = one_owner (On d) c d (sym (ap owner n) ∙ sound.serving_is_owned c (rests y) y e refl) refl in
    taken b sound c x (Some (rests y)) (Some y) Internal e f g
    (λ z u. elim u [ inl i ↦ i | inr i ↦ cc ]) (λ j u. cc) (λ z i. at_some (λ z. z.cell ≢ x.cell) y z (eqb-false y.cell x.cell h) i) (n ∙ ap On own) tt refl

take_internal_sound : (b : State) → IsSound b → (c : ℕ) (x : ChanId) (s : Option ChanId) (o : Option Attempt) → record_of b c ≡ Some (record { serving = s; attempt = o }) → IsSound (book_after (take_at c x (record { serving = s; attempt = o }) o s (state_of b) (is_traffic b.site x)) b)
take_internal_sound b sound c x s (Some a) e = sound
take_internal_sound b sound c x None None e = sound
take_internal_sound b sound c x (Some y) None e = internal_sound b sound c x y (state_of b y) (is_traffic b.site x) (y.cell == x.cell) (in_way b x) e refl refl refl refl

take_sound : (b : State) → IsSound b → (c : ℕ) (k : Kind) (x : ChanId) (o : Option CallRecord) → record_of b c ≡ o → IsSound (book_after (take_row c k x o (state_of b) (is_traffic b.site x)) b)
take_sound b sound c kind.Internal x None e = sound
take_sound b sound c kind.Internal x (Some r) e = take_internal_sound b sound c x r.serving r.attempt e
take_sound b sound c kind.Incoming x o e =
    begin_sound b sound c x (attempting None Incoming Taken (Some x) None) (Held c)
    (λ new f g. taken b sound c x None None Incoming new f g (λ y u. absurd u) (λ j u. u) (λ y h. cc) refl tt refl)
    o (is_traffic b.site x) (in_way b x) e refl refl

pub sound_take : (b : State) → IsSound b → (c : ℕ) (k : Kind) (x : ChanId) → IsSound (step b (event.Take c k x))
sound_take b sound c k x = take_sound b sound c k x (record_of b c) refl

-- Reserve: an attempt gets a reference that was nobody's

reserved : (b : State) → IsSound b → (c : ℕ) (s : Option ChanId) (k : AttemptKind) (t : ChanId) (n : Option ℕ) (m : ℕ) → record_of b c ≡ Some (attempting s k Taken (Some t) n) → map.get b.references (reference_at t m) ≡ None →
    IsSound (apply (changes None (with_entry c (attempting s k Reserved (Some t) (Some m))) (Some (reference_at t m, Some c))) b)
reserved b sound c s k t n m e unused =
    let has = attempt_of _ _ c s k Taken (Some t) n (call_of b sound c _ e) in
    concerned_sound b sound (changes None (with_entry c (attempting s k Reserved (Some t) (Some m))) (Some (reference_at t m, Some c))) c (Some (attempting s k Taken (Some t) n)) (Some (attempting s k Reserved (Some t) (Some m))) (record {
      before = e;
      after = record_same b.calls c (Some (attempting s k Reserved (Some t) (Some m)));
      call = refl;
      channel_was = tt;
      channel_is = tt;
      entry = tt;
      channels = λ y u h. h;
      reference_was = λ d h. let bad : None ≡ Some d = sym unused ∙ h in cc;
      reference_is = λ d h. (sym (same_some c d h), refl);
      references = λ j u h. let bad : None ≡ Some j = ap (reference_held (Some t)) (sym has.reference_by_stage) ∙ h in cc;
      sound = attempting_call _ _ c s k Reserved (Some t) (Some m) (record {
        stage_of_kind = has.stage_of_kind;
        state = has.state;
        cells_differ = has.cells_differ;
        serving_while_open = has.serving_while_open;
        reference_is_used = λ j h. at_some (λ j. map.get (put b.references (reference_at t m) (Some c)) j ≡ Some c) (reference_at t m) j (reference_same b.references (reference_at t m) (Some c)) h;
        reference_by_stage = refl;
      });
      timer = tt;
      armed = sound.timers c ∙ ap armed_in e;
    })

reserve_number_sound : (b : State) → IsSound b → (c m : ℕ) (s : Option ChanId) (k : AttemptKind) (t : ChanId) (n : Option ℕ) (user : Option ℕ) → record_of b c ≡ Some (attempting s k Taken (Some t) n) → map.get b.references (reference_at t m) ≡ user →
    IsSound (book_after (reserve_number c m (attempting s k Taken (Some t) n) (record { kind = k; stage = Taken; target = Some t; reference = n }) t user) b)
reserve_number_sound b sound c m s k t n (Some d) e h = sound
reserve_number_sound b sound c m s k t n None e h = reserved b sound c s k t n m e h

reserve_sound : (b : State) → IsSound b → (c m : ℕ) (s : Option ChanId) (k : AttemptKind) (g : Stage) (o : Option ChanId) (n : Option ℕ) → record_of b c ≡ Some (attempting s k g o n) →
    IsSound (book_after (reserve_at c m (attempting s k g o n) (record { kind = k; stage = g; target = o; reference = n }) g o (map.get b.references)) b)
reserve_sound b sound c m s k Taken None n e = sound
reserve_sound b sound c m s k Taken (Some t) n e = reserve_number_sound b sound c m s k t n (map.get b.references (reference_at t m)) e refl
reserve_sound b sound c m s k Reserved o n e = sound
reserve_sound b sound c m s k Sent o n e = sound
reserve_sound b sound c m s k Refused o n e = sound
reserve_sound b sound c m s k Confirmed o n e = sound
reserve_sound b sound c m s k Commanded o n e = sound
reserve_sound b sound c m s k Detected o n e = sound
reserve_sound b sound c m s k Required o n e = sound
reserve_sound b sound c m s k Ordered o n e = sound

reserve_by_sound : (b : State) → IsSound b → (c m : ℕ) (s : Option ChanId) (o : Option Attempt) → record_of b c ≡ Some (record { serving = s; attempt = o }) → IsSound (book_after (reserve_by c m (record { serving = s; attempt = o }) o (map.get b.references)) b)
reserve_by_sound b sound c m s None e = sound
reserve_by_sound b sound c m s (Some a) e = reserve_sound b sound c m s a.kind a.stage a.target a.reference e

reserve_row_sound : (b : State) → IsSound b → (c m : ℕ) (o : Option CallRecord) → record_of b c ≡ o → IsSound (book_after (reserve_row c m o (map.get b.references)) b)
reserve_row_sound b sound c m None e = sound
reserve_row_sound b sound c m (Some r) e = reserve_by_sound b sound c m r.serving r.attempt e

pub sound_reserve : (b : State) → IsSound b → (c n : ℕ) → IsSound (step b (event.Reserve c n))
sound_reserve b sound c n = reserve_row_sound b sound c n (record_of b c) refl

-- Activate

activated : (b : State) → IsSound b → (c : ℕ) (s : Option ChanId) (k : AttemptKind) (t : ChanId) (n : Option ℕ) → record_of b c ≡ Some (attempting s k Reserved (Some t) n) →
    IsSound (apply (changes (with_entry t (Pending c)) (with_entry c (attempting s k Sent (Some t) n)) None) b)
activated b sound c s k t n e =
    let has = attempt_of _ _ c s k Reserved (Some t) n (call_of b sound c _ e) in
    staged b sound c s k Reserved t n e Sent (Pending c) refl refl (record { stage_of_kind = aims_always k Held Pending has.stage_of_kind; reference_by_stage = has.reference_by_stage })

activate_sound : (b : State) → IsSound b → (c : ℕ) (s : Option ChanId) (k : AttemptKind) (g : Stage) (o : Option ChanId) (n : Option ℕ) → record_of b c ≡ Some (attempting s k g o n) →
    IsSound (book_after (activate_at c (attempting s k g o n) (record { kind = k; stage = g; target = o; reference = n }) g o) b)
activate_sound b sound c s k Taken o n e = sound
activate_sound b sound c s k Reserved None n e = sound
activate_sound b sound c s k Reserved (Some t) n e = activated b sound c s k t n e
activate_sound b sound c s k Sent o n e = sound
activate_sound b sound c s k Refused o n e = sound
activate_sound b sound c s k Confirmed o n e = sound
activate_sound b sound c s k Commanded o n e = sound
activate_sound b sound c s k Detected o n e = sound
activate_sound b sound c s k Required o n e = sound
activate_sound b sound c s k Ordered o n e = sound

activate_by_sound : (b : State) → IsSound b → (c : ℕ) (s : Option ChanId) (o : Option Attempt) → record_of b c ≡ Some (record { serving = s; attempt = o }) → IsSound (book_after (activate_by c (record { serving = s; attempt = o }) o) b)
activate_by_sound b sound c s None e = sound
activate_by_sound b sound c s (Some a) e = activate_sound b sound c s a.kind a.stage a.target a.reference e

activate_row_sound : (b : State) → IsSound b → (c : ℕ) (o : Option CallRecord) → record_of b c ≡ o → IsSound (book_after (activate_row c o) b)
activate_row_sound b sound c None e = sound
activate_row_sound b sound c (Some r) e = activate_by_sound b sound c r.serving r.attempt e

pub sound_activate : (b : State) → IsSound b → (c : ℕ) → IsSound (step b (event.Activate c))
sound_activate b sound c = activate_row_sound b sound c (record_of b c) refl

-- Undo

rests_on : (c : ℕ) (k : AttemptKind) (s o : Option ChanId) (look : ChanId → ChanState) (g : Stage) (n : Option ℕ) → HasServing c k s look → (y : ChanId) → s ≡ Some y → UsedBy (resting_record k (attempting s k g o n)) y
rests_on c Internal s o look g n during y h = inl h
rests_on c Incoming s o look g n during y h = cc
rests_on c Outgoing s o look g n during y h = inl h

rest_sound : (c : ℕ) (k : AttemptKind) (s o : Option ChanId) (g : Stage) (n : Option ℕ) (look : ChanId → ChanState) (user : Reference → Option ℕ) → HasServing c k s look → SoundIfAny look user c (resting_record k (attempting s k g o n))
rest_sound c Internal None o g n look user during = absurd during
rest_sound c Internal (Some x) o g n look user during = resting_call look user c x (ap owner during)
rest_sound c Incoming s o g n look user during = tt
rest_sound c Outgoing None o g n look user during = absurd during
rest_sound c Outgoing (Some x) o g n look user during = resting_call look user c x (ap owner during)

rest_unarmed : (k : AttemptKind) (s o : Option ChanId) (g : Stage) (n : Option ℕ) → armed_in (resting_record k (attempting s k g o n)) ≡ None
rest_unarmed Internal s o g n = refl
rest_unarmed Incoming s o g n = refl
rest_unarmed Outgoing s o g n = refl

undo_change_sound : (b : State) → IsSound b → (c : ℕ) (s : Option ChanId) (k : AttemptKind) (g : Stage) (o : Option ChanId) (n : Option ℕ) (armed : Option Timer) → record_of b c ≡ Some (attempting s k g o n) → map.get b.timers c ≡ armed →
    IsSound (apply (undo_change c (attempting s k g o n) (record { kind = k; stage = g; target = o; reference = n }) (state_of b) armed) b)
undo_change_sound b sound c s k g o n armed e is =
    let has = attempt_of _ _ c s k g o n (call_of b sound c _ e) in
    let owned : (t : ChanId) → o ≡ Some t → owner (state_of b t) ≡ Some c = λ t aims. aimed_is_owned b sound c _ _ t e refl aims in
    let left : ChanId → Entry ChanId ChanState = λ t. (t, left_state (state_of b t)) in
    concerned_sound b sound (undo_change c (attempting s k g o n) (record { kind = k; stage = g; target = o; reference = n }) (state_of b) armed) c (Some (attempting s k g o n)) (resting_record k (attempting s k g o n)) (record {
      before = e;
      after = record_same b.calls c (resting_record k (attempting s k g o n));
      call = refl;
      channel_was = at_option left o _ (λ t aims d h. one_owner (state_of b t) c d (owned t aims) h);
      channel_is = at_option left o _ (λ t aims d h. absurd (left_unowned (state_of b t) d h));
      entry = at_option left o _ (λ t aims z h. (owned_traffic b sound t c (owned t aims), left_not_free (state_of b t) z h, inl (owned_not_free (state_of b t) c (owned t aims))));
      channels = λ y u h. elim h [ inl i ↦ rests_on c k s o (state_of b) g n has.serving_while_open y i | inr i ↦ absurd (u (touched_at left o y i)) ];
      reference_was = at_option (λ j. (j, None)) (reference_held o n) _ (λ j h d i. sym (same_some c d (sym (has.reference_is_used j h) ∙ i)));
      reference_is = at_option (λ j. (j, None)) (reference_held o n) _ (λ j h d i. cc);
      references = λ j u h. absurd (u (touched_at (λ j. (j, None)) (reference_held o n) j h));
      sound = rest_sound c k s o g n _ _ (serving_apart c o (state_of b) _ (λ y other. ap or_free (get_untouched chan_total chan_exact b.channels (option_map left o) y (λ touched. other_than (λ t. left_state (state_of b t)) o y other touched))) k s has.cells_differ has.serving_while_open);
      timer = at_option (λ m. (c, None)) armed _ (λ m h. refl);
      armed = disarmed b.timers c armed is ∙ sym (rest_unarmed k s o g n);
    })

undo_sound : (b : State) → IsSound b → (c : ℕ) (refusal : Refusal) (s : Option ChanId) (o : Option Attempt) (armed : Option Timer) → record_of b c ≡ Some (record { serving = s; attempt = o }) → map.get b.timers c ≡ armed → IsSound (book_after (undo_attempt c refusal (record { serving = s; attempt = o }) o (state_of b) armed) b)
undo_sound b sound c refusal s None armed e is = sound
undo_sound b sound c refusal s (Some a) armed e is = undo_change_sound b sound c s a.kind a.stage a.target a.reference armed e is

expiry_sound : (b : State) → IsSound b → (c : ℕ) (r : CallRecord) (expired : Bool) (armed : Option Timer) → record_of b c ≡ Some r → map.get b.timers c ≡ armed → IsSound (book_after (needs expired NotArmed (undo_attempt c NotArmed r r.attempt (state_of b) armed)) b)
expiry_sound b sound c r true armed e is = undo_sound b sound c NotArmed r.serving r.attempt armed e is
expiry_sound b sound c r false armed e is = sound

undo_row_sound : (b : State) → IsSound b → (c : ℕ) (why : Why) (o : Option CallRecord) (armed : Option Timer) → record_of b c ≡ o → map.get b.timers c ≡ armed → IsSound (book_after (undo_row c why o (state_of b) armed) b)
undo_row_sound b sound c why None armed e is = sound
undo_row_sound b sound c Asked (Some r) armed e is = undo_sound b sound c WrongPhase r.serving r.attempt armed e is
undo_row_sound b sound c (Expired m) (Some r) armed e is = expiry_sound b sound c r (is_armed m armed) armed e is

pub sound_undo : (b : State) → IsSound b → (c : ℕ) (why : Why) → IsSound (step b (event.Undo c why))
sound_undo b sound c why = undo_row_sound b sound c why (record_of b c) (map.get b.timers c) refl refl

-- every step, and the book with which it begins

pub sound_step : (b : State) (e : Event) → IsSound b → IsSound (step b e)
sound_step b (event.Open c x) sound = sound_open b sound c x
sound_step b (event.Clear c) sound = sound_clear b sound c
sound_step b (event.Look c) sound = sound_look b sound c
sound_step b (event.Take c k x) sound = sound_take b sound c k x
sound_step b (event.Reserve c n) sound = sound_reserve b sound c n
sound_step b (event.Activate c) sound = sound_activate b sound c
sound_step b (event.Undo c why) sound = sound_undo b sound c why
sound_step b (event.Confirm x) sound = sound_confirm b sound x
sound_step b (event.Refuse x) sound = sound_refuse b sound x
sound_step b (event.Released x) sound = sound_released b sound x
sound_step b (event.Command c) sound = sound_command b sound c
sound_step b (event.Complete c) sound = sound_complete b sound c
sound_step b (event.Detect x) sound = sound_detect b sound x
sound_step b (event.Owner x) sound = sound_owner b sound x
sound_step b (event.Require c) sound = sound_require b sound c
sound_step b (event.Order c) sound = sound_order b sound c
sound_step b (event.Left c) sound = sound_left b sound c

pub sound_empty : (site : SiteView) → IsSound (empty_book site)
sound_empty site = record {
  is_traffic = λ x s e. absurd (no_entry chan_cmp x s e);
  not_free = λ x s e. absurd (no_entry chan_cmp x s e);
  apart = λ x y s t e f clash. no_entry chan_cmp x s e;
  owner_uses = λ x c h. let bad : None ≡ Some c = sym (ap (λ o. owner (or_free o)) (map.get-empty chan_cmp x)) ∙ h in cc;
  serving_is_owned = λ c r x e h. absurd (no_entry nat_cmp c r e);
  stage_of_kind = λ c r a e h. absurd (no_entry nat_cmp c r e);
  target_by_stage = λ c r a e h. absurd (no_entry nat_cmp c r e);
  cells_differ = λ c r x y e h g. absurd (no_entry nat_cmp c r e);
  serving_while_open = λ c r a e h. absurd (no_entry nat_cmp c r e);
  serving_at_rest = λ c r e h. absurd (no_entry nat_cmp c r e);
  reference_is_used = λ c r k e h. absurd (no_entry nat_cmp c r e);
  user_has_reference = λ k c e. absurd (no_entry reference_cmp k c e);
  reference_by_stage = λ c r a e h. absurd (no_entry nat_cmp c r e);
  timers = λ c. map.get-empty nat_cmp c ∙ sym (ap armed_in (map.get-empty nat_cmp c));
}
  where
    no_entry : {K X : Type 0} (R : K → K → Ordering) (k : K) (v : X) → map.get (map.empty {R = R}) k ≡ Some v → ⊥
    no_entry R k v e = let bad : None ≡ Some v = sym (map.get-empty R k) ∙ e in cc

-- from a sound book, by induction over the events
sound_run : (b : State) (es : List Event) → IsSound b → IsSound (run_book b es)
sound_run b [] sound = sound
sound_run b (e ∷ es) sound = sound_run (step b e) es (sound_step b e sound)

pub sound_runs : RunsAreSound
sound_runs site es = sound_run (empty_book site) es (sound_empty site)
