-- The stored inverses of an attempt, run last first, are its undo.
use Rattle.std.proofs.Common.{◌≡◌, ℕ, Option, Some, None, refl, sym, ◌∙◌, ap, subst}
use Rattle.std.specs.Option.{option_map}
use Rattle.std.specs.FinMap as map
use Rattle.std.specs.FinMap.{FinMap}
use Rattle.channel_fsm.specs.declared.ChanId.{ChanId}
use Rattle.channel_fsm.specs.declared.ChanState.{ChanState}
use Rattle.channel_fsm.specs.declared.ChanState.TheVariants.{Held, Pending, On, Off}
use Rattle.radio_tables.specs.declared.kinds.CallRecord.{CallRecord}
use Rattle.dense_tables.specs.declared.references.Reference.{Reference}
use Rattle.radio_tables.specs.declared.kinds.AttemptKind.{AttemptKind}
use Rattle.radio_tables.specs.declared.kinds.AttemptKind.TheVariants.{Internal, Incoming, Outgoing}
use Rattle.radio_tables.specs.declared.kinds.Stage.{Stage}
use Rattle.radio_tables.specs.declared.kinds.Stage.TheVariants.{Taken, Reserved, Sent, Refused, Confirmed, Commanded, Detected, Required, Ordered}
use Rattle.attempt_journal.specs.declared.Inverse.TheVariants.{FreeChannel, DropReference, Uncommand, Undetect, Disarm}
use Rattle.attempt_journal.specs.declared.Timer.{Timer}
use Rattle.attempt_journal.specs.declared.Timer.TheVariants.{T3103, T7, T8}
use Rattle.radio_tables.specs.Keys.{chan_cmp, reference_cmp}
use Rattle.radio_tables.specs.Maps.{put, with_change}
use Rattle.channel_fsm.specs.declared.ChanEvent.TheVariants.{Drop, SwitchOff}
use Rattle.radio_book.specs.Channels.{channel_step}
use Rattle.radio_book.specs.State.{State, apply, or_free, state_of, record_of}
use Rattle.radio_book.specs.Table.{left_state, resting_record, reference_at, reference_held, undo_change}
use Rattle.radio_book.specs.Sound.{IsSound, IsStageOf, HasTarget, HasReference, armed_in}
use Rattle.radio_tables.specs.Stages.{stage_row, opening_inverse}
use Rattle.radio_book.specs.Journal.{InversesUndo, journal_of, reference_removal_of_call, record_change, timer_change, disarming, back_one_stage, run_inverse, run_back}
use Rattle.std.specs.Ordering.{nat_cmp}
use Rattle.std.specs.Cmp.{nat_cmp_total}
use Rattle.std.specs.FinMap.{nat_cmp-IsAntisymmetric}
use Rattle.radio_tables.proofs.MapFacts.{get_put_same, state_same, record_same, put_put_same, put_again}
use Rattle.radio_book.proofs.Frame.{attempting, attempt_of, call_of}

-- the channels after the first inverse and the one that frees the target

abbrev switched : ChanId → FinMap chan_cmp ChanState → FinMap chan_cmp ChanState
switched t m = with_change m (channel_step t SwitchOff (or_free (map.get m t)))

abbrev freed : ChanId → FinMap chan_cmp ChanState → FinMap chan_cmp ChanState
freed t m = with_change m (channel_step t Drop (or_free (map.get m t)))

-- a held target is freed, and so left
held_is_left : (m : FinMap chan_cmp ChanState) (t : ChanId) (c : ℕ) → or_free (map.get m t) ≡ Held c → freed t m ≡ put m t (left_state (or_free (map.get m t)))
held_is_left m t c e = ap (λ z. with_change m (channel_step t Drop z)) e ∙ sym (ap (λ z. put m t (left_state z)) e)

-- a target that may be active is off, and so left
off_is_left : (m : FinMap chan_cmp ChanState) (t : ChanId) (z : ChanState) → or_free (map.get m t) ≡ z → channel_step t SwitchOff z ≡ Some (t, Some Off) → left_state z ≡ Some Off → freed t (switched t m) ≡ put m t (left_state (or_free (map.get m t)))
off_is_left m t z e off left =
    ap (λ o. freed t (with_change m o)) (ap (channel_step t SwitchOff) e ∙ off)
    ∙ ap (λ y. with_change (put m t (Some Off)) (channel_step t Drop y)) (state_same m t (Some Off))
    ∙ sym (ap (put m t) (ap left_state e ∙ left))

-- the timers once the opening was taken back: with a record that is forgotten goes its timer
abbrev rested_timers : AttemptKind → FinMap nat_cmp Timer → ℕ → FinMap nat_cmp Timer
rested_timers Internal m c = m
rested_timers Incoming m c = put m c None
rested_timers Outgoing m c = m

-- the book with other channels and references
abbrev parts : State → FinMap chan_cmp ChanState → FinMap reference_cmp ℕ → State
parts b chs refs = record { site = b.site; channels = chs; calls = b.calls; references = refs; timers = b.timers }

-- the book without the attempt, with these timers
abbrev undone : State → ℕ → Option ChanId → AttemptKind → Stage → ChanId → Option ℕ → FinMap nat_cmp Timer → State
undone b c s k g t n timers = record {
  site = b.site;
  channels = put b.channels t (left_state (state_of b t));
  calls = put b.calls c (resting_record k (attempting s k g (Some t) n));
  references = with_change b.references (option_map (λ (j : Reference). (j, None)) (reference_held (Some t) n));
  timers = timers;
}

-- of a record only what rests is kept
rests_alike : (k : AttemptKind) (s o : Option ChanId) (g h : Stage) (n : Option ℕ) → resting_record k (attempting s k g o n) ≡ resting_record k (attempting s k h o n)
rests_alike Internal s o g h n = refl
rests_alike Incoming s o g h n = refl
rests_alike Outgoing s o g h n = refl

module _ (c : ℕ) (s : Option ChanId) (k : AttemptKind) (t : ChanId) where
  -- the last inverse ends the attempt
  ended : (b : State) (g : Stage) (n : Option ℕ) → record_of b c ≡ Some (attempting s k g (Some t) n) → (chs : FinMap chan_cmp ChanState) (refs : FinMap reference_cmp ℕ) →
      run_inverse c (opening_inverse k) (parts b chs refs) ≡ record { site = b.site; channels = chs; calls = put b.calls c (resting_record k (attempting s k g (Some t) n)); references = refs; timers = rested_timers k b.timers c }
  ended b g n e chs refs = by k
    where
      by : (k : AttemptKind) → run_inverse c (opening_inverse k) (parts b chs refs) ≡ record { site = b.site; channels = chs; calls = put b.calls c (resting_record k (attempting s k g (Some t) n)); references = refs; timers = rested_timers k b.timers c }
      by Internal = λ i. record { site = b.site; channels = chs; calls = with_change b.calls (record_change c (λ r. record r { attempt = None }) (e i)); references = refs; timers = b.timers }
      by Incoming = refl
      by Outgoing = λ i. record { site = b.site; channels = chs; calls = with_change b.calls (record_change c (λ r. record r { attempt = None }) (e i)); references = refs; timers = b.timers }

  -- the reference is dropped, and the target is left
  closed : (b : State) (g : Stage) (m : ℕ) → record_of b c ≡ Some (attempting s k g (Some t) (Some m)) → (chs : FinMap chan_cmp ChanState) → freed t chs ≡ put b.channels t (left_state (state_of b t)) →
      run_inverse c (opening_inverse k) (run_inverse c (FreeChannel t) (run_inverse c (DropReference m) (parts b chs b.references)))
      ≡ undone b c s k g t (Some m) (rested_timers k b.timers c)
  closed b g m e chs left =
      ap (λ o. run_inverse c (opening_inverse k) (parts b (freed t chs) (with_change b.references (reference_removal_of_call m o)))) e
      ∙ ended b g (Some m) e (freed t chs) (put b.references (reference_at t m) None)
      ∙ (λ i. record { site = b.site; channels = left i; calls = put b.calls c (resting_record k (attempting s k g (Some t) (Some m))); references = put b.references (reference_at t m) None; timers = rested_timers k b.timers c })

  -- the stages in which no timer is armed
  taken_undone : (b : State) (n : Option ℕ) → record_of b c ≡ Some (attempting s k Taken (Some t) n) → state_of b t ≡ Held c → HasReference (stage_row Taken).has_reference n →
      run_back c (journal_of (Some (record { kind = k; stage = Taken; target = Some t; reference = n }))) b ≡ undone b c s k Taken t n (rested_timers k b.timers c)
  taken_undone b (Some m) e is has = cc
  taken_undone b None e is has =
      ended b Taken None e (freed t b.channels) b.references
      ∙ (λ i. record { site = b.site; channels = held_is_left b.channels t c is i; calls = put b.calls c (resting_record k (attempting s k Taken (Some t) None)); references = b.references; timers = rested_timers k b.timers c })

  reserved_undone : (b : State) (n : Option ℕ) → record_of b c ≡ Some (attempting s k Reserved (Some t) n) → state_of b t ≡ Held c → HasReference (stage_row Reserved).has_reference n →
      run_back c (journal_of (Some (record { kind = k; stage = Reserved; target = Some t; reference = n }))) b ≡ undone b c s k Reserved t n (rested_timers k b.timers c)
  reserved_undone b None e is has = cc
  reserved_undone b (Some m) e is has = closed b Reserved m e b.channels (held_is_left b.channels t c is)

  sent_undone : (b : State) (n : Option ℕ) → record_of b c ≡ Some (attempting s k Sent (Some t) n) → state_of b t ≡ Pending c → HasReference (stage_row Sent).has_reference n →
      run_back c (journal_of (Some (record { kind = k; stage = Sent; target = Some t; reference = n }))) b ≡ undone b c s k Sent t n (rested_timers k b.timers c)
  sent_undone b None e is has = cc
  sent_undone b (Some m) e is has = closed b Sent m e (switched t b.channels) (off_is_left b.channels t (Pending c) is refl refl)

  refused_undone : (b : State) (n : Option ℕ) → record_of b c ≡ Some (attempting s k Refused (Some t) n) → state_of b t ≡ Held c → HasReference (stage_row Refused).has_reference n →
      run_back c (journal_of (Some (record { kind = k; stage = Refused; target = Some t; reference = n }))) b ≡ undone b c s k Refused t n (rested_timers k b.timers c)
  refused_undone b None e is has = cc
  refused_undone b (Some m) e is has =
      closed b Refused m e (switched t b.channels) (ap (λ o. freed t (with_change b.channels o)) (ap (channel_step t SwitchOff) is) ∙ held_is_left b.channels t c is)

  confirmed_undone : (b : State) (n : Option ℕ) → record_of b c ≡ Some (attempting s k Confirmed (Some t) n) → state_of b t ≡ On c → HasReference (stage_row Confirmed).has_reference n →
      run_back c (journal_of (Some (record { kind = k; stage = Confirmed; target = Some t; reference = n }))) b ≡ undone b c s k Confirmed t n (rested_timers k b.timers c)
  confirmed_undone b None e is has = cc
  confirmed_undone b (Some m) e is has = closed b Confirmed m e (switched t b.channels) (off_is_left b.channels t (On c) is refl refl)

  -- an attempt goes back one stage
  abbrev moved_back : State → Stage → Option ℕ → State
  moved_back b h n = record { site = b.site; channels = b.channels; calls = put b.calls c (Some (attempting s k h (Some t) n)); references = b.references; timers = b.timers }

  -- what is undone from the stage before is undone
  covered : (b : State) (g h : Stage) (n : Option ℕ) (timers : FinMap nat_cmp Timer) → undone (moved_back b h n) c s k h t n timers ≡ undone b c s k g t n timers
  covered b g h n timers = λ i. record {
    site = b.site;
    channels = put b.channels t (left_state (state_of b t));
    calls = (put_put_same nat_cmp_total nat_cmp-IsAntisymmetric b.calls c (Some (attempting s k h (Some t) n)) (resting_record k (attempting s k h (Some t) n))
        ∙ ap (put b.calls c) (rests_alike k s (Some t) h g n)) i;
    references = with_change b.references (option_map (λ (j : Reference). (j, None)) (reference_held (Some t) n));
    timers = timers;
  }

  -- the timer is disarmed
  abbrev without_timer_of : State → State
  without_timer_of b = record { site = b.site; channels = b.channels; calls = b.calls; references = b.references; timers = put b.timers c None }

  commanded_undone : (b : State) (n : Option ℕ) → record_of b c ≡ Some (attempting s k Commanded (Some t) n) → state_of b t ≡ On c → HasReference (stage_row Commanded).has_reference n → map.get b.timers c ≡ Some T3103 →
      run_back c (journal_of (Some (record { kind = k; stage = Commanded; target = Some t; reference = n }))) b ≡ undone b c s k Commanded t n (rested_timers k (put b.timers c None) c)
  commanded_undone b n e is has armed =
      let disarmed : run_inverse c (Disarm T3103) b ≡ without_timer_of b = λ i. record { site = b.site; channels = b.channels; calls = b.calls; references = b.references; timers = with_change b.timers (disarming c T3103 (armed i) (e i)) } in
      let back : run_inverse c Uncommand (without_timer_of b) ≡ moved_back (without_timer_of b) Confirmed n = λ i. record { site = b.site; channels = b.channels; calls = with_change b.calls (record_change c back_one_stage (e i)); references = b.references; timers = put b.timers c None } in
      ap (λ x. run_back c (journal_of (Some (record { kind = k; stage = Confirmed; target = Some t; reference = n }))) (run_inverse c Uncommand x)) disarmed
      ∙ ap (run_back c (journal_of (Some (record { kind = k; stage = Confirmed; target = Some t; reference = n })))) back
      ∙ confirmed_undone (moved_back (without_timer_of b) Confirmed n) n (record_same b.calls c (Some (attempting s k Confirmed (Some t) n))) is has
      ∙ covered b Commanded Confirmed n (rested_timers k (put b.timers c None) c)

  detected_undone : (b : State) (n : Option ℕ) → record_of b c ≡ Some (attempting s k Detected (Some t) n) → state_of b t ≡ On c → HasReference (stage_row Detected).has_reference n → map.get b.timers c ≡ Some T3103 →
      run_back c (journal_of (Some (record { kind = k; stage = Detected; target = Some t; reference = n }))) b ≡ undone b c s k Detected t n (rested_timers k (put b.timers c None) c)
  detected_undone b n e is has armed =
      let back : run_inverse c Undetect b ≡ moved_back b Commanded n = λ i. record { site = b.site; channels = b.channels; calls = with_change b.calls (record_change c back_one_stage (e i)); references = b.references; timers = b.timers } in
      ap (run_back c (journal_of (Some (record { kind = k; stage = Commanded; target = Some t; reference = n })))) back
      ∙ commanded_undone (moved_back b Commanded n) n (record_same b.calls c (Some (attempting s k Commanded (Some t) n))) is has armed
      ∙ covered b Detected Commanded n (rested_timers k (put b.timers c None) c)

-- once the opening was taken back no timer is left: where none was armed, and where it was disarmed
none_left : (k : AttemptKind) (m : FinMap nat_cmp Timer) (c : ℕ) → map.get m c ≡ None → rested_timers k m c ≡ m
none_left Internal m c absent = refl
none_left Incoming m c absent = put_again nat_cmp_total nat_cmp-IsAntisymmetric m c None absent
none_left Outgoing m c absent = refl

disarmed_left : (k : AttemptKind) (m : FinMap nat_cmp Timer) (c : ℕ) → rested_timers k (put m c None) c ≡ put m c None
disarmed_left Internal m c = refl
disarmed_left Incoming m c = put_put_same nat_cmp_total nat_cmp-IsAntisymmetric m c None None
disarmed_left Outgoing m c = refl

-- the undo of the table, by the timer that is armed
abbrev undone_by_table : State → ℕ → Option ChanId → AttemptKind → Stage → Option ChanId → Option ℕ → Option Timer → State
undone_by_table b c s k g o n armed = apply (undo_change c (attempting s k g o n) (record { kind = k; stage = g; target = o; reference = n }) (state_of b) armed) b

-- the call moves to another controller: it has no target, and its attempt opened by no inverse but Settle
module _ (b : State) (c : ℕ) (s : Option ChanId) (n : Option ℕ) where
  required_undone : record_of b c ≡ Some (attempting s Outgoing Required None n) → map.get b.timers c ≡ Some T7 →
      run_back c (journal_of (Some (record { kind = Outgoing; stage = Required; target = None; reference = n }))) b ≡ undone_by_table b c s Outgoing Required None n (Some T7)
  required_undone e armed = λ i. record {
    site = b.site;
    channels = b.channels;
    calls = with_change b.calls (record_change c (λ r. record r { attempt = None }) (e i));
    references = b.references;
    timers = with_change b.timers (disarming c T7 (armed i) (e i));
  }

  -- T7 is armed again in place of T8
  abbrev armed_again : Option Timer → Option CallRecord → FinMap nat_cmp Timer
  armed_again armed found = with_change (with_change b.timers (disarming c T8 armed found)) (timer_change c (Some T7) found)

  ordered_undone : record_of b c ≡ Some (attempting s Outgoing Ordered None n) → map.get b.timers c ≡ Some T8 →
      run_back c (journal_of (Some (record { kind = Outgoing; stage = Ordered; target = None; reference = n }))) b ≡ undone_by_table b c s Outgoing Ordered None n (Some T8)
  ordered_undone e armed =
      let again = get_put_same nat_cmp_total (put b.timers c None) c (Some T7) in
      let timers =
      (λ i. with_change (armed_again (armed i) (e i)) (disarming c T7 (map.get (armed_again (armed i) (e i)) c) (e i)))
      ∙ ap (λ m. with_change (put (put b.timers c None) c (Some T7)) (disarming c T7 m (Some (attempting s Outgoing Ordered None n)))) again
      ∙ put_put_same nat_cmp_total nat_cmp-IsAntisymmetric (put b.timers c None) c (Some T7) None
      ∙ put_put_same nat_cmp_total nat_cmp-IsAntisymmetric b.timers c None None in
      λ i. record {
        site = b.site;
        channels = b.channels;
        calls = with_change b.calls (record_change c (λ r. record r { attempt = None }) (e i));
        references = b.references;
        timers = timers i;
      }

module _ (b : State) (c : ℕ) (s : Option ChanId) (k : AttemptKind) (t : ChanId) (n : Option ℕ) where
  -- with the timers that are left
  with_timers : (g : Stage) (one other : FinMap nat_cmp Timer) → one ≡ other → undone b c s k g t n one ≡ undone b c s k g t n other
  with_timers g one other same = ap (undone b c s k g t n) same

  by_stage : (g : Stage) → record_of b c ≡ Some (attempting s k g (Some t) n) → HasTarget c (stage_row g).target (Some t) (state_of b) → HasReference (stage_row g).has_reference n → map.get b.timers c ≡ (stage_row g).timer →
      run_back c (journal_of (Some (record { kind = k; stage = g; target = Some t; reference = n }))) b ≡ undone_by_table b c s k g (Some t) n (stage_row g).timer
  by_stage Taken e is has m = taken_undone c s k t b n e is has ∙ with_timers Taken _ _ (none_left k b.timers c m)
  by_stage Reserved e is has m = reserved_undone c s k t b n e is has ∙ with_timers Reserved _ _ (none_left k b.timers c m)
  by_stage Sent e is has m = sent_undone c s k t b n e is has ∙ with_timers Sent _ _ (none_left k b.timers c m)
  by_stage Refused e is has m = refused_undone c s k t b n e is has ∙ with_timers Refused _ _ (none_left k b.timers c m)
  by_stage Confirmed e is has m = confirmed_undone c s k t b n e is has ∙ with_timers Confirmed _ _ (none_left k b.timers c m)
  by_stage Commanded e is has m = commanded_undone c s k t b n e is has m ∙ with_timers Commanded _ _ (disarmed_left k b.timers c)
  by_stage Detected e is has m = detected_undone c s k t b n e is has m ∙ with_timers Detected _ _ (disarmed_left k b.timers c)
  by_stage Required e is has m = absurd is
  by_stage Ordered e is has m = absurd is

-- an outgoing attempt, by its stage
by_outgoing_stage : (b : State) (c : ℕ) (s : Option ChanId) (k : AttemptKind) (g : Stage) (n : Option ℕ) → record_of b c ≡ Some (attempting s k g None n) → HasTarget c (stage_row g).target None (state_of b) → IsStageOf k (stage_row g).target → map.get b.timers c ≡ (stage_row g).timer →
    run_back c (journal_of (Some (record { kind = k; stage = g; target = None; reference = n }))) b ≡ undone_by_table b c s k g None n (stage_row g).timer
by_outgoing_stage b c s k Taken n e is kind armed = absurd is
by_outgoing_stage b c s k Reserved n e is kind armed = absurd is
by_outgoing_stage b c s k Sent n e is kind armed = absurd is
by_outgoing_stage b c s k Refused n e is kind armed = absurd is
by_outgoing_stage b c s k Confirmed n e is kind armed = absurd is
by_outgoing_stage b c s k Commanded n e is kind armed = absurd is
by_outgoing_stage b c s k Detected n e is kind armed = absurd is
by_outgoing_stage b c s Internal Required n e is kind armed = absurd kind
by_outgoing_stage b c s Incoming Required n e is kind armed = absurd kind
by_outgoing_stage b c s Outgoing Required n e is kind armed = required_undone b c s n e armed
by_outgoing_stage b c s Internal Ordered n e is kind armed = absurd kind
by_outgoing_stage b c s Incoming Ordered n e is kind armed = absurd kind
by_outgoing_stage b c s Outgoing Ordered n e is kind armed = ordered_undone b c s n e armed

-- for the parts of an attempt
by_parts : (b : State) → IsSound b → (c : ℕ) (s : Option ChanId) (k : AttemptKind) (g : Stage) (o : Option ChanId) (n : Option ℕ) → record_of b c ≡ Some (attempting s k g o n) →
    run_back c (journal_of (Some (record { kind = k; stage = g; target = o; reference = n }))) b ≡ undone_by_table b c s k g o n (map.get b.timers c)
by_parts b sound c s k g o n e =
    let has = attempt_of _ _ c s k g o n (call_of b sound c _ e) in
    let armed = sound.timers c ∙ ap armed_in e in
    by o e has.state ∙ sym (ap (undone_by_table b c s k g o n) armed)
  where
    by : (o : Option ChanId) → record_of b c ≡ Some (attempting s k g o n) → HasTarget c (stage_row g).target o (state_of b) →
        run_back c (journal_of (Some (record { kind = k; stage = g; target = o; reference = n }))) b ≡ undone_by_table b c s k g o n (stage_row g).timer
    by None e is = by_outgoing_stage b c s k g n e is (sound.stage_of_kind c _ (record { kind = k; stage = g; target = None; reference = n }) e refl) (sound.timers c ∙ ap armed_in e)
    by (Some t) e is = by_stage b c s k t n g e is (sound.reference_by_stage c _ (record { kind = k; stage = g; target = Some t; reference = n }) e refl) (sound.timers c ∙ ap armed_in e)

pub inverses_undo : InversesUndo
inverses_undo c r a b sound e has =
    subst (λ o. run_back c (journal_of o) b ≡ apply (undo_change c (record r { attempt = o }) a (state_of b) (map.get b.timers c)) b) (sym has)
    (by_parts b sound c r.serving a.kind a.stage a.target a.reference (e ∙ ap (λ o. Some (record r { attempt = o })) has))
