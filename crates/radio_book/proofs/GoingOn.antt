-- An attempt that goes on changes what it has, and nothing else in the book.
use Rattle.std.proofs.Common.{◌≡◌, inl, inr, ℕ, Bool, true, false, ◌&&◌, if◌then◌else◌, IsTrue, is_some, Option, Some, None, refl, sym, ◌∙◌, ap, subst}
use Rattle.std.specs.Option.{option_map}
use Rattle.std.specs.Ordering.{nat_cmp}
use Rattle.std.specs.Cmp.{nat_cmp_total}
use Rattle.std.specs.FinMap as map
use Rattle.std.specs.FinMap.{FinMap, nat_cmp-IsAntisymmetric}
use Rattle.channel_fsm.specs.declared.ChanId.{ChanId}
use Rattle.channel_fsm.specs.declared.ChanState.{ChanState}
use Rattle.channel_fsm.specs.declared.ChanState.TheVariants.{Free, Held, Pending, On, Off}
use Rattle.attempt_journal.specs.declared.Timer.{Timer}
use Rattle.attempt_journal.specs.declared.Timer.TheVariants.{T3103, T8}
use Rattle.radio_tables.specs.declared.kinds.AttemptKind.{AttemptKind}
use Rattle.radio_tables.specs.declared.kinds.AttemptKind.TheVariants.{Internal, Incoming, Outgoing}
use Rattle.radio_tables.specs.declared.kinds.Attempt.{Attempt}
use Rattle.radio_tables.specs.declared.kinds.CallRecord.{CallRecord}
use Rattle.radio_book.specs.declared.event.Kind.{Kind}
use Rattle.radio_book.specs.declared.event.Kind.TheVariants as kind
use Rattle.radio_book.specs.declared.event.Why.{Why}
use Rattle.radio_book.specs.declared.event.Why.TheVariants.{Asked, Expired}
use Rattle.radio_tables.specs.declared.kinds.Stage.{Stage}
use Rattle.radio_tables.specs.declared.kinds.Stage.TheVariants.{Taken, Reserved, Sent, Refused, Confirmed, Commanded, Detected, Required, Ordered}
use Rattle.dense_tables.specs.declared.references.Reference.{Reference}
use Rattle.radio_book.specs.declared.event.Event.{Event}
use Rattle.radio_book.specs.declared.event.Event.TheVariants as event
use Rattle.radio_book.specs.declared.event.Refusal.{Refusal}
use Rattle.radio_book.specs.declared.event.Refusal.TheVariants.{Unexpected, WrongPhase, NotArmed}
use Rattle.radio_book.specs.declared.event.Reply.{Reply}
use Rattle.radio_book.specs.declared.event.Reply.TheVariants.{Done}
use Rattle.cell_table.specs.Site.{is_traffic}
use Rattle.radio_tables.specs.Maps.{Entry, put, with_change}
use Rattle.radio_book.specs.State.{State, apply, state_of, record_of}
use Rattle.radio_tables.specs.Stages.{stage_row}
use Rattle.radio_book.specs.Table.{in_way, owner, Outcome, Refuses, Accepts, row, step, reply_of, reply_to, book_after, with_entry, resting_record, reference_at, reference_held, open_row, clear_row, look_row, take_row, reserve_row, activate_row, command_row, complete_row, undo_row, undo_by, undo_attempt, is_armed, require_row, order_row, left_row, moved_entry, confirm_row, refuse_row, released_row, detect_row, detect_by, owner_row, needs}
use Rattle.radio_book.specs.Sound.{IsSound, HasReference}
use Rattle.radio_book.specs.Kinds.{call_of, channel_of, EndsIt, number_of, is_accepted, is_reserved}
use Rattle.radio_book.specs.Others.{without_attempt_of, without_attempt_in, IsOpen, number_after, OwnStepsChangeTheAttempt}
use Rattle.radio_book.proofs.Rows.{reserve_at, reserve_number, activate_at, command_at, complete_at, order_at, left_at, detect_at}
use Rattle.radio_tables.proofs.KeyFacts.{chan_total, chan_exact, reference_total, reference_exact, same_chan_itself}
use Rattle.radio_tables.proofs.MapFacts.{get_put_same, put_put_same, put_again, record_same}
use Rattle.radio_book.proofs.Frame.{attempting, same_some, aimed_is_owned}
use Rattle.radio_book.proofs.SoundParts.{one_owner}

-- the attempt is open with this target and this number, and what differs from the book before is gone with it
record Goes (b : State) (c : ℕ) (s : Option ChanId) (k : AttemptKind) (o : Option ChanId) (n : Option ℕ) (after : State) : Type 0 where
  stage : Stage
  still : record_of after c ≡ Some (attempting s k stage o n)
  rest : without_attempt_of c after ≡ without_attempt_of c b

abbrev Keeps : State → ℕ → Option ChanId → AttemptKind → Option ChanId → Option ℕ → Outcome → Type 0
Keeps b c s k o n (Refuses refusal) = Unit {0}
Keeps b c s k o n (Accepts change reply) = Goes b c s k o n (apply change b)

-- where the event is accepted, the attempt that had no number gets one, and goes on
abbrev Reserves : State → ℕ → Option ChanId → AttemptKind → Option ChanId → Option ℕ → ℕ → Outcome → Type 0
Reserves b c s k o n m (Refuses refusal) = Unit {0}
Reserves b c s k o n m (Accepts change reply) = (n ≡ None) × (reply ≡ Done) × Goes b c s k o (Some m) (apply change b)

rests_alike : (k : AttemptKind) (s o : Option ChanId) (g h : Stage) (n m : Option ℕ) → resting_record k (attempting s k g o n) ≡ resting_record k (attempting s k h o m)
rests_alike Internal s o g h n m = refl
rests_alike Incoming s o g h n m = refl
rests_alike Outgoing s o g h n m = refl

timer_settled : (m : FinMap nat_cmp Timer) (c : ℕ) (o : Option Timer) → map.get m c ≡ o → put m c None ≡ with_change m (option_map (λ (t : Timer). (c, None)) o)
timer_settled m c None e = put_again nat_cmp_total nat_cmp-IsAntisymmetric m c None e
timer_settled m c (Some t) e = refl

-- a timer that is armed goes with the attempt, as the one before
timer_covered : (m : FinMap nat_cmp Timer) (c : ℕ) (t : Timer) →
    with_change (put m c (Some t)) (option_map (λ (t : Timer). (c, None)) (map.get (put m c (Some t)) c)) ≡ with_change m (option_map (λ (t : Timer). (c, None)) (map.get m c))
timer_covered m c t =
    ap (λ o. with_change (put m c (Some t)) (option_map (λ (t : Timer). (c, None)) o)) (get_put_same nat_cmp_total m c (Some t))
    ∙ put_put_same nat_cmp_total nat_cmp-IsAntisymmetric m c (Some t) None ∙ timer_settled m c (map.get m c) refl

module _ (b : State) (sound : IsSound b) (c : ℕ) (s : Option ChanId) (k : AttemptKind) where
  -- the attempt at another stage, perhaps with a reference, while channel, reference and timer change
  moved : (g h : Stage) (o : Option ChanId) (n m : Option ℕ) (channel : Option (Entry ChanId ChanState)) (reference : Option (Entry Reference ℕ)) (timer : Option (Entry ℕ Timer)) →
      record_of b c ≡ Some (attempting s k g o n) →
      with_change (with_change b.channels channel) (option_map (λ (t : ChanId). (t, None)) o) ≡ with_change b.channels (option_map (λ (t : ChanId). (t, None)) o) →
      with_change (with_change b.references reference) (option_map (λ (j : Reference). (j, None)) (reference_held o m)) ≡ with_change b.references (option_map (λ (j : Reference). (j, None)) (reference_held o n)) →
      with_change (with_change b.timers timer) (option_map (λ (t : Timer). (c, None)) (map.get (with_change b.timers timer) c)) ≡ with_change b.timers (option_map (λ (t : Timer). (c, None)) (map.get b.timers c)) →
      Goes b c s k o m (apply (record { channel = channel; call = with_entry c (attempting s k h o m); reference = reference; timer = timer }) b)
  moved g h o n m channel reference timer known channels references timers =
      let calls = put_put_same nat_cmp_total nat_cmp-IsAntisymmetric b.calls c (Some (attempting s k h o m)) (resting_record k (attempting s k h o m))
      ∙ ap (put b.calls c) (rests_alike k s o h g m n) in
      let still = record_same b.calls c (Some (attempting s k h o m)) in
      record {
        stage = h;
        still = still;
        rest = ap (λ f. without_attempt_in c f (apply (record { channel = channel; call = with_entry c (attempting s k h o m); reference = reference; timer = timer }) b)) still
            ∙ (λ i. record { site = b.site; channels = channels i; calls = calls i; references = references i; timers = timers i })
            ∙ sym (ap (λ f. without_attempt_in c f b) known);
      }

  covered : (t : ChanId) (v : ChanState) → put (put b.channels t (Some v)) t None ≡ put b.channels t None
  covered t v = put_put_same chan_total chan_exact b.channels t (Some v) None

  number_kept : (t : ChanId) (n : Option ℕ) (m : ℕ) (user : Option ℕ) → record_of b c ≡ Some (attempting s k Taken (Some t) n) → n ≡ None → map.get b.references (reference_at t m) ≡ user →
      Reserves b c s k (Some t) n m (reserve_number c m (attempting s k Taken (Some t) n) (record { kind = k; stage = Taken; target = Some t; reference = n }) t user)
  number_kept t n m (Some d) known none unused = tt
  number_kept t n m None known none unused = (
    none,
    refl,
    moved Taken Reserved (Some t) n (Some m) None (Some (reference_at t m, Some c)) None known refl
        (put_put_same reference_total reference_exact b.references (reference_at t m) (Some c) None
        ∙ put_again reference_total reference_exact b.references (reference_at t m) None unused
        ∙ sym (ap (λ n. with_change b.references (option_map (λ (j : Reference). (j, None)) (reference_held (Some t) n))) none)) refl,
  )

  reserve_kept : (m : ℕ) (g : Stage) (o : Option ChanId) (n : Option ℕ) → record_of b c ≡ Some (attempting s k g o n) → HasReference (stage_row g).has_reference n →
      Reserves b c s k o n m (reserve_at c m (attempting s k g o n) (record { kind = k; stage = g; target = o; reference = n }) g o (map.get b.references))
  reserve_kept m Taken None n known has = tt
  reserve_kept m Taken (Some t) n known has = number_kept t n m (map.get b.references (reference_at t m)) known has refl
  reserve_kept m Reserved o n known has = tt
  reserve_kept m Sent o n known has = tt
  reserve_kept m Refused o n known has = tt
  reserve_kept m Confirmed o n known has = tt
  reserve_kept m Commanded o n known has = tt
  reserve_kept m Detected o n known has = tt
  reserve_kept m Required o n known has = tt
  reserve_kept m Ordered o n known has = tt

  activate_kept : (g : Stage) (o : Option ChanId) (n : Option ℕ) → record_of b c ≡ Some (attempting s k g o n) →
      Keeps b c s k o n (activate_at c (attempting s k g o n) (record { kind = k; stage = g; target = o; reference = n }) g o)
  activate_kept Reserved None n known = tt
  activate_kept Reserved (Some t) n known = moved Reserved Sent (Some t) n n (with_entry t (Pending c)) None None known (covered t (Pending c)) refl refl
  activate_kept Taken o n known = tt
  activate_kept Sent o n known = tt
  activate_kept Refused o n known = tt
  activate_kept Confirmed o n known = tt
  activate_kept Commanded o n known = tt
  activate_kept Detected o n known = tt
  activate_kept Required o n known = tt
  activate_kept Ordered o n known = tt

  command_kept : (g : Stage) (o : Option ChanId) (n : Option ℕ) → record_of b c ≡ Some (attempting s k g o n) →
      Keeps b c s k o n (command_at c (attempting s k g o n) (record { kind = k; stage = g; target = o; reference = n }) g)
  command_kept Confirmed o n known = moved Confirmed Commanded o n n None None (with_entry c T3103) known refl refl (timer_covered b.timers c T3103)
  command_kept Taken o n known = tt
  command_kept Reserved o n known = tt
  command_kept Sent o n known = tt
  command_kept Refused o n known = tt
  command_kept Commanded o n known = tt
  command_kept Detected o n known = tt
  command_kept Required o n known = tt
  command_kept Ordered o n known = tt

  order_kept : (g : Stage) (o : Option ChanId) (n : Option ℕ) → record_of b c ≡ Some (attempting s k g o n) →
      Keeps b c s k o n (order_at c (attempting s k g o n) (record { kind = k; stage = g; target = o; reference = n }) g)
  order_kept Required o n known = moved Required Ordered o n n None None (with_entry c T8) known refl refl (timer_covered b.timers c T8)
  order_kept Taken o n known = tt
  order_kept Reserved o n known = tt
  order_kept Sent o n known = tt
  order_kept Refused o n known = tt
  order_kept Confirmed o n known = tt
  order_kept Commanded o n known = tt
  order_kept Detected o n known = tt
  order_kept Ordered o n known = tt

  -- a station's answer about the target
  answer_kept : (g h : Stage) (t : ChanId) (n : Option ℕ) (v : ChanState) → record_of b c ≡ Some (attempting s k g (Some t) n) →
      Goes b c s k (Some t) n (apply (record { channel = with_entry t v; call = moved_entry t h c (record_of b c); reference = None; timer = None }) b)
  answer_kept g h t n v known =
      let entry : moved_entry t h c (record_of b c) ≡ with_entry c (attempting s k h (Some t) n)
      = ap (moved_entry t h c) known ∙ ap (λ q. if q then with_entry c (attempting s k h (Some t) n) else None) (same_chan_itself t) in
      subst (λ f. Goes b c s k (Some t) n (apply (record { channel = with_entry t v; call = f; reference = None; timer = None }) b)) (sym entry)
      (moved g h (Some t) n n (with_entry t v) None None known (covered t v) refl refl)

  detect_kept : (g : Stage) (t : ChanId) (n : Option ℕ) → record_of b c ≡ Some (attempting s k g (Some t) n) →
      Keeps b c s k (Some t) n (detect_at t c (attempting s k g (Some t) n) (record { kind = k; stage = g; target = Some t; reference = n }) g)
  detect_kept Commanded t n known = moved Commanded Detected (Some t) n n None None None known refl refl refl
  detect_kept Taken t n known = tt
  detect_kept Reserved t n known = tt
  detect_kept Sent t n known = tt
  detect_kept Refused t n known = tt
  detect_kept Confirmed t n known = tt
  detect_kept Detected t n known = tt
  detect_kept Required t n known = tt
  detect_kept Ordered t n known = tt

-- events that end an attempt, where they aren't accepted
module _ (b : State) (c : ℕ) (s : Option ChanId) (k : AttemptKind) (o : Option ChanId) (n : Option ℕ) (r : CallRecord) (a : Attempt) where
  complete_kept : (g : Stage) → (IsTrue (is_accepted (reply_of (complete_at c r a g))) → ⊥) → Keeps b c s k o n (complete_at c r a g)
  complete_kept Commanded refused = absurd (refused refl)
  complete_kept Detected refused = absurd (refused refl)
  complete_kept Taken refused = tt
  complete_kept Reserved refused = tt
  complete_kept Sent refused = tt
  complete_kept Refused refused = tt
  complete_kept Confirmed refused = tt
  complete_kept Required refused = tt
  complete_kept Ordered refused = tt

  left_kept : (g : Stage) → (IsTrue (is_accepted (reply_of (left_at c r g))) → ⊥) → Keeps b c s k o n (left_at c r g)
  left_kept Ordered refused = absurd (refused refl)
  left_kept Taken refused = tt
  left_kept Reserved refused = tt
  left_kept Sent refused = tt
  left_kept Refused refused = tt
  left_kept Confirmed refused = tt
  left_kept Commanded refused = tt
  left_kept Detected refused = tt
  left_kept Required refused = tt

  undone_kept : (refusal : Refusal) (timer : Option Timer) → (IsTrue (is_accepted (reply_of (undo_attempt c refusal r (Some a) (state_of b) timer))) → ⊥) → Keeps b c s k o n (undo_attempt c refusal r (Some a) (state_of b) timer)
  undone_kept refusal timer refused = absurd (refused refl)

module _ (b : State) (sound : IsSound b) (c : ℕ) (s : Option ChanId) (k : AttemptKind) (g : Stage) (o : Option ChanId) (n : Option ℕ) (known : record_of b c ≡ Some (attempting s k g o n)) where
  abbrev attempt : Attempt
  attempt = record { kind = k; stage = g; target = o; reference = n }

  still_there : Goes b c s k o n b
  still_there = record { stage = g; still = known; rest = refl }

  kept : (outcome : Outcome) → Keeps b c s k o n outcome → Goes b c s k o n (book_after outcome b)
  kept (Refuses refusal) keeps = still_there
  kept (Accepts change reply) keeps = keeps

  -- the attempt has the number that a step leaves, and had none before it got one
  abbrev Numbered : Event → Reply → State → Type 0
  Numbered e reply after = Goes b c s k o (number_after n e reply) after × (IsTrue (is_reserved e reply) → n ≡ None)

  reserved : (m : ℕ) (outcome : Outcome) → Reserves b c s k o n m outcome → Numbered (event.Reserve c m) (reply_of outcome) (book_after outcome b)
  reserved m (Refuses refusal) keeps = (still_there, λ new. cc)
  reserved m (Accepts change reply) keeps = subst (λ reply. Numbered (event.Reserve c m) reply (apply change b)) (sym keeps.1) (keeps.2, λ new. keeps.0)

  unnumbered : (e : Event) (reply : Reply) (after : State) → number_of e ≡ None → Goes b c s k o n after → Numbered e reply after
  unnumbered e reply after none goes =
      let same : is_reserved e reply ≡ false = ap (λ v. is_some v && is_accepted reply) none in
      (subst (λ q. Goes b c s k o (if q then number_of e else n) after) (sym same) goes, λ new. cc)

  open_goes : (x : ChanId) → Keeps b c s k o n (row b (event.Open c x))
  open_goes x = subst (λ f. Keeps b c s k o n (open_row c x f (is_traffic b.site x) (in_way b x))) (sym known) tt

  clear_goes : Keeps b c s k o n (row b (event.Clear c))
  clear_goes = subst (λ f. Keeps b c s k o n (clear_row c f (state_of b))) (sym known) tt

  look_goes : Keeps b c s k o n (row b (event.Look c))
  look_goes = subst (λ f. Keeps b c s k o n (look_row f (state_of b))) (sym known) still_there

  take_goes : (from : Kind) (x : ChanId) → Keeps b c s k o n (row b (event.Take c from x))
  take_goes kind.Internal x = subst (λ f. Keeps b c s k o n (take_row c kind.Internal x f (state_of b) (is_traffic b.site x))) (sym known) tt
  take_goes kind.Incoming x = subst (λ f. Keeps b c s k o n (take_row c kind.Incoming x f (state_of b) (is_traffic b.site x))) (sym known) tt

  reserve_goes : (m : ℕ) → Reserves b c s k o n m (row b (event.Reserve c m))
  reserve_goes m = subst (λ f. Reserves b c s k o n m (reserve_row c m f (map.get b.references))) (sym known)
      (reserve_kept b sound c s k m g o n known (sound.reference_by_stage c _ attempt known refl))

  activate_goes : Keeps b c s k o n (row b (event.Activate c))
  activate_goes = subst (λ f. Keeps b c s k o n (activate_row c f)) (sym known) (activate_kept b sound c s k g o n known)

  command_goes : Keeps b c s k o n (row b (event.Command c))
  command_goes = subst (λ f. Keeps b c s k o n (command_row c f)) (sym known) (command_kept b sound c s k g o n known)

  complete_goes : (IsTrue (is_accepted (reply_to b (event.Complete c))) → ⊥) → Keeps b c s k o n (row b (event.Complete c))
  complete_goes = subst (λ f. (IsTrue (is_accepted (reply_of (complete_row c f))) → ⊥) → Keeps b c s k o n (complete_row c f)) (sym known)
      (complete_kept b c s k o n (attempting s k g o n) attempt g)

  undo_goes : (why : Why) → (IsTrue (is_accepted (reply_to b (event.Undo c why))) → ⊥) → Keeps b c s k o n (row b (event.Undo c why))
  undo_goes why = subst (λ f. (IsTrue (is_accepted (reply_of (undo_row c why f (state_of b) (map.get b.timers c)))) → ⊥) → Keeps b c s k o n (undo_row c why f (state_of b) (map.get b.timers c))) (sym known) (by why)
    where
      guarded : (armed : Bool) → (IsTrue (is_accepted (reply_of (needs armed NotArmed (undo_attempt c NotArmed (attempting s k g o n) (Some attempt) (state_of b) (map.get b.timers c))))) → ⊥) →
          Keeps b c s k o n (needs armed NotArmed (undo_attempt c NotArmed (attempting s k g o n) (Some attempt) (state_of b) (map.get b.timers c)))
      guarded true refused = undone_kept b c s k o n (attempting s k g o n) attempt NotArmed (map.get b.timers c) refused
      guarded false refused = tt

      by : (why : Why) → (IsTrue (is_accepted (reply_of (undo_by c why (attempting s k g o n) (state_of b) (map.get b.timers c)))) → ⊥) → Keeps b c s k o n (undo_by c why (attempting s k g o n) (state_of b) (map.get b.timers c))
      by Asked refused = undone_kept b c s k o n (attempting s k g o n) attempt WrongPhase (map.get b.timers c) refused
      by (Expired m) refused = guarded (is_armed m (map.get b.timers c)) refused

  require_goes : Keeps b c s k o n (row b (event.Require c))
  require_goes = subst (λ f. Keeps b c s k o n (require_row c f (state_of b))) (sym known) tt

  order_goes : Keeps b c s k o n (row b (event.Order c))
  order_goes = subst (λ f. Keeps b c s k o n (order_row c f)) (sym known) (order_kept b sound c s k g o n known)

  left_goes : (IsTrue (is_accepted (reply_to b (event.Left c))) → ⊥) → Keeps b c s k o n (row b (event.Left c))
  left_goes = subst (λ f. (IsTrue (is_accepted (reply_of (left_row c f))) → ⊥) → Keeps b c s k o n (left_row c f)) (sym known) (left_kept b c s k o n (attempting s k g o n) attempt g)

  owner_goes : (t : ChanId) → Keeps b c s k o n (row b (event.Owner t))
  owner_goes t = by (owner (state_of b t))
    where
      by : (f : Option ℕ) → Keeps b c s k o n (owner_row t f)
      by None = tt
      by (Some d) = still_there

module _ (b : State) (sound : IsSound b) (c : ℕ) (s : Option ChanId) (k : AttemptKind) (g : Stage) (t : ChanId) (n : Option ℕ) (known : record_of b c ≡ Some (attempting s k g (Some t) n)) where
  owned : owner (state_of b t) ≡ Some c
  owned = aimed_is_owned b sound c _ (record { kind = k; stage = g; target = Some t; reference = n }) t known refl refl

  -- a state that names a call names this one
  own : (d : ℕ) (z : ChanState) → state_of b t ≡ z → owner z ≡ Some d → d ≡ c
  own d z is names = one_owner z c d (ap owner (sym is) ∙ owned) names

  confirm_goes : (z : ChanState) → state_of b t ≡ z → Keeps b c s k (Some t) n (confirm_row t z (record_of b))
  confirm_goes Free is = tt
  confirm_goes (Held d) is = tt
  confirm_goes (Pending d) is = subst (λ d. Keeps b c s k (Some t) n (confirm_row t (Pending d) (record_of b))) (sym (own d (Pending d) is refl)) (answer_kept b sound c s k g Confirmed t n (On c) known)
  confirm_goes (On d) is = tt
  confirm_goes Off is = tt

  refuse_goes : (z : ChanState) → state_of b t ≡ z → Keeps b c s k (Some t) n (refuse_row t z (record_of b))
  refuse_goes Free is = tt
  refuse_goes (Held d) is = tt
  refuse_goes (Pending d) is = subst (λ d. Keeps b c s k (Some t) n (refuse_row t (Pending d) (record_of b))) (sym (own d (Pending d) is refl)) (answer_kept b sound c s k g Refused t n (Held c) known)
  refuse_goes (On d) is = tt
  refuse_goes Off is = tt

  -- it isn't off
  released_goes : (z : ChanState) → state_of b t ≡ z → Keeps b c s k (Some t) n (released_row t z)
  released_goes Free is = tt
  released_goes (Held d) is = tt
  released_goes (Pending d) is = tt
  released_goes (On d) is = tt
  released_goes Off is = let bad : None ≡ Some c = sym (ap owner is) ∙ owned in cc

  detect_by_goes : Keeps b c s k (Some t) n (detect_by t c (record_of b c))
  detect_by_goes = subst (λ f. Keeps b c s k (Some t) n (detect_by t c f)) (sym known)
      (subst (λ q. Keeps b c s k (Some t) n (needs q (Unexpected t) (detect_at t c (attempting s k g (Some t) n) (record { kind = k; stage = g; target = Some t; reference = n }) g))) (sym (same_chan_itself t))
      (detect_kept b sound c s k g t n known))

  detect_goes : (z : ChanState) → state_of b t ≡ z → Keeps b c s k (Some t) n (detect_row t z (record_of b))
  detect_goes Free is = tt
  detect_goes (Held d) is = tt
  detect_goes (Pending d) is = tt
  detect_goes (On d) is = subst (λ d. Keeps b c s k (Some t) n (detect_by t d (record_of b d))) (sym (own d (On d) is refl)) detect_by_goes
  detect_goes Off is = tt

module _ (b : State) (sound : IsSound b) (c : ℕ) (s : Option ChanId) (k : AttemptKind) (g : Stage) (o : Option ChanId) (n : Option ℕ) (known : record_of b c ≡ Some (attempting s k g o n)) where
  abbrev Leaves : Event → Type 0
  Leaves e = Numbered b sound c s k g o n known e (reply_to b e) (step b e)

  -- a step of this call
  of_call : (e : ℕ → Event) (d : ℕ) → Some d ≡ Some c → Leaves (e c) → Leaves (e d)
  of_call e d by leaves = subst (λ d. Leaves (e d)) (sym (same_some d c by)) leaves

  goes : (e : ℕ → Event) (d : ℕ) → Some d ≡ Some c → number_of (e c) ≡ None → Keeps b c s k o n (row b (e c)) → Leaves (e d)
  goes e d by none keeps = of_call e d by (unnumbered b sound c s k g o n known (e c) (reply_to b (e c)) (step b (e c)) none (kept b sound c s k g o n known (row b (e c)) keeps))

  call_leaves : (e : Event) → call_of e ≡ Some c → (IsTrue (is_accepted (reply_to b e)) → EndsIt c e → ⊥) → Leaves e
  call_leaves (event.Open d x) by ends = goes (λ d. event.Open d x) d by refl (open_goes b sound c s k g o n known x)
  call_leaves (event.Clear d) by ends = goes event.Clear d by refl (clear_goes b sound c s k g o n known)
  call_leaves (event.Look d) by ends = goes event.Look d by refl (look_goes b sound c s k g o n known)
  call_leaves (event.Take d from x) by ends = goes (λ d. event.Take d from x) d by refl (take_goes b sound c s k g o n known from x)
  call_leaves (event.Reserve d m) by ends =
      of_call (λ d. event.Reserve d m) d by (reserved b sound c s k g o n known m (row b (event.Reserve c m)) (reserve_goes b sound c s k g o n known m))
  call_leaves (event.Activate d) by ends = goes event.Activate d by refl (activate_goes b sound c s k g o n known)
  call_leaves (event.Command d) by ends = goes event.Command d by refl (command_goes b sound c s k g o n known)
  call_leaves (event.Complete d) by ends = goes event.Complete d by refl (complete_goes b sound c s k g o n known
      (λ accepted. ends (subst (λ d. IsTrue (is_accepted (reply_to b (event.Complete d)))) (sym (same_some d c by)) accepted) (inr (inl (ap event.Complete (same_some d c by))))))
  call_leaves (event.Undo d why) by ends = goes (λ d. event.Undo d why) d by refl (undo_goes b sound c s k g o n known why
      (λ accepted. ends (subst (λ d. IsTrue (is_accepted (reply_to b (event.Undo d why)))) (sym (same_some d c by)) accepted) (inl (why, ap (λ d. event.Undo d why) (same_some d c by)))))
  call_leaves (event.Confirm x) by ends = cc
  call_leaves (event.Refuse x) by ends = cc
  call_leaves (event.Detect x) by ends = cc
  call_leaves (event.Released x) by ends = cc
  call_leaves (event.Owner x) by ends = cc
  call_leaves (event.Require d) by ends = goes event.Require d by refl (require_goes b sound c s k g o n known)
  call_leaves (event.Order d) by ends = goes event.Order d by refl (order_goes b sound c s k g o n known)
  call_leaves (event.Left d) by ends = goes event.Left d by refl (left_goes b sound c s k g o n known
      (λ accepted. ends (subst (λ d. IsTrue (is_accepted (reply_to b (event.Left d)))) (sym (same_some d c by)) accepted) (inr (inr (ap event.Left (same_some d c by))))))

  station_leaves : (t : ChanId) → o ≡ Some t → (e : Event) → channel_of e ≡ Some t → Leaves e
  station_leaves t aims e on = let step_of = by e on in unnumbered b sound c s k g o n known e (reply_to b e) (step b e) step_of.0 (subst (λ o. Goes b c s k o n (step b e)) (sym aims) step_of.1)
    where
      there : record_of b c ≡ Some (attempting s k g (Some t) n)
      there = known ∙ ap (λ o. Some (attempting s k g o n)) aims

      at : (e : ChanId → Event) (x : ChanId) → Some x ≡ Some t → number_of (e x) ≡ None → Keeps b c s k (Some t) n (row b (e t)) → (number_of (e x) ≡ None) × Goes b c s k (Some t) n (step b (e x))
      at e x here none keeps = (none, subst (λ x. Goes b c s k (Some t) n (step b (e x))) (sym (same_some x t here)) (kept b sound c s k g (Some t) n there (row b (e t)) keeps))

      by : (e : Event) → channel_of e ≡ Some t → (number_of e ≡ None) × Goes b c s k (Some t) n (step b e)
      by (event.Open d x) on = cc
      by (event.Clear d) on = cc
      by (event.Look d) on = cc
      by (event.Take d from x) on = cc
      by (event.Reserve d m) on = cc
      by (event.Activate d) on = cc
      by (event.Command d) on = cc
      by (event.Complete d) on = cc
      by (event.Undo d why) on = cc
      by (event.Confirm x) on = at event.Confirm x on refl (confirm_goes b sound c s k g t n there (state_of b t) refl)
      by (event.Refuse x) on = at event.Refuse x on refl (refuse_goes b sound c s k g t n there (state_of b t) refl)
      by (event.Detect x) on = at event.Detect x on refl (detect_goes b sound c s k g t n there (state_of b t) refl)
      by (event.Released x) on = at event.Released x on refl (released_goes b sound c s k g t n there (state_of b t) refl)
      by (event.Owner x) on = at event.Owner x on refl (owner_goes b sound c s k g (Some t) n there t)
      by (event.Require d) on = cc
      by (event.Order d) on = cc
      by (event.Left d) on = cc

-- an attempt that is open, by what is said of it in public
is_open : (b : State) (c : ℕ) (s : Option ChanId) (k : AttemptKind) (o : Option ChanId) (n : Option ℕ) (after : State) → Goes b c s k o n after → IsOpen c o n after
is_open b c s k o n after goes = record {
  call_record = attempting s k goes.stage o n;
  attempt = record { kind = k; stage = goes.stage; target = o; reference = n };
  of_call = goes.still;
  of_record = refl;
  aims = refl;
  has = refl;
}

pub own_steps_change_the_attempt : OwnStepsChangeTheAttempt
own_steps_change_the_attempt e c target number b sound opened own ends =
    let s : Option ChanId = opened.call_record.serving in
    let k : AttemptKind = opened.attempt.kind in
    let g : Stage = opened.attempt.stage in
    let known : record_of b c ≡ Some (attempting s k g target number)
    = opened.of_call ∙ ap (λ o. Some (record opened.call_record { attempt = o })) opened.of_record ∙ (λ i. Some (attempting s k g (opened.aims i) (opened.has i))) in
    let leaves : Leaves b sound c s k g target number known e
    = elim own [
      | inl by ↦ call_leaves b sound c s k g target number known e by ends
      | inr on ↦ station_leaves b sound c s k g target number known on.0 on.1 e on.2
    ] in
    record { changed = leaves.0.rest; opened = is_open b c s k target (number_after number e (reply_to b e)) (step b e) leaves.0; first_number = leaves.1 }
