-- While an attempt is open: the steps of others lead alike with it and without it, and its own steps change it alone.
use Rattle.std.proofs.Common.{◌≡◌, inl, inr, ℕ, Bool, true, false, not, cond, ◌&&◌, if◌then◌else◌, IsTrue, is_some, List, [], ◌∷◌, Option, Some, None, refl, sym, ◌∙◌, ap, subst}
use Rattle.std.specs.Prelude.{All, filter, find}
use Rattle.std.specs.Option.{option_and_then}
use Rattle.std.specs.FinMap as map
use Rattle.std.proofs.lemmas.Bool.{and_parts, and_from}
use Rattle.std.proofs.lemmas.List.Elements.{All-head, All-tail}
use Rattle.channel_fsm.specs.declared.ChanId.{ChanId}
use Rattle.radio_tables.specs.declared.kinds.Attempt.{Attempt}
use Rattle.radio_tables.specs.declared.kinds.CallRecord.{CallRecord}
use Rattle.radio_book.specs.declared.event.Event.{Event}
use Rattle.radio_book.specs.declared.undone.StepAt.{StepAt}
use Rattle.radio_book.specs.State.{State, apply, record_of}
use Rattle.radio_book.specs.Table.{step, reply_to, reference_held}
use Rattle.radio_book.specs.Sound.{IsSound}
use Rattle.radio_book.specs.Kinds.{call_of, channel_of, number_of, refusal_of, is_accepted, is_reserved}
use Rattle.radio_book.specs.Others.{IsHeldReference, without_attempt, without_attempt_of, without_attempt_in, without_open, LeavesAlone, IsOpen, IsOwn, GoesOn}
use Rattle.radio_book.specs.Undone.{Ends, is_by_call, is_on_target, reserves, comes_from, refused_for, up_to_first, after_first}
use Rattle.radio_book.proofs.OthersPhases.{commutes_with_undone, leaves_open_attempts}
use Rattle.radio_book.proofs.EachAgrees.{each_agrees}
use Rattle.radio_book.proofs.GoingOn.{own_steps_change_the_attempt}
use Rattle.radio_book.proofs.SoundSteps.{sound_step}
use Rattle.radio_book.proofs.FactsAgree.{station_reserves_none}
use Rattle.radio_book.proofs.StepFacts.{Runs, none_found, tested_call, same_call, tested_channel, same_channel, for_no_channel, for_no_reference}

-- the book without an attempt that is known
pub without_is : (c : ℕ) (r : CallRecord) (a : Attempt) (b : State) → record_of b c ≡ Some r → r.attempt ≡ Some a → without_attempt_of c b ≡ apply (without_attempt c r a (map.get b.timers c)) b
without_is c r a b is has = ap (λ f. without_attempt_in c f b) is ∙ ap (λ o. without_open c r o b) has

module _ (c : ℕ) (target : Option ChanId) where
  -- a step of others: it leads alike with the attempt and without it, is answered alike, and the attempt stays open
  pub record Alike (number : Option ℕ) (b : State) (e : Event) : Type 0 where
    pub book : without_attempt_of c (step b e) ≡ step (without_attempt_of c b) e
    pub reply : reply_to b e ≡ reply_to (without_attempt_of c b) e
    pub opened : IsOpen c target number (step b e)

  pub other_alike : (number : Option ℕ) (b : State) (e : Event) → IsSound b → IsOpen c target number b →
      (call_of e ≡ Some c → ⊥) → ((t : ChanId) → target ≡ Some t → LeavesAlone t b e) → (IsHeldReference (reference_held target number) (reply_to b e) → ⊥) → Alike number b e
  other_alike number b e sound opened by alone free =
      let r = opened.call_record in
      let a = opened.attempt in
      let alone_here : (t : ChanId) → a.target ≡ Some t → LeavesAlone t b e = λ t aims. alone t (sym opened.aims ∙ aims) in
      let free_here : IsHeldReference (reference_held a.target a.reference) (reply_to b e) → ⊥
      = subst (λ k. IsHeldReference k (reply_to b e) → ⊥) (λ i. reference_held (sym opened.aims i) (sym opened.has i)) free in
      let commutes = (commutes_with_undone e (each_agrees e)).while_open c r a b sound opened.of_call opened.of_record by alone_here free_here in
      let leaves = leaves_open_attempts e (each_agrees e) c r a b sound opened.of_call opened.of_record by alone_here free_here in
      let still = leaves.record_stays ∙ opened.of_call in
      let here = without_is c r a b opened.of_call opened.of_record in
      record {
        book = without_is c r a (step b e) still opened.of_record ∙ ap (λ m. apply (without_attempt c r a m) (step b e)) leaves.timer_stays
            ∙ commutes.book ∙ ap (λ v. step v e) (sym here);
        reply = sym commutes.reply ∙ ap (λ v. reply_to v e) (sym here);
        opened = record { call_record = r; attempt = a; of_call = still; of_record = opened.of_record; aims = opened.aims; has = opened.has };
      }

  -- the tests of a step
  abbrev pub is_kept : StepAt → Bool
  is_kept s = not (is_by_call c s) && not (is_on_target target s)

  pub kept_is_other : (s : StepAt) → is_kept s ≡ true → (call_of s.event ≡ Some c → ⊥) × ((t : ChanId) → target ≡ Some t → channel_of s.event ≡ Some t → ⊥)
  kept_is_other s kept =
      let parts = and_parts (not (is_by_call c s)) (not (is_on_target target s)) kept in (
        λ by. let bad : false ≡ true = ap not (sym (same_call c (call_of s.event) by)) ∙ parts.0 in cc,
        λ t aims on. let bad : false ≡ true = ap not (sym (same_channel target (channel_of s.event) t aims on)) ∙ parts.1 in cc,
      )

  pub left_is_own : (s : StepAt) → is_kept s ≡ false → IsOwn c target s.event
  left_is_own s = by (is_by_call c s) (is_on_target target s) refl refl
    where
      by : (p q : Bool) → is_by_call c s ≡ p → is_on_target target s ≡ q → not p && not q ≡ false → IsOwn c target s.event
      by true q test on left = inl (tested_call c (call_of s.event) test)
      by false true test on left = inr (tested_channel target (channel_of s.event) on)
      by false false test on left = cc

  -- an own step reserves the attempt's reference, or none
  pub own_reserves : (s : StepAt) → IsOwn c target s.event → reserves c s ≡ false → is_reserved s.event s.reply ≡ false
  own_reserves s (inl by) test = sym (ap (λ p. p && is_some (number_of s.event) && is_accepted s.reply) (same_call c (call_of s.event) by)) ∙ test
  own_reserves s (inr on) test = ap (λ o. is_some o && is_accepted s.reply) (station_reserves_none s.event on.0 on.2)

  -- what the steps lead to: without the attempt, those that stay lead to the same, and the attempt is open still
  pub record Leads (b : State) (ss : List StepAt) (b' : State) : Type 0 where
    pub number : Option ℕ
    pub opened : IsOpen c target number b'
    pub alike : Runs (without_attempt_of c b) (filter is_kept ss) (without_attempt_of c b')

  none_left : (number : Option ℕ) (b b' : State) → IsOpen c target number b → b' ≡ b → Leads b [] b'
  none_left number b b' opened same = record { number = number; opened = subst (IsOpen c target number) (sym same) opened; alike = ap (without_attempt_of c) same }

  module _ (number : Option ℕ) (b : State) (s : StepAt) (ss : List StepAt) (b' : State) (sound : IsSound b) (opened : IsOpen c target number b) (answered : s.reply ≡ reply_to b s.event) (goes_on : Ends c s → ⊥) where
    pub own_goes : IsOwn c target s.event → GoesOn c target number b s.event
    own_goes own = own_steps_change_the_attempt s.event c target number b sound opened own (λ accepted end. goes_on (subst (λ reply. IsTrue (is_accepted reply)) (sym answered) accepted, end))

    -- an own step is left out
    left_out : is_kept s ≡ false → GoesOn c target number b s.event → Leads (step b s.event) ss b' → Leads b (s ∷ ss) b'
    left_out left goes rest = record {
      number = rest.number;
      opened = rest.opened;
      alike = subst (λ kept. Runs (without_attempt_of c b) (cond kept (s ∷ filter is_kept ss) (filter is_kept ss)) (without_attempt_of c b')) (sym left)
          (subst (λ v. Runs v (filter is_kept ss) (without_attempt_of c b')) goes.changed rest.alike);
    }

    -- a step of others that wasn't refused for what the attempt holds
    pub kept_alike : is_kept s ≡ true → comes_from target (reference_held target number) (refusal_of s.reply) ≡ false → Alike number b s.event
    kept_alike kept free =
        let other = kept_is_other s kept in
        let free_here : comes_from target (reference_held target number) (refusal_of (reply_to b s.event)) ≡ false
        = ap (λ reply. comes_from target (reference_held target number) (refusal_of reply)) (sym answered) ∙ free in
        other_alike number b s.event sound opened other.0
        (λ t aims. record { event = other.1 t aims; reply = for_no_channel target (reference_held target number) (reply_to b s.event) free_here t aims })
        (for_no_reference target (reference_held target number) (reply_to b s.event) free_here (reference_held target number) refl)

    -- it stays
    stays : is_kept s ≡ true → Alike number b s.event → Leads (step b s.event) ss b' → Leads b (s ∷ ss) b'
    stays kept same rest = record {
      number = rest.number;
      opened = rest.opened;
      alike = subst (λ kept. Runs (without_attempt_of c b) (cond kept (s ∷ filter is_kept ss) (filter is_kept ss)) (without_attempt_of c b')) (sym kept)
          (answered ∙ same.reply, subst (λ v. Runs v (filter is_kept ss) (without_attempt_of c b')) same.book rest.alike);
    }

    -- whichever it is, where it reserves nothing, and the rest leads on from an attempt with the same number
    pub one_step : (is_kept s ≡ true → comes_from target (reference_held target number) (refusal_of s.reply) ≡ false) → (is_kept s ≡ false → is_reserved s.event s.reply ≡ false) →
        (IsOpen c target number (step b s.event) → Leads (step b s.event) ss b') → Leads b (s ∷ ss) b'
    one_step free reserved rest = by (is_kept s) refl
      where
        by : (kept : Bool) → is_kept s ≡ kept → Leads b (s ∷ ss) b'
        by true test = let same = kept_alike test (free test) in stays test same (rest same.opened)
        by false test =
            let goes = own_goes (left_is_own s test) in
            let same : is_reserved s.event (reply_to b s.event) ≡ false = ap (is_reserved s.event) (sym answered) ∙ reserved test in
            left_out test goes (rest (subst (λ q. IsOpen c target (if q then number_of s.event else number) (step b s.event)) same goes.opened))

  -- held refusals among the steps that stay
  abbrev pub held : Option ℕ → List StepAt → List StepAt
  held number ss = refused_for target (reference_held target number) (filter is_kept ss)

  -- of a step that stays and the rest, none is held
  none_held : (number : Option ℕ) (s : StepAt) (ss : List StepAt) (kept : Bool) → is_kept s ≡ kept → held number (s ∷ ss) ≡ [] →
      (kept ≡ true → comes_from target (reference_held target number) (refusal_of s.reply) ≡ false) × (held number ss ≡ [])
  none_held number s ss true test none =
      let found = none_found (comes_from target (reference_held target number) (refusal_of s.reply)) s (held number ss)
      (sym (ap (λ q. refused_for target (reference_held target number) (cond q (s ∷ filter is_kept ss) (filter is_kept ss))) test) ∙ none) in
      (λ kept. found.0, found.1)
  none_held number s ss false test none =
      (λ kept. cc, sym (ap (λ q. refused_for target (reference_held target number) (cond q (s ∷ filter is_kept ss) (filter is_kept ss))) test) ∙ none)

  -- once the attempt has its reference
  pub with_reference : (m : ℕ) (ss : List StepAt) (b b' : State) → IsSound b → IsOpen c target (Some m) b → Runs b ss b' → All (λ s. Ends c s → ⊥) ss → held (Some m) ss ≡ [] → Leads b ss b'
  with_reference m [] b b' sound opened runs goes_on none = none_left (Some m) b b' opened runs
  with_reference m (s ∷ ss) b b' sound opened runs goes_on none =
      let free = none_held (Some m) s ss (is_kept s) refl none in
      let first = All-head (λ s. Ends c s → ⊥) s ss goes_on in
      one_step (Some m) b s ss b' sound opened runs.0 first free.0 (has_one first)
      (λ opened. with_reference m ss (step b s.event) b' (sound_step b s.event sound) opened runs.1 (All-tail (λ s. Ends c s → ⊥) s ss goes_on) free.1)
    where
      -- it gets no other
      has_one : (Ends c s → ⊥) → is_kept s ≡ false → is_reserved s.event s.reply ≡ false
      has_one first left =
          elim (is_reserved s.event s.reply) as (λ q. is_reserved s.event s.reply ≡ q → q ≡ false) [
            | true ↦ λ new.
                let had : Some m ≡ None
                = (own_goes (Some m) b s ss b' sound opened runs.0 first (left_is_own s left)).first_number (ap (is_reserved s.event) (sym runs.0) ∙ new) in cc
            | false ↦ λ none. refl
          ] refl

  pub no_reference : (o : Option ChanId) → reference_held o None ≡ None
  no_reference None = refl
  no_reference (Some t) = refl

  pub number_there : (o : Option ℕ) → is_some o ≡ true → (m : ℕ) × (o ≡ Some m)
  number_there None test = cc
  number_there (Some m) test = (m, refl)

  abbrev numbered : List StepAt → Option ℕ
  numbered ss = option_and_then (λ (s : StepAt). number_of s.event) (find (reserves c) ss)

  -- before that: up to the step that reserves it, and from there on
  abbrev pub LeadsFrom : List StepAt → Type 0
  LeadsFrom ss =
      (b b' : State) → IsSound b → IsOpen c target None b → Runs b ss b' → All (λ s. Ends c s → ⊥) ss →
      refused_for target None (filter is_kept (up_to_first (reserves c) ss)) ≡ [] → held (numbered ss) (after_first (reserves c) ss) ≡ [] → Leads b ss b'

  pub without_reference : (ss : List StepAt) → LeadsFrom ss
  without_reference [] b b' sound opened runs goes_on before after = none_left None b b' opened runs
  without_reference (s ∷ ss) b b' sound opened runs goes_on before after = by (without_reference ss) (reserves c s) refl before after
    where
      first : Ends c s → ⊥
      first = All-head (λ s. Ends c s → ⊥) s ss goes_on

      rest : All (λ s. Ends c s → ⊥) ss
      rest = All-tail (λ s. Ends c s → ⊥) s ss goes_on

      -- this step reserves it
      now : reserves c s ≡ true → held (number_of s.event) ss ≡ [] → Leads b (s ∷ ss) b'
      now test none =
          let accepted = and_parts (is_by_call c s && is_some (number_of s.event)) (is_accepted s.reply) test in
          let parts = and_parts (is_by_call c s) (is_some (number_of s.event)) accepted.0 in
          let number = number_there (number_of s.event) parts.1 in
          let goes = own_goes None b s ss b' sound opened runs.0 first (inl (tested_call c (call_of s.event) parts.0)) in
          let same : is_reserved s.event (reply_to b s.event) ≡ true
          = ap (is_reserved s.event) (sym runs.0) ∙ and_from (is_some (number_of s.event)) (is_accepted s.reply) parts.1 accepted.1 in
          let has : IsOpen c target (number_of s.event) (step b s.event)
          = subst (λ q. IsOpen c target (if q then number_of s.event else None) (step b s.event)) same goes.opened in
          left_out None b s ss b' sound opened runs.0 first (ap (λ p. not p && not (is_on_target target s)) parts.0) goes
          (with_reference number.0 ss (step b s.event) b' (sound_step b s.event sound) (subst (λ n. IsOpen c target n (step b s.event)) number.1 has) runs.1 rest
          (subst (λ n. held n ss ≡ []) number.1 none))

      -- it doesn't
      later : LeadsFrom ss → reserves c s ≡ false → refused_for target None (filter is_kept (s ∷ up_to_first (reserves c) ss)) ≡ [] → held (numbered ss) (after_first (reserves c) ss) ≡ [] → Leads b (s ∷ ss) b'
      later further test before after =
          let free = none_held None s (up_to_first (reserves c) ss) (is_kept s) refl
          (subst (λ k. refused_for target k (filter is_kept (s ∷ up_to_first (reserves c) ss)) ≡ []) (sym (no_reference target)) before) in
          one_step None b s ss b' sound opened runs.0 first free.0 (λ left. own_reserves s (left_is_own s left) test)
          (λ opened. further (step b s.event) b' (sound_step b s.event sound) opened runs.1 rest
          (subst (λ k. refused_for target k (filter is_kept (up_to_first (reserves c) ss)) ≡ []) (no_reference target) free.1) after)

      by : LeadsFrom ss → (q : Bool) → reserves c s ≡ q → refused_for target None (filter is_kept (s ∷ (if q then [] else up_to_first (reserves c) ss))) ≡ [] →
          held (option_and_then (λ (s : StepAt). number_of s.event) (cond q (Some s) (find (reserves c) ss))) (if q then ss else after_first (reserves c) ss) ≡ [] → Leads b (s ∷ ss) b'
      by further true test before after = now test after
      by further false test before after = later further test before after
