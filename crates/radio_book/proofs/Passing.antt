-- One step of a list that is walked along with an undone attempt: without the attempt it leads alike, or it is the attempt's own and
-- leads nowhere.
use Rattle.std.proofs.Common.{◌≡◌, ◌⊎◌, inl, inr, ℕ, Bool, true, false, not, ◌&&◌, if◌then◌else◌, IsTrue, is_some, Option, Some, None, refl, sym, ◌∙◌, ap, subst, []}
use Rattle.std.specs.Option.{option_map}
use Rattle.std.specs.FinMap as map
use Rattle.std.proofs.lemmas.Bool.{and_parts, and_from, not-true}
use Rattle.channel_fsm.specs.declared.ChanId.{ChanId}
use Rattle.channel_fsm.specs.declared.ChanState.TheVariants.{Free, Off}
use Rattle.radio_tables.specs.declared.kinds.AttemptKind.{AttemptKind}
use Rattle.radio_tables.specs.declared.kinds.AttemptKind.TheVariants.{Internal, Incoming, Outgoing}
use Rattle.radio_tables.specs.declared.kinds.CallRecord.{CallRecord}
use Rattle.radio_book.specs.declared.event.Event.{Event}
use Rattle.radio_book.specs.declared.event.Event.TheVariants as event
use Rattle.radio_book.specs.declared.event.Kind.{Kind}
use Rattle.radio_book.specs.declared.event.Kind.TheVariants as kind
use Rattle.radio_book.specs.declared.event.Refusal.TheVariants.{WrongPhase}
use Rattle.radio_book.specs.declared.event.Why.TheVariants.{Asked}
use Rattle.radio_book.specs.declared.undone.StepAt.{StepAt}
use Rattle.radio_book.specs.declared.following.Phase.{Phase}
use Rattle.radio_book.specs.declared.following.Phase.TheVariants.{Open, Awaiting, Settled, Completed}
use Rattle.radio_book.specs.declared.following.Followed.{Followed}
use Rattle.radio_book.specs.State.{State, Change, apply, state_of, record_of}
use Rattle.radio_book.specs.Table.{Outcome, row, step, reply_of, reply_to, resting_record, reference_held, take_row, require_row, undo_row, undo_attempt}
use Rattle.cell_table.specs.Site.{is_traffic}
use Rattle.radio_book.specs.Sound.{IsSound}
use Rattle.radio_book.specs.Kinds.{call_of, channel_of, released_by, number_of, refusal_of, Opens, Undoes, is_accepted, is_reserved}
use Rattle.radio_book.specs.Others.{without_channel, without_attempt, without_attempt_of, LeavesAlone, IsOpen, IsOwn, number_after}
use Rattle.radio_book.specs.Undone.{Ends, is_call, is_channel, is_by_call, is_on_target, is_off, is_target_off, reserves, releases, comes_from}
use Rattle.radio_book.specs.Found.{opened_by, ended_by, ends}
use Rattle.radio_book.specs.Following.{stays, stays_in, holds, refused_in, number_with, phase_after, after, leaves_off}
use Rattle.radio_tables.proofs.KeyFacts.{chan_total, chan_exact}
use Rattle.radio_tables.proofs.MapFacts.{key_cases, call_cases, record_same, state_same, state_other}
use Rattle.radio_book.proofs.Rows.{take_at, require_at}
use Rattle.radio_book.proofs.Changes.{record_kept, state_kept, option_missed}
use Rattle.radio_book.proofs.Frame.{same_some}
use Rattle.radio_book.proofs.SoundSteps.{sound_step}
use Rattle.radio_book.proofs.OthersPhases.{commutes_with_undone, leaves_off_targets}
use Rattle.radio_book.proofs.EachAgrees.{each_agrees}
use Rattle.radio_book.proofs.FactsAgree.{ends_by_call, released_on, one_or_other}
use Rattle.radio_book.proofs.StepFacts.{tested_call, same_call, tested_channel, same_channel, release_of, for_no_channel}
use Rattle.radio_book.proofs.UndoneFacts.{called, opens_shown, ends_from, ends_shown}
use Rattle.radio_book.proofs.OpenPhase.{is_kept, left_is_own, own_goes, own_reserves, kept_alike, without_is}
use Rattle.radio_book.proofs.OffPhase.{refused_or_released, freed}
use Rattle.radio_book.proofs.NoTrace.{after_undo}
use Rattle.radio_book.proofs.UndoShown.{undo_shows}
use Rattle.radio_book.proofs.FollowFacts.{in_phase, left_in, at_undo, after_goes, is_own}

-- THE BOOK WITHOUT THE ATTEMPT

-- what the book has of the attempt is gone
abbrev pub without_in : Phase → ℕ → Option ChanId → State → State
without_in (Open number) c target b = without_attempt_of c b
without_in Awaiting c target b = apply (without_channel target) b
without_in Settled c target b = b
without_in Completed c target b = b

abbrev pub without : Followed → State → State
without p b = without_in p.phase p.call p.target b

-- and this is what it has of it
abbrev pub IsInPhase : Phase → ℕ → Option ChanId → State → Type 0
IsInPhase (Open number) c target b = IsOpen c target number b
IsInPhase Awaiting c target b = (t : ChanId) × (target ≡ Some t) × (state_of b t ≡ Off)
IsInPhase Settled c target b = Unit {0}
IsInPhase Completed c target b = ⊥

abbrev pub IsIn : Followed → State → Type 0
IsIn p b = IsInPhase p.phase p.call p.target b

-- a step that ends an attempt which is taken out is its undo
abbrev pub EndsProperlyIn : Phase → ℕ → StepAt → Type 0
EndsProperlyIn (Open number) c s = ends c s ≡ true → Undoes c s.event
EndsProperlyIn Awaiting c s = Unit {0}
EndsProperlyIn Settled c s = Unit {0}
EndsProperlyIn Completed c s = Unit {0}

abbrev pub EndsProperly : Followed → StepAt → Type 0
EndsProperly p s = EndsProperlyIn p.phase p.call s

-- the book has nothing that an event could be of: no attempt of its call is open, its channel is free
pub record IsGone (e : Event) (b : State) : Type 0 where
  pub call : (c : ℕ) → call_of e ≡ Some c → (r : CallRecord) → record_of b c ≡ Some r → r.attempt ≡ None
  pub channel : (x : ChanId) → channel_of e ≡ Some x → state_of b x ≡ Free

-- a step that stays leads alike without the attempt
pub record Stays (p : Followed) (b : State) (s : StepAt) : Type 0 where
  pub book : without (after p s) (step b s.event) ≡ step (without p b) s.event
  pub reply : reply_to b s.event ≡ reply_to (without p b) s.event
  pub still : IsIn (after p s) (step b s.event)

-- a step of its own leads nowhere without it
pub record Goes (p : Followed) (b : State) (s : StepAt) : Type 0 where
  pub book : without (after p s) (step b s.event) ≡ without p b
  pub still : IsIn (after p s) (step b s.event)
  pub gone : IsGone s.event (without p b)
  pub opens_none : (d : ℕ) (o : Option ChanId) → Opens d o s.event → IsTrue (is_accepted s.reply) → ⊥

-- OPENINGS

opening_by : (c : ℕ) (target : Option ChanId) (e : Event) → Opens c target e → call_of e ≡ Some c
opening_by c target e (inl (k, x, is, aims)) = ap call_of is
opening_by c target e (inr (is, none)) = ap call_of is

-- a station's event opens nothing
station_opens_none : (x : ChanId) (e : Event) → channel_of e ≡ Some x → (d : ℕ) (o : Option ChanId) → Opens d o e → ⊥
station_opens_none x e on d o opens = one_or_other e d x (opening_by d o e opens) on

-- nor does an undo
undo_opens_none : (c : ℕ) (e : Event) → Undoes c e → (d : ℕ) (o : Option ChanId) → Opens d o e → ⊥
undo_opens_none c e (why, is) d o opens = let bad : opened_by (event.Undo c why) ≡ Some (d, o) = ap opened_by (sym is) ∙ opens_shown d o e opens in cc

-- while an attempt of the call is open, none is opened
module _ (c : ℕ) (target : Option ChanId) (number : Option ℕ) (b : State) (opened : IsOpen c target number b) where
  abbrev IsRefused : Outcome → Type 0
  IsRefused o = IsTrue (is_accepted (reply_of o)) → ⊥

  take_refused : (k : Kind) (x : ChanId) → IsRefused (row b (event.Take c k x))
  take_refused kind.Internal x =
      subst (λ f. IsRefused (take_row c kind.Internal x f (state_of b) (is_traffic b.site x))) (sym opened.of_call)
      (subst (λ o. IsRefused (take_at c x opened.call_record o opened.call_record.serving (state_of b) (is_traffic b.site x))) (sym opened.of_record) (λ accepted. cc))
  take_refused kind.Incoming x =
      subst (λ f. IsRefused (take_row c kind.Incoming x f (state_of b) (is_traffic b.site x))) (sym opened.of_call) (λ accepted. cc)

  require_refused : IsRefused (row b (event.Require c))
  require_refused =
      subst (λ f. IsRefused (require_row c f (state_of b))) (sym opened.of_call)
      (subst (λ o. IsRefused (require_at c opened.call_record o opened.call_record.serving (state_of b))) (sym opened.of_record) (λ accepted. cc))

  opens_no_other : (e : Event) (o : Option ChanId) → Opens c o e → IsTrue (is_accepted (reply_to b e)) → ⊥
  opens_no_other e o (inl (k, x, is, aims)) accepted = take_refused k x (subst (λ e. IsTrue (is_accepted (reply_to b e))) is accepted)
  opens_no_other e o (inr (is, none)) accepted = require_refused (subst (λ e. IsTrue (is_accepted (reply_to b e))) is accepted)

  -- its own steps open nothing
  own_opens_none : (e : Event) → IsOwn c target e → (d : ℕ) (o : Option ChanId) → Opens d o e → IsTrue (is_accepted (reply_to b e)) → ⊥
  own_opens_none e (inl by) d o opens accepted =
      let same : d ≡ c = same_some d c (sym (opening_by d o e opens) ∙ by) in
      opens_no_other e o (subst (λ d. Opens d o e) same opens) accepted
  own_opens_none e (inr (t, aims, on)) d o opens accepted = station_opens_none t e on d o opens

-- WHAT IS GONE

-- a target is this channel, or it isn't
target_cases : (o : Option ChanId) (x : ChanId) → (o ≡ Some x) ⊎ (o ≡ Some x → ⊥)
target_cases None x = inr (λ is. cc)
target_cases (Some t) x = elim (key_cases chan_total chan_exact t x) [
  | inl same ↦ inl (ap Some same)
  | inr other ↦ inr (λ is. other (same_some t x is))
]

rests : (k : AttemptKind) (r q : CallRecord) → resting_record k r ≡ Some q → q.attempt ≡ None
rests Internal r q is = ap (λ (o : CallRecord). o.attempt) (sym (same_some _ _ is))
rests Incoming r q is = cc
rests Outgoing r q is = ap (λ (o : CallRecord). o.attempt) (sym (same_some _ _ is))

module _ (c : ℕ) (target : Option ChanId) (number : Option ℕ) (b : State) (opened : IsOpen c target number b) where
  abbrev removal : Change
  removal = without_attempt c opened.call_record opened.attempt (map.get b.timers c)

  bare : without_attempt_of c b ≡ apply removal b
  bare = without_is c opened.call_record opened.attempt b opened.of_call opened.of_record

  no_attempt : (q : CallRecord) → record_of (without_attempt_of c b) c ≡ Some q → q.attempt ≡ None
  no_attempt q is =
      rests opened.attempt.kind opened.call_record q
      (sym (record_same b.calls c (resting_record opened.attempt.kind opened.call_record)) ∙ ap (λ v. record_of v c) (sym bare) ∙ is)

  no_target : (t : ChanId) → target ≡ Some t → state_of (without_attempt_of c b) t ≡ Free
  no_target t aims =
      ap (λ v. state_of v t) bare
      ∙ ap (λ o. state_of (apply (record removal { channel = option_map (λ (t : ChanId). (t, None)) o }) b) t) (opened.aims ∙ aims)
      ∙ state_same b.channels t None

  other_record : (d : ℕ) → (d ≡ c → ⊥) → record_of (without_attempt_of c b) d ≡ record_of b d
  other_record d other = ap (λ v. record_of v d) bare ∙ record_kept removal b d other

  other_channel : (x : ChanId) → (target ≡ Some x → ⊥) → state_of (without_attempt_of c b) x ≡ state_of b x
  other_channel x other =
      ap (λ v. state_of v x) bare
      ∙ state_kept removal b x (option_missed (λ t. (t, None)) opened.attempt.target x (λ v is here. other (sym opened.aims ∙ is ∙ ap Some (sym here))))

  -- an event of its own finds nothing
  own_gone : (e : Event) → IsOwn c target e → IsGone e (without_attempt_of c b)
  own_gone e (inl by) = record {
    call = λ d is q found. no_attempt q (ap (record_of (without_attempt_of c b)) (same_some c d (sym by ∙ is)) ∙ found);
    channel = λ x on. absurd (one_or_other e c x by on);
  }
  own_gone e (inr (t, aims, on)) = record {
    call = λ d by. absurd (one_or_other e d t by on);
    channel = λ x is. subst (λ x. state_of (without_attempt_of c b) x ≡ Free) (same_some t x (sym on ∙ is)) (no_target t aims);
  }

  -- what is gone stays gone
  still_gone_open : (e : Event) → IsGone e b → IsGone e (without_attempt_of c b)
  still_gone_open e gone = record {
    call = λ d by q found. elim (call_cases d c) [
      | inl same ↦ no_attempt q (ap (record_of (without_attempt_of c b)) (sym same) ∙ found)
      | inr other ↦ gone.call d by q (sym (other_record d other) ∙ found)
    ];
    channel = λ x on. elim (target_cases target x) [
      | inl aims ↦ no_target x aims
      | inr other ↦ other_channel x other ∙ gone.channel x on
    ];
  }

module _ (target : Option ChanId) (t : ChanId) (aims : target ≡ Some t) (b : State) where
  off_free : state_of (apply (without_channel target) b) t ≡ Free
  off_free = ap (λ o. state_of (apply (without_channel o) b) t) aims ∙ state_same b.channels t None

  off_gone : (e : Event) → channel_of e ≡ Some t → IsGone e (apply (without_channel target) b)
  off_gone e on = record {
    call = λ d by. absurd (one_or_other e d t by on);
    channel = λ x is. subst (λ x. state_of (apply (without_channel target) b) x ≡ Free) (same_some t x (sym on ∙ is)) off_free;
  }

  still_gone_off : (e : Event) → IsGone e b → IsGone e (apply (without_channel target) b)
  still_gone_off e gone = record {
    call = gone.call;
    channel = λ x on. elim (key_cases chan_total chan_exact x t) [
      | inl same ↦ ap (state_of (apply (without_channel target) b)) same ∙ off_free
      | inr other ↦ ap (λ o. state_of (apply (without_channel o) b) x) aims ∙ state_other b.channels t None x other ∙ gone.channel x on
    ];
  }

pub still_gone : (p : Followed) (b : State) → IsIn p b → (e : Event) → IsGone e b → IsGone e (without p b)
still_gone p b here = by p.phase here
  where
    by : (phase : Phase) → IsInPhase phase p.call p.target b → (e : Event) → IsGone e b → IsGone e (without_in phase p.call p.target b)
    by (Open number) here e gone = still_gone_open p.call p.target number b here e gone
    by Awaiting (t, aims, off) e gone = still_gone_off p.target t aims b e gone
    by Settled here e gone = gone
    by Completed here e gone = absurd here

-- THE BOOK WITHOUT IT IS SOUND

sound_off : (target : Option ChanId) (t : ChanId) → target ≡ Some t → (b : State) → IsSound b → state_of b t ≡ Off → IsSound (apply (without_channel target) b)
sound_off target t aims b sound off =
    subst IsSound (freed t b off ∙ ap (λ o. apply (without_channel o) b) (sym aims)) (sound_step b (event.Released t) sound)

-- an undo that is asked of an open attempt is accepted
undo_accepted : (c : ℕ) (target : Option ChanId) (number : Option ℕ) (b : State) → IsOpen c target number b → IsTrue (is_accepted (reply_to b (event.Undo c Asked)))
undo_accepted c target number b opened =
    subst (λ f. IsTrue (is_accepted (reply_of (undo_row c Asked f (state_of b) (map.get b.timers c))))) (sym opened.of_call)
    (subst (λ o. IsTrue (is_accepted (reply_of (undo_attempt c WrongPhase opened.call_record o (state_of b) (map.get b.timers c))))) (sym opened.of_record) refl)

sound_open : (c : ℕ) (target : Option ChanId) (number : Option ℕ) (b : State) → IsSound b → IsOpen c target number b → IsSound (without_attempt_of c b)
sound_open c target number b sound opened =
    let e : Event = event.Undo c Asked in
    let sound' : IsSound (step b e) = sound_step b e sound in
    elim (after_undo c target number b opened e (Asked, refl) (undo_accepted c target number b opened)) [
      | inl over ↦ subst IsSound (sym over.1) sound'
      | inr (t, aims, off, same) ↦ subst IsSound (sym same) (sound_off (Some t) t refl (step b e) sound' off)
    ]

pub sound_without : (p : Followed) (b : State) → IsSound b → IsIn p b → IsSound (without p b)
sound_without p b sound here = by p.phase here
  where
    by : (phase : Phase) → IsInPhase phase p.call p.target b → IsSound (without_in phase p.call p.target b)
    by (Open number) here = sound_open p.call p.target number b sound here
    by Awaiting (t, aims, off) = sound_off p.target t aims b sound off
    by Settled here = sound
    by Completed here = absurd here

-- ONE STEP

abbrev Passes : Phase → ℕ → Option ChanId → State → StepAt → Type 0
Passes phase c target b s =
    ((stays_in phase c target s ≡ true) × Stays (in_phase c target phase) b s) ⊎ ((stays_in phase c target s ≡ false) × Goes (in_phase c target phase) b s)

-- while it is open
module _ (c : ℕ) (target : Option ChanId) (number : Option ℕ) (b : State) (s : StepAt) (sound : IsSound b) (opened : IsOpen c target number b) (answered : s.reply ≡ reply_to b s.event) where
  abbrev now : Followed
  now = in_phase c target (Open number)

  -- its undo
  undone : ends c s ≡ true → Undoes c s.event → Goes now b s
  undone test undoes =
      let e : Event = s.event in
      let accepted : IsTrue (is_accepted s.reply) = (ends_from c s test).0 in
      let accepted_here : IsTrue (is_accepted (reply_to b e)) = subst (λ reply. IsTrue (is_accepted reply)) answered accepted in
      let shown : leaves_off s.reply ≡ is_target_off (step b e) target = ap leaves_off answered ∙ undo_shows c target number b sound opened e undoes accepted_here in
      let by : call_of e ≡ Some c = ap call_of undoes.1 in
      let moves : (q : Bool) → is_target_off (step b e) target ≡ q → after now s ≡ in_phase c target (left_in c target q)
      = λ q is. at_undo c target number s undoes accepted ∙ ap (λ q. in_phase c target (left_in c target q)) (shown ∙ is) in
      elim (after_undo c target number b opened e undoes accepted_here) [
        | inl over ↦ record {
          book = ap (λ p. without p (step b e)) (moves false over.0) ∙ sym over.1;
          still = subst (λ p. IsIn p (step b e)) (sym (moves false over.0)) tt;
          gone = own_gone c target number b opened e (inl by);
          opens_none = λ d o opens accepted. undo_opens_none c e undoes d o opens;
        }
        | inr (t, aims, off, same) ↦
            let is : is_target_off (step b e) target ≡ true = ap (is_target_off (step b e)) aims ∙ ap is_off off in
            record {
              book = ap (λ p. without p (step b e)) (moves true is) ∙ ap (λ o. apply (without_channel o) (step b e)) aims ∙ sym same;
              still = subst (λ p. IsIn p (step b e)) (sym (moves true is)) (t, aims, off);
              gone = own_gone c target number b opened e (inl by);
              opens_none = λ d o opens accepted. undo_opens_none c e undoes d o opens;
            }
      ]

  module _ (goes_on : Ends c s → ⊥) (test : ends c s ≡ false) where
    -- another step of its own
    own_step : is_kept c target s ≡ false → Goes now b s
    own_step left =
        let own : IsOwn c target s.event = left_is_own c target s left in
        let goes = own_goes c target number b s [] b sound opened answered goes_on own in
        let moves : after now s ≡ in_phase c target (Open (number_after number s.event (reply_to b s.event)))
        = after_goes c target number s test ∙ ap (λ n. in_phase c target (Open n)) (numbers number own goes.first_number) in
        record {
          book = ap (λ p. without p (step b s.event)) moves ∙ goes.changed;
          still = subst (λ p. IsIn p (step b s.event)) (sym moves) goes.opened;
          gone = own_gone c target number b opened s.event own;
          opens_none = λ d o opens accepted. own_opens_none c target number b opened s.event own d o opens (subst (λ reply. IsTrue (is_accepted reply)) answered accepted);
        }
      where
        reserved : (n : Option ℕ) → IsOwn c target s.event → (q : Bool) → reserves c s ≡ q → (if q then number_of s.event else None) ≡ (if is_reserved s.event s.reply then number_of s.event else None)
        reserved n own true is =
            let accepted = and_parts (is_by_call c s && is_some (number_of s.event)) (is_accepted s.reply) is in
            let parts = and_parts (is_by_call c s) (is_some (number_of s.event)) accepted.0 in
            ap (λ q. if q then number_of s.event else None) (sym (and_from (is_some (number_of s.event)) (is_accepted s.reply) parts.1 accepted.1))
        reserved n own false is = ap (λ q. if q then number_of s.event else None) (sym (own_reserves c target s own is))

        has_one : (m : ℕ) → (IsTrue (is_reserved s.event (reply_to b s.event)) → Some m ≡ None) → (q : Bool) → is_reserved s.event (reply_to b s.event) ≡ q → Some m ≡ (if q then number_of s.event else Some m)
        has_one m first true is = let bad : Some m ≡ None = first is in cc
        has_one m first false is = refl

        numbers : (n : Option ℕ) → IsOwn c target s.event → (IsTrue (is_reserved s.event (reply_to b s.event)) → n ≡ None) → number_with c n s ≡ number_after n s.event (reply_to b s.event)
        numbers None own first = reserved None own (reserves c s) refl ∙ ap (λ reply. if is_reserved s.event reply then number_of s.event else None) answered
        numbers (Some m) own first = has_one m first (is_reserved s.event (reply_to b s.event)) refl

    -- a step of others
    other_step : is_kept c target s ≡ true → comes_from target (reference_held target number) (refusal_of s.reply) ≡ false → Stays now b s
    other_step kept free =
        let same = kept_alike c target number b s [] b sound opened answered goes_on kept free in
        let moves : after now s ≡ now = after_goes c target number s test ∙ ap (λ n. in_phase c target (Open n)) (numbers number) in
        record {
          book = ap (λ p. without p (step b s.event)) moves ∙ same.book;
          reply = same.reply;
          still = subst (λ p. IsIn p (step b s.event)) (sym moves) same.opened;
        }
      where
        not_by : is_by_call c s ≡ false
        not_by = not-true (is_by_call c s) (and_parts (not (is_by_call c s)) (not (is_on_target target s)) kept).0

        numbers : (n : Option ℕ) → number_with c n s ≡ n
        numbers None = ap (λ q. if q && is_some (number_of s.event) && is_accepted s.reply then number_of s.event else None) not_by
        numbers (Some m) = refl

    goes_by : holds now s ≡ false → (q : Bool) → is_kept c target s ≡ q → Passes (Open number) c target b s
    goes_by free true is = inl (is, other_step is (ap (λ q. q && refused_in (Open number) target s) (sym is) ∙ free))
    goes_by free false is = inr (is, own_step is)

  while_open : EndsProperlyIn (Open number) c s → holds now s ≡ false → Passes (Open number) c target b s
  while_open proper free = by (ends c s) refl
    where
      by : (q : Bool) → ends c s ≡ q → Passes (Open number) c target b s
      by true test = inr (is_own c target s (proper test), undone test (proper test))
      by false test = goes_by (λ over. let bad : true ≡ false = sym (ends_shown c s over) ∙ test in cc) test free (is_kept c target s) refl

-- while the release is awaited
module _ (c : ℕ) (target : Option ChanId) (t : ChanId) (aims : target ≡ Some t) (b : State) (s : StepAt) (sound : IsSound b) (off : state_of b t ≡ Off) (answered : s.reply ≡ reply_to b s.event) where
  abbrev here : Followed
  here = in_phase c target Awaiting

  -- a station's event on the target is of the target
  on_it : (o : Option ChanId) → is_channel target o ≡ true → o ≡ Some t
  on_it o test = let found = tested_channel target o test in found.2 ∙ sym found.1 ∙ aims

  bare_channel : apply (without_channel (Some t)) b ≡ apply (without_channel target) b
  bare_channel = ap (λ o. apply (without_channel o) b) (sym aims)

  released : releases target s ≡ true → Goes here b s
  released test =
      let is : s.event ≡ event.Released t = release_of s.event t (on_it (released_by s.event) test) in
      let moves : after here s ≡ in_phase c target Settled = ap (λ q. in_phase c target (if q then Settled else Awaiting)) test in
      record {
        book = ap (λ p. without p (step b s.event)) moves ∙ ap (step b) is ∙ freed t b off ∙ bare_channel;
        still = subst (λ p. IsIn p (step b s.event)) (sym moves) tt;
        gone = off_gone target t aims b s.event (released_on s.event t (on_it (released_by s.event) test));
        opens_none = λ d o opens accepted. station_opens_none t s.event (released_on s.event t (on_it (released_by s.event) test)) d o opens;
      }

  module _ (test : releases target s ≡ false) where
    moves : after here s ≡ here
    moves = ap (λ q. in_phase c target (if q then Settled else Awaiting)) test

    -- another on it is refused
    refused : is_on_target target s ≡ true → Goes here b s
    refused on =
        let same : step b s.event ≡ b = refused_or_released t b off s.event (on_it (channel_of s.event) on)
        (λ is. let bad : true ≡ false = sym (same_channel target (released_by s.event) t aims is) ∙ test in cc) in
        record {
          book = ap (λ p. without p (step b s.event)) moves ∙ ap (apply (without_channel target)) same;
          still = subst (λ p. IsIn p (step b s.event)) (sym moves) (t, aims, ap (λ v. state_of v t) same ∙ off);
          gone = off_gone target t aims b s.event (on_it (channel_of s.event) on);
          opens_none = λ d o opens accepted. station_opens_none t s.event (on_it (channel_of s.event) on) d o opens;
        }

    -- a step of others
    other : is_on_target target s ≡ false → comes_from target None (refusal_of s.reply) ≡ false → Stays here b s
    other elsewhere free =
        let free_here : comes_from target None (refusal_of (reply_to b s.event)) ≡ false = ap (λ reply. comes_from target None (refusal_of reply)) (sym answered) ∙ free in
        let alone : LeavesAlone t b s.event
        = record {
          event = λ on. let bad : true ≡ false = sym (same_channel target (channel_of s.event) t aims on) ∙ elsewhere in cc;
          reply = for_no_channel target None (reply_to b s.event) free_here t aims;
        } in
        let commutes = (commutes_with_undone s.event (each_agrees s.event)).while_off t b sound off alone in
        record {
          book = ap (λ p. without p (step b s.event)) moves ∙ ap (λ o. apply (without_channel o) (step b s.event)) aims ∙ commutes.book ∙ ap (λ v. step v s.event) bare_channel;
          reply = sym commutes.reply ∙ ap (λ v. reply_to v s.event) bare_channel;
          still = subst (λ p. IsIn p (step b s.event)) (sym moves) (t, aims, leaves_off_targets s.event (each_agrees s.event) t b sound off alone);
        }

  while_awaited : holds here s ≡ false → Passes Awaiting c target b s
  while_awaited free = by (releases target s) refl
    where
      goes : releases target s ≡ false → (q : Bool) → is_on_target target s ≡ q → Passes Awaiting c target b s
      goes test true on = inr (ap not on, refused test on)
      goes test false on = inl (ap not on, other test on (ap (λ q. not q && comes_from target None (refusal_of s.reply)) (sym on) ∙ free))

      by : (q : Bool) → releases target s ≡ q → Passes Awaiting c target b s
      by true test =
          let on : is_on_target target s ≡ true = same_channel target (channel_of s.event) t aims (released_on s.event t (on_it (released_by s.event) test)) in
          inr (ap not on, released test)
      by false test = goes test (is_on_target target s) refl

pub passes : (p : Followed) (b : State) (s : StepAt) → IsSound b → IsIn p b → s.reply ≡ reply_to b s.event → EndsProperly p s → holds p s ≡ false →
    ((stays p s ≡ true) × Stays p b s) ⊎ ((stays p s ≡ false) × Goes p b s)
passes p b s sound here answered = by p.phase here
  where
    by : (phase : Phase) → IsInPhase phase p.call p.target b → EndsProperlyIn phase p.call s → holds (in_phase p.call p.target phase) s ≡ false → Passes phase p.call p.target b s
    by (Open number) opened proper free = while_open p.call p.target number b s sound opened answered proper free
    by Awaiting (t, aims, off) proper free = while_awaited p.call p.target t aims b s sound off answered free
    by Settled nothing proper free = inl (refl, record { book = refl; reply = refl; still = tt })
    by Completed never proper free = absurd never

-- A STEP THAT WAS TAKEN OUT

-- a step that isn't by its call leaves an open attempt as far as it is
not_its_own : (c : ℕ) (target : Option ChanId) (number : Option ℕ) (s : StepAt) → is_by_call c s ≡ false → after (in_phase c target (Open number)) s ≡ in_phase c target (Open number)
not_its_own c target number s other = after_goes c target number s (no_end (ends c s) refl) ∙ ap (λ n. in_phase c target (Open n)) (numbers number)
  where
    no_end : (q : Bool) → ends c s ≡ q → q ≡ false
    no_end true test =
        let by : call_of s.event ≡ Some c = ends_by_call c s.event (called c (ended_by s.event) (and_parts (is_call c (ended_by s.event)) (is_accepted s.reply) test).0) in
        let bad : true ≡ false = sym (same_call c (call_of s.event) by) ∙ other in cc
    no_end false test = refl

    numbers : (n : Option ℕ) → number_with c n s ≡ n
    numbers None = ap (λ q. if q && is_some (number_of s.event) && is_accepted s.reply then number_of s.event else None) other
    numbers (Some m) = refl

-- an event of which the book has nothing leaves an attempt as far as it is

untouched_open : (c : ℕ) (target : Option ChanId) (number : Option ℕ) (b : State) (s : StepAt) → IsOpen c target number b → IsGone s.event b → after (in_phase c target (Open number)) s ≡ in_phase c target (Open number)
untouched_open c target number b s opened gone = not_its_own c target number s (not_by (is_by_call c s) refl)
  where
    not_by : (q : Bool) → is_by_call c s ≡ q → q ≡ false
    not_by true test =
        let none : opened.call_record.attempt ≡ None = gone.call c (tested_call c (call_of s.event) test) opened.call_record opened.of_call in
        let bad : Some opened.attempt ≡ None = sym opened.of_record ∙ none in cc
    not_by false test = refl

untouched_off : (c : ℕ) (target : Option ChanId) (t : ChanId) → target ≡ Some t → (b : State) (s : StepAt) → state_of b t ≡ Off → IsGone s.event b → after (in_phase c target Awaiting) s ≡ in_phase c target Awaiting
untouched_off c target t aims b s off gone = ap (λ q. in_phase c target (if q then Settled else Awaiting)) (not_released (releases target s) refl)
  where
    not_released : (q : Bool) → releases target s ≡ q → q ≡ false
    not_released true test =
        let found = tested_channel target (released_by s.event) test in
        let on : channel_of s.event ≡ Some t = released_on s.event t (found.2 ∙ sym found.1 ∙ aims) in
        let bad : Free ≡ Off = sym (gone.channel t on) ∙ off in cc
    not_released false test = refl

pub untouched : (p : Followed) (b : State) (s : StepAt) → IsIn p b → IsGone s.event b → after p s ≡ p
untouched p b s here gone = by p.phase here
  where
    by : (phase : Phase) → IsInPhase phase p.call p.target b → in_phase p.call p.target (phase_after phase p.call p.target s) ≡ in_phase p.call p.target phase
    by (Open number) opened = untouched_open p.call p.target number b s opened gone
    by Awaiting (t, aims, off) = untouched_off p.call p.target t aims b s off gone
    by Settled nothing = refl
    by Completed never = absurd never
