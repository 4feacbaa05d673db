-- The timers of calls run just where a book has them armed.
use Rattle.std.proofs.Common.{◌≡◌, ◌≢◌, ◌⊎◌, ℕ, ◌<◌, zero, suc, Bool, true, false, List, [], ◌∷◌, length, replicate, set, slice_get, Option, Some, None, is_none, not, ◌==◌, refl, sym, ◌∙◌, ap, arith, inl, inr, cond}
use Rattle.std.proofs.lemmas.List.{length-set}
use Rattle.std.specs.FinMap as map
use Rattle.std.specs.Option.{option_map}
use Rattle.std.specs.Ordering.{nat_cmp}
use Rattle.channel_fsm.specs.declared.ChanId.{ChanId}
use Rattle.channel_fsm.specs.declared.ChanState.{ChanState}
use Rattle.attempt_journal.specs.declared.Timer.{Timer}
use Rattle.attempt_journal.specs.declared.Timer.TheVariants.{T3103, T7, T8}
use Rattle.cell_table.specs.Site.{is_traffic}
use Rattle.radio_book.specs.declared.event.Kind.TheVariants as kind
use Rattle.radio_book.specs.declared.event.Why.{Why}
use Rattle.radio_book.specs.declared.event.Why.TheVariants.{Asked, Expired}
use Rattle.radio_tables.specs.declared.kinds.Attempt.{Attempt}
use Rattle.radio_tables.specs.declared.kinds.CallRecord.{CallRecord}
use Rattle.radio_book.specs.declared.event.Event.{Event}
use Rattle.radio_book.specs.declared.event.Event.TheVariants as event
use Rattle.radio_book.specs.declared.event.Reply.{Reply}
use Rattle.radio_book.specs.declared.event.Refusal.{Refusal}
use Rattle.radio_book.specs.declared.event.Refusal.TheVariants.{NoCall, CallExists, WrongPhase, NoChannel, SameCell, RefBusy, Unexpected, NotArmed}
use Rattle.radio_book.specs.Kinds.{call_of}
use Rattle.radio_book.specs.Run.{Leads}
use Rattle.radio_book.specs.State.{State, state_of, record_of}
use Rattle.radio_book.specs.Table.{in_way, Outcome, Refuses, Accepts, needs, given, unless_busy, channel_row, owner, is_target, reference_at, row, step, book_after, begin_row, at_rest, in_stage, undo_by, is_armed}
use Rattle.radio_book.proofs.Changes.{timer_kept}
use Rattle.radio_book.proofs.Frame.{Touches}
use Rattle.radio_tables.specs.Maps.{Entry}
use Rattle.radio_tables.specs.Stages.{Allows, stage_allows}
use Rattle.radio_tables.proofs.MapFacts.{call_cases}
use Rattle.link_machine.specs.declared.calls.CallFacts.{CallFacts}
use Rattle.link_machine.specs.Calls.{plain, or_plain, facts_of}
use Rattle.link_machine.specs.Timers.{facts_behind, with_timer, not_armed, if_change, followed_by, followed, call_runs_behind, ran_out, is_running, TimersRun, TimersFollow, NoTimersRun, ChangesFollow}

-- AN EVENT CHANGES NO TIMER BUT THAT OF ITS CALL

abbrev Leaves : Option ℕ → Outcome → Type 0
Leaves who (Refuses refusal) = Unit {0}
Leaves who (Accepts change reply) = (d : ℕ) → Touches change.timer d → who ≡ Some d

-- no timer is changed
none : (who : Option ℕ) (d : ℕ) → ⊥ → who ≡ Some d
none who d touched = absurd touched

-- that of the call is
own : (c d : ℕ) → d ≡ c → Some c ≡ Some d
own c d same = ap Some (sym same)

module _ (who : Option ℕ) where
  needed : (q : Bool) (refusal : Refusal) (rest : Outcome) → Leaves who rest → Leaves who (needs q refusal rest)
  needed true refusal rest leaves = leaves
  needed false refusal rest leaves = tt

  from : {X : Type 0} (o : Option X) (refusal : Refusal) (rest : X → Outcome) → ((x : X) → Leaves who (rest x)) → Leaves who (given o refusal rest)
  from None refusal rest leaves = tt
  from (Some x) refusal rest leaves = leaves x

  unless : (way : Option ChanId) (rest : Outcome) → Leaves who rest → Leaves who (unless_busy way rest)
  unless None rest leaves = leaves
  unless (Some y) rest leaves = tt

  begins : (c : ℕ) (x : ChanId) (r : CallRecord) (s : ChanState) (found : Option CallRecord) (traffic : Bool) (way : Option ChanId) → Leaves who (begin_row c x r s found traffic way)
  begins c x r s found traffic way = needed (is_none found) CallExists _ (needed traffic NoChannel _ (unless way _ (none who)))

  resting : (r : CallRecord) (states : ChanId → ChanState) (rest : ChanId → Outcome) → ((s : ChanId) → Leaves who (rest s)) → Leaves who (at_rest r states rest)
  resting r states rest leaves = needed (is_none r.attempt) WrongPhase _ (from r.serving WrongPhase _ (λ s. from (channel_row (states s)).active WrongPhase _ (λ d. leaves s)))

  staged : (r : CallRecord) (may : Allows → Bool) (rest : Attempt → Outcome) → ((a : Attempt) → Leaves who (rest a)) → Leaves who (in_stage r may rest)
  staged r may rest leaves = from r.attempt WrongPhase _ (λ a. needed (may (stage_allows a.stage)) WrongPhase _ (leaves a))

-- a timer that is disarmed, where one is armed
abbrev disarming : ℕ → Option Timer → Option (Entry ℕ Timer)
disarming c armed = option_map (λ (m : Timer). (c, None)) armed

disarmed : (c d : ℕ) (armed : Option Timer) → Touches (disarming c armed) d → Some c ≡ Some d
disarmed c d None touched = absurd touched
disarmed c d (Some m) touched = own c d touched

undoes : (c : ℕ) (why : Why) (r : CallRecord) (states : ChanId → ChanState) (armed : Option Timer) → Leaves (Some c) (undo_by c why r states armed)
undoes c Asked r states armed = from (Some c) r.attempt WrongPhase _ (λ a d. disarmed c d armed)
undoes c (Expired m) r states armed = needed (Some c) (is_armed m armed) NotArmed _ (from (Some c) r.attempt NotArmed _ (λ a d. disarmed c d armed))

row_leaves : (b : State) (e : Event) → Leaves (call_of e) (row b e)
row_leaves b (event.Open c x) = begins (Some c) c x _ _ (record_of b c) (is_traffic b.site x) (in_way b x)
row_leaves b (event.Clear c) = from (Some c) (record_of b c) NoCall _ (λ r. needed (Some c) (is_none r.attempt) WrongPhase _ (none (Some c)))
row_leaves b (event.Look c) = from (Some c) (record_of b c) NoCall _ (λ r. none (Some c))
row_leaves b (event.Take c kind.Internal x) =
    from (Some c) (record_of b c) NoCall _ (λ r. resting (Some c) r (state_of b) _ (λ s.
    needed (Some c) (is_traffic b.site x) NoChannel _ (needed (Some c) (not (s.cell == x.cell)) SameCell _ (unless (Some c) (in_way b x) _ (none (Some c))))))
row_leaves b (event.Take c kind.Incoming x) = begins (Some c) c x _ _ (record_of b c) (is_traffic b.site x) (in_way b x)
row_leaves b (event.Reserve c n) =
    from (Some c) (record_of b c) NoCall _ (λ r. staged (Some c) r (λ may. may.reserve) _ (λ a. from (Some c) a.target WrongPhase _ (λ t.
    needed (Some c) (is_none (map.get b.references (reference_at t n))) (RefBusy t.cell n) _ (none (Some c)))))
row_leaves b (event.Activate c) = from (Some c) (record_of b c) NoCall _ (λ r. staged (Some c) r (λ may. may.activate) _ (λ a. from (Some c) a.target WrongPhase _ (λ t. none (Some c))))
row_leaves b (event.Command c) = from (Some c) (record_of b c) NoCall _ (λ r. staged (Some c) r (λ may. may.command) _ (λ a. own c))
row_leaves b (event.Complete c) = from (Some c) (record_of b c) NoCall _ (λ r. staged (Some c) r (λ may. may.complete) _ (λ a. own c))
row_leaves b (event.Undo c why) = from (Some c) (record_of b c) NoCall _ (λ r. undoes c why r (state_of b) (map.get b.timers c))
row_leaves b (event.Confirm x) = from None (channel_row (state_of b x)).activating (Unexpected x) _ (λ c. none None)
row_leaves b (event.Refuse x) = from None (channel_row (state_of b x)).activating (Unexpected x) _ (λ c. none None)
row_leaves b (event.Detect x) =
    from None (channel_row (state_of b x)).active (Unexpected x) _ (λ c. from None (record_of b c) (Unexpected x) _ (λ r. from None r.attempt (Unexpected x) _ (λ a.
    needed None (is_target x a.target) (Unexpected x) _ (needed None (stage_allows a.stage).detect (Unexpected x) _ (none None)))))
row_leaves b (event.Released x) = needed None (channel_row (state_of b x)).off (Unexpected x) _ (none None)
row_leaves b (event.Owner x) = from None (owner (state_of b x)) (Unexpected x) _ (λ c. none None)
row_leaves b (event.Require c) = from (Some c) (record_of b c) NoCall _ (λ r. resting (Some c) r (state_of b) _ (λ s. own c))
row_leaves b (event.Order c) = from (Some c) (record_of b c) NoCall _ (λ r. staged (Some c) r (λ may. may.order) _ (λ a. own c))
row_leaves b (event.Left c) = from (Some c) (record_of b c) NoCall _ (λ r. staged (Some c) r (λ may. may.left) _ (λ a. own c))

-- the timers of others stay
others_stay : (b : State) (e : Event) (d : ℕ) → (call_of e ≡ Some d → ⊥) → map.get (step b e).timers d ≡ map.get b.timers d
others_stay b e d other = by (row b e) (row_leaves b e)
  where
    by : (o : Outcome) → Leaves (call_of e) o → map.get (book_after o b).timers d ≡ map.get b.timers d
    by (Refuses refusal) leaves = refl
    by (Accepts change reply) leaves = timer_kept change b d (λ touched. other (leaves d touched))

-- WHAT IS KNOWN OF CALLS

known_there : (calls : List CallFacts) (c : ℕ) (facts : CallFacts) → c < length calls → slice_get (set calls c facts) c ≡ Some facts
known_there [] c facts within = absurd (omega arith)
known_there (f ∷ calls) zero facts within = refl
known_there (f ∷ calls) (suc c) facts within = known_there calls c facts (omega arith)

known_elsewhere : (calls : List CallFacts) (c d : ℕ) (facts : CallFacts) → d ≢ c → slice_get (set calls c facts) d ≡ slice_get calls d
known_elsewhere [] c d facts other = refl
known_elsewhere (f ∷ calls) zero zero facts other = absurd (other refl)
known_elsewhere (f ∷ calls) zero (suc d) facts other = refl
known_elsewhere (f ∷ calls) (suc c) zero facts other = refl
known_elsewhere (f ∷ calls) (suc c) (suc d) facts other = known_elsewhere calls c d facts (λ same. other (ap suc same))

its_timer : (facts : CallFacts) (found : Option CallRecord) (timer : Option Timer) → (with_timer facts found timer).timer ≡ timer
its_timer facts None timer = refl
its_timer facts (Some r) timer = refl

-- BEHIND A TURN

-- the timer of a call runs as the book had it armed, or as it has it behind the turn
Between : State → State → List CallFacts → Type 0
Between b b' calls = (c : ℕ) → c < length calls → ((facts_of calls c).timer ≡ map.get b.timers c) ⊎ ((facts_of calls c).timer ≡ map.get b'.timers c)

one_followed : (b b' : State) (e : Event) (calls : List CallFacts) → Between b b' calls → Between (step b e) b' (followed_by b' calls (call_of e))
unfolding Between
one_followed b b' e calls between d = by (call_of e) (others_stay b e d)
  where
    same_number : (c d : ℕ) → Some c ≡ Some d → c ≡ d
    same_number c d it = cc

    kept : ((facts_of calls d).timer ≡ map.get b.timers d) ⊎ ((facts_of calls d).timer ≡ map.get b'.timers d) → map.get (step b e).timers d ≡ map.get b.timers d →
        ((facts_of calls d).timer ≡ map.get (step b e).timers d) ⊎ ((facts_of calls d).timer ≡ map.get b'.timers d)
    kept (inl before) stays = inl (before ∙ sym stays)
    kept (inr behind) stays = inr behind

    moved : (known : CallFacts) → known ≡ facts_of calls d → ((facts_of calls d).timer ≡ map.get (step b e).timers d) ⊎ ((facts_of calls d).timer ≡ map.get b'.timers d) →
        (known.timer ≡ map.get (step b e).timers d) ⊎ (known.timer ≡ map.get b'.timers d)
    moved known same (inl before) = inl (ap (λ (f : CallFacts). f.timer) same ∙ before)
    moved known same (inr behind) = inr (ap (λ (f : CallFacts). f.timer) same ∙ behind)

    by : (who : Option ℕ) → ((who ≡ Some d → ⊥) → map.get (step b e).timers d ≡ map.get b.timers d) → d < length (followed_by b' calls who) →
        ((facts_of (followed_by b' calls who) d).timer ≡ map.get (step b e).timers d) ⊎ ((facts_of (followed_by b' calls who) d).timer ≡ map.get b'.timers d)
    by None stays within = kept (between d within) (stays (λ same. absurd cc))
    by (Some c) stays within =
        let long = length-set calls c (facts_behind b' calls c) in
        elim (call_cases d c) [
          | inl same ↦
              inr (ap (λ z. (facts_of (set calls c (facts_behind b' calls c)) z).timer) same
              ∙ ap (λ (found : Option CallFacts). (or_plain found).timer) (known_there calls c (facts_behind b' calls c) (omega (arith, same)))
              ∙ its_timer (facts_of calls c) (record_of b' c) (map.get b'.timers c)
              ∙ ap (map.get b'.timers) (sym same))
          | inr other ↦
              moved (facts_of (set calls c (facts_behind b' calls c)) d) (ap or_plain (known_elsewhere calls c d (facts_behind b' calls c) other))
              (kept (between d (omega arith)) (stays (λ it. other (sym (same_number c d it)))))
        ]

all_followed : (b b' : State) (steps : List (Event × Reply)) (calls : List CallFacts) → Leads b steps b' → Between b b' calls → TimersRun b' (followed b' calls steps)
unfolding Between
all_followed b b' [] calls leads between = λ c within. elim (between c within) [
  | inl before ↦ before ∙ ap (λ (s : State). map.get s.timers c) (sym leads)
  | inr behind ↦ behind
]
all_followed b b' (s ∷ steps) calls leads between = all_followed (step b s.0) b' steps (followed_by b' calls (call_of s.0)) leads.1 (one_followed b b' s.0 calls between)

pub timers_follow : TimersFollow
unfolding Between
timers_follow b b' steps calls leads run = all_followed b b' steps calls leads (λ c within. inl (run c within))

-- nothing runs where nothing is known
nothing_known : (n c : ℕ) → (facts_of (replicate n plain) c).timer ≡ None
nothing_known zero c = refl
nothing_known (suc n) zero = refl
nothing_known (suc n) (suc c) = nothing_known n c

pub no_timers_run : NoTimersRun
no_timers_run site n c within = nothing_known n c ∙ sym (map.get-empty nat_cmp c)

-- WHAT STARTS AND STOPS

-- for a note and what is armed
runs_as_armed : (c : ℕ) (note armed : Option Timer) (t : Timer) →
    call_runs_behind (if_change (record { call = c; stops = not_armed note armed; starts = not_armed armed note })) t (is_armed t note) ≡ is_armed t armed
runs_as_armed c None None T3103 = refl
runs_as_armed c None None T7 = refl
runs_as_armed c None None T8 = refl
runs_as_armed c None (Some T3103) T3103 = refl
runs_as_armed c None (Some T3103) T7 = refl
runs_as_armed c None (Some T3103) T8 = refl
runs_as_armed c None (Some T7) T3103 = refl
runs_as_armed c None (Some T7) T7 = refl
runs_as_armed c None (Some T7) T8 = refl
runs_as_armed c None (Some T8) T3103 = refl
runs_as_armed c None (Some T8) T7 = refl
runs_as_armed c None (Some T8) T8 = refl
runs_as_armed c (Some T3103) None T3103 = refl
runs_as_armed c (Some T3103) None T7 = refl
runs_as_armed c (Some T3103) None T8 = refl
runs_as_armed c (Some T3103) (Some T3103) T3103 = refl
runs_as_armed c (Some T3103) (Some T3103) T7 = refl
runs_as_armed c (Some T3103) (Some T3103) T8 = refl
runs_as_armed c (Some T3103) (Some T7) T3103 = refl
runs_as_armed c (Some T3103) (Some T7) T7 = refl
runs_as_armed c (Some T3103) (Some T7) T8 = refl
runs_as_armed c (Some T3103) (Some T8) T3103 = refl
runs_as_armed c (Some T3103) (Some T8) T7 = refl
runs_as_armed c (Some T3103) (Some T8) T8 = refl
runs_as_armed c (Some T7) None T3103 = refl
runs_as_armed c (Some T7) None T7 = refl
runs_as_armed c (Some T7) None T8 = refl
runs_as_armed c (Some T7) (Some T3103) T3103 = refl
runs_as_armed c (Some T7) (Some T3103) T7 = refl
runs_as_armed c (Some T7) (Some T3103) T8 = refl
runs_as_armed c (Some T7) (Some T7) T3103 = refl
runs_as_armed c (Some T7) (Some T7) T7 = refl
runs_as_armed c (Some T7) (Some T7) T8 = refl
runs_as_armed c (Some T7) (Some T8) T3103 = refl
runs_as_armed c (Some T7) (Some T8) T7 = refl
runs_as_armed c (Some T7) (Some T8) T8 = refl
runs_as_armed c (Some T8) None T3103 = refl
runs_as_armed c (Some T8) None T7 = refl
runs_as_armed c (Some T8) None T8 = refl
runs_as_armed c (Some T8) (Some T3103) T3103 = refl
runs_as_armed c (Some T8) (Some T3103) T7 = refl
runs_as_armed c (Some T8) (Some T3103) T8 = refl
runs_as_armed c (Some T8) (Some T7) T3103 = refl
runs_as_armed c (Some T8) (Some T7) T7 = refl
runs_as_armed c (Some T8) (Some T7) T8 = refl
runs_as_armed c (Some T8) (Some T8) T3103 = refl
runs_as_armed c (Some T8) (Some T8) T7 = refl
runs_as_armed c (Some T8) (Some T8) T8 = refl

pub changes_follow : ChangesFollow
changes_follow b calls c t = runs_as_armed c (facts_of calls c).timer (map.get b.timers c) t

-- A TIMER THAT RAN OUT

ran_elsewhere : (calls : List CallFacts) (c d : ℕ) (facts : CallFacts) (t : Bool) → d ≢ c → facts_of (cond t (set calls c facts) calls) d ≡ facts_of calls d
ran_elsewhere calls c d facts true other = ap or_plain (known_elsewhere calls c d facts other)
ran_elsewhere calls c d facts false other = refl

ran_long : (calls : List CallFacts) (c : ℕ) (facts : CallFacts) (t : Bool) → length (cond t (set calls c facts) calls) ≡ length calls
ran_long calls c facts true = length-set calls c facts
ran_long calls c facts false = refl

expired_between : (b b' : State) (calls : List CallFacts) (c : ℕ) (t : Timer) → TimersRun b calls → Between b b' (followed_by b' (ran_out calls c t) (Some c))
unfolding Between
expired_between b b' calls c t run d within =
    let ran = ran_out calls c t in
    let empty : CallFacts = record (facts_of calls c) { timer = None } in
    let long = length-set ran c (facts_behind b' ran c) in
    let same_long = ran_long calls c empty (is_running calls c t) in
    elim (call_cases d c) [
      | inl same ↦
          inr (ap (λ z. (facts_of (set ran c (facts_behind b' ran c)) z).timer) same
          ∙ ap (λ (found : Option CallFacts). (or_plain found).timer) (known_there ran c (facts_behind b' ran c) (omega (arith, same)))
          ∙ its_timer (facts_of ran c) (record_of b' c) (map.get b'.timers c)
          ∙ ap (map.get b'.timers) (sym same))
      | inr other ↦
          inl (ap (λ (found : Option CallFacts). (or_plain found).timer) (known_elsewhere ran c d (facts_behind b' ran c) other)
          ∙ ap (λ (f : CallFacts). f.timer) (ran_elsewhere calls c d empty (is_running calls c t) other)
          ∙ run d (omega arith))
    ]

-- behind a turn that an expiry began the timers run just where they are armed
pub expired_follow : (b b' : State) (steps : List (Event × Reply)) (calls : List CallFacts) (c : ℕ) (t : Timer) → Leads b steps b' → TimersRun b calls →
    TimersRun b' (followed b' (followed_by b' (ran_out calls c t) (Some c)) steps)
expired_follow b b' steps calls c t leads run = all_followed b b' steps (followed_by b' (ran_out calls c t) (Some c)) leads (expired_between b b' calls c t run)
