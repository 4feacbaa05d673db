-- A refused event leaves the book as it is: no row accepts an event with a refusal as its answer.
use Rattle.std.proofs.Common.{◌≡◌, ℕ, Bool, true, false, IsTrue, Option, Some, None, is_none, not, ◌==◌, refl, sym, ◌∙◌}
use Rattle.std.specs.FinMap as map
use Rattle.channel_fsm.specs.declared.ChanId.{ChanId}
use Rattle.channel_fsm.specs.declared.ChanState.{ChanState}
use Rattle.attempt_journal.specs.declared.Timer.{Timer}
use Rattle.cell_table.specs.Site.{is_traffic}
use Rattle.radio_book.specs.declared.event.Kind.TheVariants as kind
use Rattle.radio_book.specs.declared.event.Why.{Why}
use Rattle.radio_book.specs.declared.event.Why.TheVariants.{Asked, Expired}
use Rattle.radio_tables.specs.declared.kinds.Attempt.{Attempt}
use Rattle.radio_tables.specs.declared.kinds.CallRecord.{CallRecord}
use Rattle.radio_book.specs.declared.event.Event.{Event}
use Rattle.radio_book.specs.declared.event.Event.TheVariants as event
use Rattle.radio_book.specs.declared.event.Refusal.{Refusal}
use Rattle.radio_book.specs.declared.event.Refusal.TheVariants.{NoCall, CallExists, WrongPhase, NoChannel, SameCell, RefBusy, Unexpected, NotArmed}
use Rattle.radio_book.specs.State.{State, state_of, record_of}
use Rattle.radio_book.specs.Table.{in_way, Outcome, Refuses, Accepts, needs, given, unless_busy, channel_row, owner, is_target, reference_at, row, step, reply_to, reply_of, book_after, begin_row, at_rest, in_stage, undo_by, is_armed}
use Rattle.radio_book.specs.Kinds.{is_accepted}
use Rattle.radio_tables.specs.Stages.{Allows, stage_allows}

-- what a row accepts is answered as accepted
abbrev IsFair : Outcome → Type 0
IsFair (Refuses refusal) = Unit {0}
IsFair (Accepts change reply) = IsTrue (is_accepted reply)

needs_fair : (q : Bool) (refusal : Refusal) (rest : Outcome) → IsFair rest → IsFair (needs q refusal rest)
needs_fair true refusal rest fair = fair
needs_fair false refusal rest fair = tt

given_fair : {X : Type 0} (o : Option X) (refusal : Refusal) (rest : X → Outcome) → ((x : X) → IsFair (rest x)) → IsFair (given o refusal rest)
given_fair None refusal rest fair = tt
given_fair (Some x) refusal rest fair = fair x

busy_fair : (way : Option ChanId) (rest : Outcome) → IsFair rest → IsFair (unless_busy way rest)
busy_fair None rest fair = fair
busy_fair (Some y) rest fair = tt

begin_fair : (c : ℕ) (x : ChanId) (r : CallRecord) (s : ChanState) (found : Option CallRecord) (traffic : Bool) (way : Option ChanId) → IsFair (begin_row c x r s found traffic way)
begin_fair c x r s found traffic way = needs_fair (is_none found) CallExists _ (needs_fair traffic NoChannel _ (busy_fair way _ refl))

rest_fair : (r : CallRecord) (states : ChanId → ChanState) (rest : ChanId → Outcome) → ((s : ChanId) → IsFair (rest s)) → IsFair (at_rest r states rest)
rest_fair r states rest fair = needs_fair (is_none r.attempt) WrongPhase _ (given_fair r.serving WrongPhase _ (λ s. given_fair (channel_row (states s)).active WrongPhase _ (λ d. fair s)))

stage_fair : (r : CallRecord) (may : Allows → Bool) (rest : Attempt → Outcome) → ((a : Attempt) → IsFair (rest a)) → IsFair (in_stage r may rest)
stage_fair r may rest fair = given_fair r.attempt WrongPhase _ (λ a. needs_fair (may (stage_allows a.stage)) WrongPhase _ (fair a))

undo_fair : (c : ℕ) (why : Why) (r : CallRecord) (states : ChanId → ChanState) (armed : Option Timer) → IsFair (undo_by c why r states armed)
undo_fair c Asked r states armed = given_fair r.attempt WrongPhase _ (λ a. refl)
undo_fair c (Expired m) r states armed = needs_fair (is_armed m armed) NotArmed _ (given_fair r.attempt NotArmed _ (λ a. refl))

row_fair : (b : State) (e : Event) → IsFair (row b e)
row_fair b (event.Open c x) = begin_fair c x _ _ (record_of b c) (is_traffic b.site x) (in_way b x)
row_fair b (event.Clear c) = given_fair (record_of b c) NoCall _ (λ r. needs_fair (is_none r.attempt) WrongPhase _ refl)
row_fair b (event.Look c) = given_fair (record_of b c) NoCall _ (λ r. refl)
row_fair b (event.Take c kind.Internal x) =
    given_fair (record_of b c) NoCall _ (λ r. rest_fair r (state_of b) _ (λ s.
    needs_fair (is_traffic b.site x) NoChannel _ (needs_fair (not (s.cell == x.cell)) SameCell _ (busy_fair (in_way b x) _ refl))))
row_fair b (event.Take c kind.Incoming x) = begin_fair c x _ _ (record_of b c) (is_traffic b.site x) (in_way b x)
row_fair b (event.Reserve c n) =
    given_fair (record_of b c) NoCall _ (λ r. stage_fair r (λ may. may.reserve) _ (λ a. given_fair a.target WrongPhase _ (λ t. needs_fair (is_none (map.get b.references (reference_at t n))) (RefBusy t.cell n) _ refl)))
row_fair b (event.Activate c) = given_fair (record_of b c) NoCall _ (λ r. stage_fair r (λ may. may.activate) _ (λ a. given_fair a.target WrongPhase _ (λ t. refl)))
row_fair b (event.Command c) = given_fair (record_of b c) NoCall _ (λ r. stage_fair r (λ may. may.command) _ (λ a. refl))
row_fair b (event.Complete c) = given_fair (record_of b c) NoCall _ (λ r. stage_fair r (λ may. may.complete) _ (λ a. refl))
row_fair b (event.Undo c why) = given_fair (record_of b c) NoCall _ (λ r. undo_fair c why r (state_of b) (map.get b.timers c))
row_fair b (event.Confirm x) = given_fair (channel_row (state_of b x)).activating (Unexpected x) _ (λ c. refl)
row_fair b (event.Refuse x) = given_fair (channel_row (state_of b x)).activating (Unexpected x) _ (λ c. refl)
row_fair b (event.Detect x) =
    given_fair (channel_row (state_of b x)).active (Unexpected x) _ (λ c. given_fair (record_of b c) (Unexpected x) _ (λ r. given_fair r.attempt (Unexpected x) _ (λ a.
    needs_fair (is_target x a.target) (Unexpected x) _ (needs_fair (stage_allows a.stage).detect (Unexpected x) _ refl))))
row_fair b (event.Released x) = needs_fair (channel_row (state_of b x)).off (Unexpected x) _ refl
row_fair b (event.Owner x) = given_fair (owner (state_of b x)) (Unexpected x) _ (λ c. refl)
row_fair b (event.Require c) = given_fair (record_of b c) NoCall _ (λ r. rest_fair r (state_of b) _ (λ s. refl))
row_fair b (event.Order c) = given_fair (record_of b c) NoCall _ (λ r. stage_fair r (λ may. may.order) _ (λ a. refl))
row_fair b (event.Left c) = given_fair (record_of b c) NoCall _ (λ r. stage_fair r (λ may. may.left) _ (λ a. refl))

pub refused_stays : (b : State) (e : Event) → is_accepted (reply_to b e) ≡ false → step b e ≡ b
refused_stays b e = by (row b e) (row_fair b e)
  where
    by : (o : Outcome) → IsFair o → is_accepted (reply_of o) ≡ false → book_after o b ≡ b
    by (Refuses refusal) fair refused = refl
    by (Accepts change reply) fair refused = let bad : true ≡ false = sym fair ∙ refused in cc
