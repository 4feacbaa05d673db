-- The table of the book: how each event is judged by what stands in the book. It is refused, by what comes first in Refusal
-- where several would do, or it is accepted with a change and an answer.
-- Its rows are the steps of calls and handovers (TS 44.018 clause 3.4.4, TS 48.008 clause 3.1.5), and of the activation and
-- release of channels (TS 48.058 clause 4).
use Rattle.std.specs.Prelude.{◌≡◌, ℕ, Bool, true, false, not, if◌then◌else◌, ◌==◌, ◌⊎◌, Option, Some, None, is_none}
use Rattle.std.specs.Option.{option_map}
use Rattle.std.specs.FinMap as map
use Rattle.channel_fsm.specs.declared.ChanId.{ChanId}
use Rattle.channel_fsm.specs.declared.ChanState.{ChanState}
use Rattle.channel_fsm.specs.Slots.{first_in_way}
use Rattle.channel_fsm.specs.declared.ChanState.TheVariants.{Held, Pending, On, Off}
use Rattle.radio_book.specs.declared.event.Kind.{Kind}
use Rattle.radio_book.specs.declared.event.Kind.TheVariants as kind
use Rattle.radio_tables.specs.declared.kinds.AttemptKind.{AttemptKind}
use Rattle.radio_tables.specs.declared.kinds.AttemptKind.TheVariants.{Internal, Incoming, Outgoing}
use Rattle.attempt_journal.specs.declared.Timer.{Timer}
use Rattle.attempt_journal.specs.declared.Timer.TheVariants.{T3103, T7, T8}
use Rattle.radio_book.specs.declared.event.Why.{Why}
use Rattle.radio_book.specs.declared.event.Why.TheVariants.{Asked, Expired}
use Rattle.radio_tables.specs.declared.kinds.Stage.{Stage}
use Rattle.radio_tables.specs.declared.kinds.Stage.TheVariants as stage
use Rattle.radio_tables.specs.declared.kinds.Attempt.{Attempt}
use Rattle.radio_tables.specs.declared.kinds.CallRecord.{CallRecord}
use Rattle.dense_tables.specs.declared.references.Reference.{Reference}
use Rattle.radio_book.specs.declared.event.Event.{Event}
use Rattle.radio_book.specs.declared.event.Event.TheVariants as event
use Rattle.radio_book.specs.declared.event.Refusal.{Refusal}
use Rattle.radio_book.specs.declared.event.Refusal.TheVariants.{NoCall, CallExists, WrongPhase, NoChannel, SameCell, ChannelBusy, RefBusy, Unexpected, NotArmed}
use Rattle.radio_book.specs.declared.event.Reply.{Reply}
use Rattle.radio_book.specs.declared.event.Reply.TheVariants.{Done, Record, Owned, Refused}
use Rattle.radio_book.specs.declared.facts.Growth.{Growth}
use Rattle.radio_book.specs.declared.facts.Growth.TheVariants.{OfCalls, InPlace}
use Rattle.cell_table.specs.Site.{is_traffic}
use Rattle.radio_tables.specs.Maps.{Entry, AddsKey}
use Rattle.radio_tables.specs.Stages.{Allows, stage_allows}
use Rattle.radio_book.specs.State.{State, Change, apply, state_of, record_of}
use Rattle.radio_book.specs.Facts.{event_facts}
pub use Rattle.radio_tables.specs.Keys.{same_chan}
pub use Rattle.radio_tables.specs.Choice.{in_way}
pub use Rattle.radio_tables.specs.States.{ChannelRow, channel_row, owner, left_state}
pub use Rattle.radio_tables.specs.Records.{with_attempt, at_stage, taken_attempt, required_attempt, reserved_record}

-- an event is refused, or it is accepted with what it changes and what it is answered
pub data Outcome : Type 0 where
  Refuses : Refusal → Outcome
  Accepts : Change → Reply → Outcome

-- GUARDS, of which a row has one for each of its refusals, in their order

-- the rest of a row where this holds; else the refusal
abbrev pub needs : Bool → Refusal → Outcome → Outcome
needs true refusal rest = rest
needs false refusal rest = Refuses refusal

-- the rest of a row for what is there; where nothing is, the refusal
abbrev pub given : {X : Type 0} → Option X → Refusal → (X → Outcome) → Outcome
given None refusal rest = Refuses refusal
given (Some x) refusal rest = rest x

-- the rest of a row where nothing is in the way of a channel; else it is refused for what is
abbrev pub unless_busy : Option ChanId → Outcome → Outcome
unless_busy None rest = rest
unless_busy (Some y) rest = Refuses (ChannelBusy y)

-- PARTS OF CHANGES

abbrev pub no_change : Change
no_change = record { channel = None; call = None; reference = None; timer = None }

abbrev pub with_entry : {K X : Type 0} → K → X → Option (Entry K X)
with_entry k v = Some (k, Some v)

abbrev pub without_entry : {K X : Type 0} → K → Option (Entry K X)
without_entry k = Some (k, None)

-- the record, and the state of its serving channel
abbrev pub record_reply : CallRecord → (ChanId → ChanState) → Reply
record_reply r states = Record r (option_map states r.serving)

-- CALLS

-- a call begins with this record on a traffic channel in whose way nothing is, and which comes to this state
abbrev pub begin_row : ℕ → ChanId → CallRecord → ChanState → Option CallRecord → Bool → Option ChanId → Outcome
begin_row c x r s found traffic way =
    needs (is_none found) CallExists (needs traffic NoChannel (unless_busy way
    (Accepts (record no_change { channel = with_entry x s; call = with_entry c r }) Done)))

-- Open: a call begins on its serving channel, whose CHANNEL ACTIVATION is sent (TS 48.058 clause 8.4.1)
abbrev pub open_row : ℕ → ChanId → Option CallRecord → Bool → Option ChanId → Outcome
open_row c x found traffic way = begin_row c x (record { serving = Some x; attempt = None }) (Pending c) found traffic way

-- Clear: a call without an attempt ends
abbrev pub clear_row : ℕ → Option CallRecord → (ChanId → ChanState) → Outcome
clear_row c found states =
    given found NoCall (λ r. needs (is_none r.attempt) WrongPhase
    (Accepts (record no_change { channel = option_map (λ x. (x, left_state (states x))) r.serving; call = Some (c, None) }) Done))

-- Look: what the book has of a call
abbrev pub look_row : Option CallRecord → (ChanId → ChanState) → Outcome
look_row found states = given found NoCall (λ r. Accepts no_change (record_reply r states))

-- ATTEMPTS OPEN

-- the call is on an active channel, and no attempt is open
abbrev pub at_rest : CallRecord → (ChanId → ChanState) → (ChanId → Outcome) → Outcome
at_rest r states rest =
    needs (is_none r.attempt) WrongPhase (given r.serving WrongPhase (λ s. given (channel_row (states s)).active WrongPhase (λ d. rest s)))

-- the channel is held by the call, whose record is this from now on
abbrev pub taking_change : ℕ → ChanId → CallRecord → Change
taking_change c x r = record no_change { channel = with_entry x (Held c); call = with_entry c r }

-- an attempt of a call of this controller (TS 44.018 clause 3.4.4)
abbrev pub take_internal : ℕ → ChanId → Option CallRecord → (ChanId → ChanState) → Bool → Outcome
take_internal c x found states traffic =
    given found NoCall (λ r. at_rest r states (λ s.
    needs traffic NoChannel (needs (not (s.cell == x.cell)) SameCell (unless_busy (first_in_way states x)
    (Accepts (taking_change c x (with_attempt r (taken_attempt Internal x))) Done)))))

-- Take: an attempt is opened, and takes a free channel; a call that comes from another controller (TS 48.008 clause 3.1.5)
-- begins with it
abbrev pub take_row : ℕ → Kind → ChanId → Option CallRecord → (ChanId → ChanState) → Bool → Outcome
take_row c kind.Internal x found states traffic = take_internal c x found states traffic
take_row c kind.Incoming x found states traffic =
    begin_row c x (record { serving = None; attempt = Some (taken_attempt Incoming x) }) (Held c) found traffic (first_in_way states x)

-- Require: the switching centre is asked for a handover (HANDOVER REQUIRED), and T7 is armed
abbrev pub require_row : ℕ → Option CallRecord → (ChanId → ChanState) → Outcome
require_row c found states =
    given found NoCall (λ r. at_rest r states (λ s.
    Accepts (record no_change { call = with_entry c (with_attempt r required_attempt); timer = with_entry c T7 }) Done))

-- ATTEMPTS GO ON

-- the call's attempt, in a stage that allows the step
abbrev pub in_stage : CallRecord → (Allows → Bool) → (Attempt → Outcome) → Outcome
in_stage r step rest = given r.attempt WrongPhase (λ a. needs (step (stage_allows a.stage)) WrongPhase (rest a))

-- the Handover Reference (TS 44.018 clause 10.5.2.15) with a number in the cell of a channel
abbrev pub reference_at : ChanId → ℕ → Reference
reference_at x n = record { cell = x.cell; number = n }

-- the reference that an attempt has, in the cell of its target
abbrev pub reference_held : Option ChanId → Option ℕ → Option Reference
reference_held None number = None
reference_held (Some t) None = None
reference_held (Some t) (Some n) = Some (reference_at t n)

-- Reserve: an attempt that has its channel reserves a reference of the channel's cell
abbrev pub reserve_row : ℕ → ℕ → Option CallRecord → (Reference → Option ℕ) → Outcome
reserve_row c n found user =
    given found NoCall (λ r. in_stage r (λ may. may.reserve) (λ a. given a.target WrongPhase (λ t.
    needs (is_none (user (reference_at t n))) (RefBusy t.cell n)
    (Accepts (record no_change { call = with_entry c (reserved_record r a n); reference = Some (reference_at t n, Some c) }) Done))))

-- Activate: the CHANNEL ACTIVATION of an attempt's channel is sent (TS 48.058 clause 8.4.1)
abbrev pub activate_row : ℕ → Option CallRecord → Outcome
activate_row c found =
    given found NoCall (λ r. in_stage r (λ may. may.activate) (λ a. given a.target WrongPhase (λ t.
    Accepts (record no_change { channel = with_entry t (Pending c); call = with_entry c (at_stage r a stage.Sent) }) Done)))

-- Command: the mobile is sent to the target (HANDOVER COMMAND, TS 44.018 clause 3.4.4), and T3103 is armed
abbrev pub command_row : ℕ → Option CallRecord → Outcome
command_row c found =
    given found NoCall (λ r. in_stage r (λ may. may.command) (λ a.
    Accepts (record no_change { call = with_entry c (at_stage r a stage.Commanded); timer = with_entry c T3103 }) Done))

-- Order: the mobile is sent to the other controller (HANDOVER COMMAND, TS 48.008 clause 3.1.5); T8 is armed in place of T7
abbrev pub order_row : ℕ → Option CallRecord → Outcome
order_row c found =
    given found NoCall (λ r. in_stage r (λ may. may.order) (λ a.
    Accepts (record no_change { call = with_entry c (at_stage r a stage.Ordered); timer = with_entry c T8 }) Done))

-- ATTEMPTS END

-- the call is served on its target; to the channel that it leaves RF CHANNEL RELEASE is sent (TS 48.058 clause 8.4.14)
abbrev pub complete_change : ℕ → CallRecord → Attempt → Change
complete_change c r a = record {
  channel = option_map (λ s. (s, Some Off)) r.serving;
  call = with_entry c (record { serving = a.target; attempt = None });
  reference = option_map (λ k. (k, None)) (reference_held a.target a.reference);
  timer = without_entry c;
}

-- Complete: the mobile has come to the target (HANDOVER COMPLETE, TS 44.018 clause 3.4.4)
abbrev pub complete_row : ℕ → Option CallRecord → Outcome
complete_row c found = given found NoCall (λ r. in_stage r (λ may. may.complete) (λ a. Accepts (complete_change c r a) Done))

-- Left: the call has left for the other controller, and ends (TS 48.008 clause 3.1.9)
abbrev pub left_row : ℕ → Option CallRecord → Outcome
left_row c found =
    given found NoCall (λ r. in_stage r (λ may. may.left) (λ a.
    Accepts (record no_change { channel = option_map (λ s. (s, Some Off)) r.serving; call = Some (c, None); timer = without_entry c }) Done))

-- what an undo leaves of the record: a call of this controller rests on its serving channel, another is forgotten
abbrev pub resting_record : AttemptKind → CallRecord → Option CallRecord
resting_record Internal r = Some (record r { attempt = None })
resting_record Incoming r = None
resting_record Outgoing r = Some (record r { attempt = None })

-- the attempt is gone: nothing of it is left but a target whose release is awaited
abbrev pub undo_change : ℕ → CallRecord → Attempt → (ChanId → ChanState) → Option Timer → Change
undo_change c r a states armed = record {
  channel = option_map (λ t. (t, left_state (states t))) a.target;
  call = Some (c, resting_record a.kind r);
  reference = option_map (λ k. (k, None)) (reference_held a.target a.reference);
  timer = option_map (λ m. (c, None)) armed;
}

abbrev pub undo_attempt : ℕ → Refusal → CallRecord → Option Attempt → (ChanId → ChanState) → Option Timer → Outcome
undo_attempt c refusal r opened states armed =
    given opened refusal (λ a. Accepts (undo_change c r a states armed) (record_reply r states))

abbrev pub timer_number : Timer → ℕ
timer_number T3103 = 3103
timer_number T7 = 7
timer_number T8 = 8

-- the timer is the one that is armed
abbrev pub is_armed : Timer → Option Timer → Bool
is_armed m None = false
is_armed m (Some n) = timer_number m == timer_number n

abbrev pub undo_by : ℕ → Why → CallRecord → (ChanId → ChanState) → Option Timer → Outcome
undo_by c Asked r states armed = undo_attempt c WrongPhase r r.attempt states armed
-- a timer with no attempt to guard is refused like one that isn't armed
undo_by c (Expired m) r states armed = needs (is_armed m armed) NotArmed (undo_attempt c NotArmed r r.attempt states armed)

-- Undo: an attempt is taken back, because it was asked or because a timer of it expired (T3103 by TS 44.018 clause 11.1.2,
-- T7 and T8 by TS 48.008 clause 3.1.5)
abbrev pub undo_row : ℕ → Why → Option CallRecord → (ChanId → ChanState) → Option Timer → Outcome
undo_row c why found states armed = given found NoCall (λ r. undo_by c why r states armed)

-- STATIONS

abbrev pub is_target : ChanId → Option ChanId → Bool
is_target x None = false
is_target x (Some t) = same_chan t x

abbrev pub attempt_entry : ChanId → Stage → ℕ → CallRecord → Option Attempt → Option (Entry ℕ CallRecord)
attempt_entry x s c r None = None
attempt_entry x s c r (Some a) = if is_target x a.target then with_entry c (at_stage r a s) else None

-- the call's attempt comes to a stage where the channel is its target
abbrev pub moved_entry : ChanId → Stage → ℕ → Option CallRecord → Option (Entry ℕ CallRecord)
moved_entry x s c None = None
moved_entry x s c (Some r) = attempt_entry x s c r r.attempt

-- Confirm: a station activated a channel, by CHANNEL ACTIVATION ACKNOWLEDGE (TS 48.058 clause 8.4.2)
abbrev pub confirm_row : ChanId → ChanState → (ℕ → Option CallRecord) → Outcome
confirm_row x state find =
    given (channel_row state).activating (Unexpected x) (λ c.
    Accepts (record no_change { channel = with_entry x (On c); call = moved_entry x stage.Confirmed c (find c) }) (Owned c))

-- Refuse: a station refused to activate a channel, by CHANNEL ACTIVATION NEGATIVE ACKNOWLEDGE (TS 48.058 clause 8.4.3)
abbrev pub refuse_row : ChanId → ChanState → (ℕ → Option CallRecord) → Outcome
refuse_row x state find =
    given (channel_row state).activating (Unexpected x) (λ c.
    Accepts (record no_change { channel = with_entry x (Held c); call = moved_entry x stage.Refused c (find c) }) (Owned c))

-- the channel is the target of the call's attempt, in a stage that allows it to be detected
abbrev pub detect_by : ChanId → ℕ → Option CallRecord → Outcome
detect_by x c found =
    given found (Unexpected x) (λ r. given r.attempt (Unexpected x) (λ a.
    needs (is_target x a.target) (Unexpected x) (needs (stage_allows a.stage).detect (Unexpected x)
    (Accepts (record no_change { call = with_entry c (at_stage r a stage.Detected) }) (Owned c)))))

-- Detect: a station sees the mobile on a target, by HANDOVER DETECTION (TS 48.058 clause 8.4.7)
abbrev pub detect_row : ChanId → ChanState → (ℕ → Option CallRecord) → Outcome
detect_row x state find = given (channel_row state).active (Unexpected x) (λ c. detect_by x c (find c))

-- Released: a station released a channel, by RF CHANNEL RELEASE ACKNOWLEDGE (TS 48.058 clause 8.4.19)
abbrev pub released_row : ChanId → ChanState → Outcome
released_row x state = needs (channel_row state).off (Unexpected x) (Accepts (record no_change { channel = without_entry x }) Done)

-- Owner: the call whose the channel is
abbrev pub owner_row : ChanId → Option ℕ → Outcome
owner_row x found = given found (Unexpected x) (λ c. Accepts no_change (Owned c))

-- EVENTS

-- the row of each event
abbrev pub row : State → Event → Outcome
row b (event.Open c x) = open_row c x (record_of b c) (is_traffic b.site x) (in_way b x)
row b (event.Clear c) = clear_row c (record_of b c) (state_of b)
row b (event.Look c) = look_row (record_of b c) (state_of b)
row b (event.Take c k x) = take_row c k x (record_of b c) (state_of b) (is_traffic b.site x)
row b (event.Reserve c n) = reserve_row c n (record_of b c) (map.get b.references)
row b (event.Activate c) = activate_row c (record_of b c)
row b (event.Undo c why) = undo_row c why (record_of b c) (state_of b) (map.get b.timers c)
row b (event.Confirm x) = confirm_row x (state_of b x) (record_of b)
row b (event.Refuse x) = refuse_row x (state_of b x) (record_of b)
row b (event.Released x) = released_row x (state_of b x)
row b (event.Command c) = command_row c (record_of b c)
row b (event.Complete c) = complete_row c (record_of b c)
row b (event.Detect x) = detect_row x (state_of b x) (record_of b)
row b (event.Owner x) = owner_row x (owner (state_of b x))
row b (event.Require c) = require_row c (record_of b c) (state_of b)
row b (event.Order c) = order_row c (record_of b c)
row b (event.Left c) = left_row c (record_of b c)

-- the book after an event, by its outcome
abbrev pub book_after : Outcome → State → State
book_after (Refuses refusal) b = b
book_after (Accepts change reply) b = apply change b

abbrev pub reply_of : Outcome → Reply
reply_of (Refuses refusal) = Refused refusal
reply_of (Accepts change reply) = reply

-- what an event makes of a book; a refused one leaves it as it is
abbrev pub step : State → Event → State
step b e = book_after (row b e) b

-- the reply to an event
abbrev pub reply_to : State → Event → Reply
reply_to b e = reply_of (row b e)

-- the event is accepted, and its change puts a key that a map doesn't have; a timer stands with its call
abbrev pub NeedsRoom : State → Outcome → Type 0
NeedsRoom b (Refuses refusal) = ⊥
NeedsRoom b (Accepts change reply) =
    AddsKey b.channels change.channel ⊎ AddsKey b.calls change.call ⊎ AddsKey b.references change.reference

-- something grows by an event
abbrev pub Grows : Option Growth → Type 0
Grows None = ⊥
Grows (Some growth) = Unit {0}

-- the kinds of event that may put a key: they begin a call or an attempt, or reserve a reference
abbrev pub MayNeedRoom : Event → Type 0
MayNeedRoom e = Grows (event_facts e).grows

-- memory may be refused where this grows
abbrev pub MayLackMemory : Bool → Option Growth → Type 0
MayLackMemory in_place None = ⊥
MayLackMemory in_place (Some OfCalls) = Unit {0}
MayLackMemory in_place (Some InPlace) = in_place ≡ true

-- Memory may be refused to an event: to one that begins a call, and where a change in place may be refused it, to one that
-- takes a channel or a reference for a call that is there.
abbrev pub MayBeRefused : Bool → Event → Type 0
MayBeRefused in_place e = MayLackMemory in_place (event_facts e).grows
