-- Steps of others, while an attempt is open and while its target's release is awaited. Ours, of no standard.
use Rattle.std.specs.Prelude.{◌≡◌, ◌⊎◌, ℕ, if◌then◌else◌, IsTrue, Option, Some, None}
use Rattle.std.specs.Option.{option_map}
use Rattle.std.specs.FinMap as map
use Rattle.channel_fsm.specs.declared.ChanId.{ChanId}
use Rattle.channel_fsm.specs.declared.ChanState.TheVariants.{Free, Off}
use Rattle.dense_tables.specs.declared.references.Reference.{Reference}
use Rattle.radio_tables.specs.declared.kinds.Attempt.{Attempt}
use Rattle.radio_tables.specs.declared.kinds.CallRecord.{CallRecord}
use Rattle.radio_book.specs.declared.event.Event.{Event}
use Rattle.radio_book.specs.declared.event.Refusal.TheVariants.{ChannelBusy, RefBusy}
use Rattle.radio_book.specs.declared.event.Reply.{Reply}
use Rattle.radio_book.specs.declared.event.Reply.TheVariants.{Refused}
use Rattle.attempt_journal.specs.declared.Timer.{Timer}
use Rattle.radio_book.specs.State.{State, Change, apply, state_of, record_of}
use Rattle.radio_book.specs.Sound.{IsSound}
use Rattle.radio_book.specs.Kinds.{call_of, channel_of, Opens, EndsIt, number_of, is_accepted, is_reserved}
use Rattle.radio_book.specs.Table.{step, reply_to, undo_change, reference_held, no_change}

-- a refusal that comes from a channel which an attempt holds, or from its reference
abbrev pub IsHeldChannel : ChanId → Reply → Type 0
IsHeldChannel x reply = reply ≡ Refused (ChannelBusy x)

abbrev pub IsHeldReference : Option Reference → Reply → Type 0
IsHeldReference None reply = ⊥
IsHeldReference (Some k) reply = reply ≡ Refused (RefBusy k.cell k.number)

-- all that an open attempt has is gone: what its undo takes away, and its channel, whatever its state
abbrev pub without_attempt : ℕ → CallRecord → Attempt → Option Timer → Change
without_attempt c r a armed = record (undo_change c r a (λ x. Free) armed) { channel = option_map (λ t. (t, None)) a.target }

-- a channel whose release is awaited is gone, if there is one
abbrev pub without_channel : Option ChanId → Change
without_channel target = record no_change { channel = option_map (λ t. (t, None)) target }

-- the step and the taking away lead to one book in either order, and the reply is the same
pub record Commutes (removal : Change) (b : State) (e : Event) : Type 0 where
  pub book : apply removal (step b e) ≡ step (apply removal b) e
  pub reply : reply_to (apply removal b) e ≡ reply_to b e

-- the event is no station's on the channel, and its reply is no refusal that comes from it
pub record LeavesAlone (t : ChanId) (b : State) (e : Event) : Type 0 where
  pub event : channel_of e ≡ Some t → ⊥
  pub reply : IsHeldChannel t (reply_to b e) → ⊥

-- while an attempt is open: a step that isn't by its call, leaves its target alone, and is no refusal that comes from its
-- reference
abbrev pub CommutesWhileOpen : Event → Type 0
CommutesWhileOpen e =
    (c : ℕ) (r : CallRecord) (a : Attempt) (b : State) →
    IsSound b → record_of b c ≡ Some r → r.attempt ≡ Some a →
    (call_of e ≡ Some c → ⊥) → ((t : ChanId) → a.target ≡ Some t → LeavesAlone t b e) →
    (IsHeldReference (reference_held a.target a.reference) (reply_to b e) → ⊥) →
    Commutes (without_attempt c r a (map.get b.timers c)) b e

-- a step that leaves an attempt as it is: the record of its call, the state of its target, its timer
pub record LeavesAttempt (c : ℕ) (target : Option ChanId) (b after : State) : Type 0 where
  pub record_stays : record_of after c ≡ record_of b c
  pub target_stays : (t : ChanId) → target ≡ Some t → state_of after t ≡ state_of b t
  pub timer_stays : map.get after.timers c ≡ map.get b.timers c

-- while an attempt is open: the same steps leave it as it is
abbrev pub LeavesOpenAttempts : Event → Type 0
LeavesOpenAttempts e =
    (c : ℕ) (r : CallRecord) (a : Attempt) (b : State) →
    IsSound b → record_of b c ≡ Some r → r.attempt ≡ Some a →
    (call_of e ≡ Some c → ⊥) → ((t : ChanId) → a.target ≡ Some t → LeavesAlone t b e) →
    (IsHeldReference (reference_held a.target a.reference) (reply_to b e) → ⊥) →
    LeavesAttempt c a.target b (step b e)

-- once it is undone, while its target is off: a step that leaves the target alone
abbrev pub CommutesWhileOff : Event → Type 0
CommutesWhileOff e =
    (t : ChanId) (b : State) → IsSound b → state_of b t ≡ Off → LeavesAlone t b e → Commutes (without_channel (Some t)) b e

-- and it leaves the target off
abbrev pub LeavesOffTargets : Event → Type 0
LeavesOffTargets e = (t : ChanId) (b : State) → IsSound b → state_of b t ≡ Off → LeavesAlone t b e → state_of (step b e) t ≡ Off

pub record CommutesWithUndone (e : Event) : Type 0 where
  pub while_open : CommutesWhileOpen e
  pub while_off : CommutesWhileOff e

-- an undo, and then its target gone: the same as if all that the attempt had were gone at once
abbrev pub UndoneIsRemoved : Type 0
UndoneIsRemoved =
    (c : ℕ) (r : CallRecord) (a : Attempt) (b : State) →
    apply (without_channel a.target) (apply (undo_change c r a (state_of b) (map.get b.timers c)) b) ≡ apply (without_attempt c r a (map.get b.timers c)) b

-- the book without the open attempt of a call; where the call has none, the book
abbrev pub without_open : ℕ → CallRecord → Option Attempt → State → State
without_open c r None b = b
without_open c r (Some a) b = apply (without_attempt c r a (map.get b.timers c)) b

abbrev pub without_attempt_in : ℕ → Option CallRecord → State → State
without_attempt_in c None b = b
without_attempt_in c (Some r) b = without_open c r r.attempt b

abbrev pub without_attempt_of : ℕ → State → State
without_attempt_of c b = without_attempt_in c (record_of b c) b

-- an attempt of the call is open, with this target and this number of its reference
pub record IsOpen (c : ℕ) (target : Option ChanId) (number : Option ℕ) (b : State) : Type 0 where
  pub call_record : CallRecord
  pub attempt : Attempt
  pub of_call : record_of b c ≡ Some call_record
  pub of_record : call_record.attempt ≡ Some attempt
  pub aims : attempt.target ≡ target
  pub has : attempt.reference ≡ number

-- the attempt is open, without a reference, and else the book is as it was
pub record AddsTheAttempt (c : ℕ) (target : Option ChanId) (b : State) (e : Event) : Type 0 where
  pub rest : without_attempt_of c (step b e) ≡ b
  pub opened : IsOpen c target None (step b e)

-- so is it after an opening that is accepted
abbrev pub OpeningsAddTheAttempt : Type 0
OpeningsAddTheAttempt =
    (e : Event) (c : ℕ) (target : Option ChanId) (b : State) →
    IsSound b → Opens c target e → IsTrue (is_accepted (reply_to b e)) → AddsTheAttempt c target b e

-- an event by the attempt's call, or a station's about its target
abbrev pub IsOwn : ℕ → Option ChanId → Event → Type 0
IsOwn c target e = (call_of e ≡ Some c) ⊎ ((t : ChanId) × (target ≡ Some t) × (channel_of e ≡ Some t))

-- the number of an attempt's reference after a step of its own, by that before
abbrev pub number_after : Option ℕ → Event → Reply → Option ℕ
number_after number e reply = if is_reserved e reply then number_of e else number

-- the step changes nothing but what the attempt has, which stays open; it reserves a reference only where it has none
pub record GoesOn (c : ℕ) (target : Option ChanId) (number : Option ℕ) (b : State) (e : Event) : Type 0 where
  pub changed : without_attempt_of c (step b e) ≡ without_attempt_of c b
  pub opened : IsOpen c target (number_after number e (reply_to b e)) (step b e)
  pub first_number : IsTrue (is_reserved e (reply_to b e)) → number ≡ None

-- so goes each own step of an attempt that doesn't end it
abbrev pub OwnStepsChangeTheAttempt : Type 0
OwnStepsChangeTheAttempt =
    (e : Event) (c : ℕ) (target : Option ChanId) (number : Option ℕ) (b : State) →
    IsSound b → IsOpen c target number b → IsOwn c target e → (IsTrue (is_accepted (reply_to b e)) → EndsIt c e → ⊥) →
    GoesOn c target number b e
