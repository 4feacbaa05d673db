-- The rows of the table, each from one of its guards on, by what that guard reads.
use Rattle.std.specs.Prelude.{ℕ, Bool, not, ◌==◌, Option, Some, None, is_none}
use Rattle.std.specs.Option.{option_map}
use Rattle.channel_fsm.specs.declared.ChanId.{ChanId}
use Rattle.channel_fsm.specs.declared.ChanState.{ChanState}
use Rattle.channel_fsm.specs.Slots.{first_in_way}
use Rattle.channel_fsm.specs.declared.ChanState.TheVariants.{Pending, Off}
use Rattle.attempt_journal.specs.declared.Timer.TheVariants.{T3103, T7, T8}
use Rattle.radio_tables.specs.declared.kinds.AttemptKind.TheVariants.{Internal}
use Rattle.radio_tables.specs.declared.kinds.Stage.{Stage}
use Rattle.radio_tables.specs.declared.kinds.Stage.TheVariants as stage
use Rattle.radio_tables.specs.declared.kinds.Attempt.{Attempt}
use Rattle.radio_tables.specs.declared.kinds.CallRecord.{CallRecord}
use Rattle.dense_tables.specs.declared.references.Reference.{Reference}
use Rattle.radio_book.specs.declared.event.Refusal.TheVariants.{WrongPhase, NoChannel, SameCell, RefBusy, Unexpected}
use Rattle.radio_book.specs.declared.event.Reply.TheVariants.{Done, Owned}
use Rattle.radio_tables.specs.Stages.{stage_allows}
use Rattle.radio_book.specs.Table.{Outcome, Accepts, needs, given, unless_busy, channel_row, left_state, no_change, with_entry, without_entry, with_attempt, at_stage, taken_attempt, taking_change, required_attempt, reference_at, reserved_record, complete_change, is_target}

abbrev pub clear_at : ℕ → CallRecord → Option Attempt → (ChanId → ChanState) → Outcome
clear_at c r opened states =
    needs (is_none opened) WrongPhase
    (Accepts (record no_change { channel = option_map (λ x. (x, left_state (states x))) r.serving; call = Some (c, None) }) Done)

-- by the state of the serving channel, whether the requested one is a traffic channel, whether it lies in the same cell, and
-- what is in its way
abbrev pub take_from : ℕ → ChanId → CallRecord → ChanState → Bool → Bool → Option ChanId → Outcome
take_from c x r serving traffic same way =
    given (channel_row serving).active WrongPhase (λ d.
    needs traffic NoChannel (needs (not same) SameCell (unless_busy way
    (Accepts (taking_change c x (with_attempt r (taken_attempt Internal x))) Done))))

abbrev pub take_at : ℕ → ChanId → CallRecord → Option Attempt → Option ChanId → (ChanId → ChanState) → Bool → Outcome
take_at c x r opened serving states traffic =
    needs (is_none opened) WrongPhase (given serving WrongPhase (λ s. take_from c x r (states s) traffic (s.cell == x.cell) (first_in_way states x)))

abbrev pub require_from : ℕ → CallRecord → ChanState → Outcome
require_from c r serving =
    given (channel_row serving).active WrongPhase (λ d.
    Accepts (record no_change { call = with_entry c (with_attempt r required_attempt); timer = with_entry c T7 }) Done)

abbrev pub require_at : ℕ → CallRecord → Option Attempt → Option ChanId → (ChanId → ChanState) → Outcome
require_at c r opened serving states = needs (is_none opened) WrongPhase (given serving WrongPhase (λ s. require_from c r (states s)))

abbrev pub reserve_number : ℕ → ℕ → CallRecord → Attempt → ChanId → Option ℕ → Outcome
reserve_number c n r a t user =
    needs (is_none user) (RefBusy t.cell n)
    (Accepts (record no_change { call = with_entry c (reserved_record r a n); reference = Some (reference_at t n, Some c) }) Done)

abbrev pub reserve_at : ℕ → ℕ → CallRecord → Attempt → Stage → Option ChanId → (Reference → Option ℕ) → Outcome
reserve_at c n r a s target user =
    needs (stage_allows s).reserve WrongPhase (given target WrongPhase (λ t. reserve_number c n r a t (user (reference_at t n))))

abbrev pub reserve_by : ℕ → ℕ → CallRecord → Option Attempt → (Reference → Option ℕ) → Outcome
reserve_by c n r opened user = given opened WrongPhase (λ a. reserve_at c n r a a.stage a.target user)

abbrev pub activate_at : ℕ → CallRecord → Attempt → Stage → Option ChanId → Outcome
activate_at c r a s target =
    needs (stage_allows s).activate WrongPhase (given target WrongPhase (λ t.
    Accepts (record no_change { channel = with_entry t (Pending c); call = with_entry c (at_stage r a stage.Sent) }) Done))

abbrev pub activate_by : ℕ → CallRecord → Option Attempt → Outcome
activate_by c r opened = given opened WrongPhase (λ a. activate_at c r a a.stage a.target)

abbrev pub command_at : ℕ → CallRecord → Attempt → Stage → Outcome
command_at c r a s =
    needs (stage_allows s).command WrongPhase
    (Accepts (record no_change { call = with_entry c (at_stage r a stage.Commanded); timer = with_entry c T3103 }) Done)

abbrev pub command_by : ℕ → CallRecord → Option Attempt → Outcome
command_by c r opened = given opened WrongPhase (λ a. command_at c r a a.stage)

abbrev pub complete_at : ℕ → CallRecord → Attempt → Stage → Outcome
complete_at c r a s = needs (stage_allows s).complete WrongPhase (Accepts (complete_change c r a) Done)

abbrev pub complete_by : ℕ → CallRecord → Option Attempt → Outcome
complete_by c r opened = given opened WrongPhase (λ a. complete_at c r a a.stage)

abbrev pub order_at : ℕ → CallRecord → Attempt → Stage → Outcome
order_at c r a s =
    needs (stage_allows s).order WrongPhase
    (Accepts (record no_change { call = with_entry c (at_stage r a stage.Ordered); timer = with_entry c T8 }) Done)

abbrev pub order_by : ℕ → CallRecord → Option Attempt → Outcome
order_by c r opened = given opened WrongPhase (λ a. order_at c r a a.stage)

abbrev pub left_at : ℕ → CallRecord → Stage → Outcome
left_at c r s =
    needs (stage_allows s).left WrongPhase
    (Accepts (record no_change { channel = option_map (λ s. (s, Some Off)) r.serving; call = Some (c, None); timer = without_entry c }) Done)

abbrev pub left_by : ℕ → CallRecord → Option Attempt → Outcome
left_by c r opened = given opened WrongPhase (λ a. left_at c r a.stage)

abbrev pub detect_at : ChanId → ℕ → CallRecord → Attempt → Stage → Outcome
detect_at x c r a s =
    needs (stage_allows s).detect (Unexpected x) (Accepts (record no_change { call = with_entry c (at_stage r a stage.Detected) }) (Owned c))

abbrev pub detect_of : ChanId → ℕ → CallRecord → Option Attempt → Outcome
detect_of x c r opened = given opened (Unexpected x) (λ a. needs (is_target x a.target) (Unexpected x) (detect_at x c r a a.stage))
