-- What is known of calls besides the book, and who has a channel. Ours, of no standard.
use Rattle.std.specs.Prelude.{ℕ, ◌==◌, Bool, true, false, ◌&&◌, List, Option, Some, None, is_some, slice_get, if◌then◌else◌}
use Rattle.channel_fsm.specs.declared.ChanId.{ChanId}
use Rattle.channel_fsm.specs.declared.ChanState.{ChanState}
use Rattle.channel_fsm.specs.declared.ChanState.TheVariants as book
use Rattle.radio_tables.specs.declared.kinds.Attempt.{Attempt}
use Rattle.radio_tables.specs.declared.kinds.CallRecord.{CallRecord}
use Rattle.radio_book.specs.State.{State, record_of, state_of}
use Rattle.radio_book.specs.Table.{is_target}
use Rattle.link_tables.specs.declared.Holder.{Holder}
use Rattle.link_tables.specs.declared.Holder.TheVariants.{Nobody, Past, Barred, Call}
use Rattle.link_tables.specs.declared.Use.{Use}
use Rattle.link_machine.specs.declared.calls.CallFacts.{CallFacts}
use Rattle.link_machine.specs.declared.channel.Bar.{Bar}

-- a call of which nobody has said anything
abbrev pub plain : CallFacts
plain = record { is_away = false; reports = true; is_from_air = false; timer = None }

abbrev pub or_plain : Option CallFacts → CallFacts
or_plain None = plain
or_plain (Some facts) = facts

-- what is known of a call
abbrev pub facts_of : List CallFacts → ℕ → CallFacts
facts_of calls c = or_plain (slice_get calls c)

-- it is served on the channel
abbrev pub is_served_on : ChanId → Option CallRecord → Bool
is_served_on x None = false
is_served_on x (Some r) = is_target x r.serving

-- it is served on the channel, and has an attempt at handover
abbrev pub leaves_by : ChanId → Option CallRecord → Bool
leaves_by x None = false
leaves_by x (Some r) = is_target x r.serving && is_some r.attempt

abbrev pub goes_to : ChanId → Option Attempt → Bool
goes_to x None = false
goes_to x (Some a) = is_target x a.target

-- it is to move to the channel
abbrev pub arrives_by : ChanId → Option CallRecord → Bool
arrives_by x None = false
arrives_by x (Some r) = goes_to x r.attempt

-- what a call has a channel for
abbrev pub use_of : State → List CallFacts → ℕ → ChanId → Use
use_of b calls c x = record {
  leaves = leaves_by x (record_of b c);
  arrives = arrives_by x (record_of b c) && (facts_of calls c).is_away;
  returns = is_served_on x (record_of b c) && (facts_of calls c).is_away;
  reports = (facts_of calls c).reports;
}

-- what a call is that has a channel of this bar: the bar itself, or another call
abbrev pub whose : State → List CallFacts → ChanId → Option Bar → ℕ → Holder
whose b calls x None c = Call (use_of b calls c x)
whose b calls x (Some bar) c = if bar.call == c then Barred bar.kind else Call (use_of b calls c x)

abbrev pub held_by : State → List CallFacts → ChanId → Option Bar → ChanState → Holder
held_by b calls x bar book.Free = Nobody
held_by b calls x bar (book.Held c) = whose b calls x bar c
held_by b calls x bar (book.Pending c) = whose b calls x bar c
held_by b calls x bar (book.On c) = whose b calls x bar c
held_by b calls x bar book.Off = Past

-- who has a channel of this bar
abbrev pub holder_by : State → List CallFacts → ChanId → Option Bar → Holder
holder_by b calls x bar = held_by b calls x bar (state_of b x)
