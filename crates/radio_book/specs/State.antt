-- What an event changes in a radio book, which is four finite maps over a site. They serve handover (TS 44.018 clause 3.4.4,
-- TS 48.008 clause 3.1.5) and the activation and release of channels (TS 48.058 clause 4).
use Rattle.std.specs.Prelude.{ℕ, Option}
use Rattle.channel_fsm.specs.declared.ChanId.{ChanId}
use Rattle.channel_fsm.specs.declared.ChanState.{ChanState}
use Rattle.dense_tables.specs.declared.references.Reference.{Reference}
use Rattle.radio_tables.specs.declared.kinds.CallRecord.{CallRecord}
use Rattle.attempt_journal.specs.declared.Timer.{Timer}
use Rattle.radio_tables.specs.Maps.{Entry, with_change}
pub use Rattle.radio_tables.specs.State.{State, state_code, empty_book, or_free, state_of, record_of}

-- what an event changes: in each map one entry, or none
pub record Change : Type 0 where
  pub channel : Option (Entry ChanId ChanState)
  pub call : Option (Entry ℕ CallRecord)
  pub reference : Option (Entry Reference ℕ)
  pub timer : Option (Entry ℕ Timer)

-- the book after a change
abbrev pub apply : Change → State → State
apply ch b = record {
  site = b.site;
  channels = with_change b.channels ch.channel;
  calls = with_change b.calls ch.call;
  references = with_change b.references ch.reference;
  timers = with_change b.timers ch.timer;
}
