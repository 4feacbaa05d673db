-- What a choice of a channel (TS 48.058 clause 4) or of a Handover Reference (TS 44.018 clause 10.5.2.15) allows.
use Rattle.std.specs.Prelude.{◌≡◌, ℕ, ◌<◌, if◌then◌else◌, Option, Some, None}
use Rattle.std.specs.FinMap as map
use Rattle.timeslots.specs.declared.Rate.{Rate}
use Rattle.channel_fsm.specs.declared.ChanId.{ChanId}
use Rattle.radio_book.specs.declared.event.Kind.{Kind}
use Rattle.radio_tables.specs.declared.kinds.Attempt.{Attempt}
use Rattle.radio_tables.specs.declared.kinds.CallRecord.{CallRecord}
use Rattle.radio_book.specs.declared.event.Event.{Event}
use Rattle.radio_book.specs.declared.event.Event.TheVariants as event
use Rattle.radio_tables.specs.Stages.{stage_allows}
use Rattle.radio_book.specs.State.{State, record_of}
pub use Rattle.radio_tables.specs.Choice.{IsFreeIn, IsFreeAt, NoneFree, NoneFreeAt, IsFreeCount}

-- how many numbers a cell has for Handover References: one octet's (TS 44.018 clause 10.5.2.15)
abbrev pub reference_numbers : ℕ
reference_numbers = 256

-- the event is the call's Take of such a channel at a rate
abbrev pub TakesFree : State → ℕ → Kind → ℕ → Rate → Event → Type 0
TakesFree b c kind cell rate e = (x : ChanId) × IsFreeAt b cell rate x × (e ≡ event.Take c kind x)

-- the event is the call's Open on such a channel at a rate
abbrev pub OpensFree : State → ℕ → ℕ → Rate → Event → Type 0
OpensFree b c cell rate e = (x : ChanId) × IsFreeAt b cell rate x × (e ≡ event.Open c x)

-- a number that, with the cell, is the reference of no call
pub record IsNumberFree (b : State) (cell number : ℕ) : Type 0 where
  pub range : number < reference_numbers
  pub not_in_use : map.get b.references (record { cell = cell; number = number }) ≡ None

-- the channel of an attempt that may reserve a reference
abbrev pub taken_by : Option Attempt → Option ChanId
taken_by None = None
taken_by (Some a) = if (stage_allows a.stage).reserve then a.target else None

abbrev pub taken_channel : Option CallRecord → Option ChanId
taken_channel None = None
taken_channel (Some r) = taken_by r.attempt

-- a free number in the cell of the taken channel, or 0 where there is none
abbrev pub MayReserve : State → Option ChanId → ℕ → Type 0
MayReserve b None number = number ≡ 0
MayReserve b (Some t) number = IsNumberFree b t.cell number

-- the event is the call's Reserve of such a number
abbrev pub ReservesFree : State → ℕ → Event → Type 0
ReservesFree b c e = (number : ℕ) × MayReserve b (taken_channel (record_of b c)) number × (e ≡ event.Reserve c number)
