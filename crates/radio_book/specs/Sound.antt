-- Which books are sound: what the maps say of one another. Ours, of no standard.
use Rattle.std.specs.Prelude.{◌≡◌, ◌≢◌, ◌⊎◌, ℕ, Bool, true, false, Option, Some, None, IsSome}
use Rattle.std.specs.Option.{option_and_then}
use Rattle.std.specs.FinMap as map
use Rattle.channel_fsm.specs.declared.ChanId.{ChanId}
use Rattle.channel_fsm.specs.declared.ChanState.{ChanState}
use Rattle.channel_fsm.specs.Slots.{Conflicts}
use Rattle.channel_fsm.specs.declared.ChanState.TheVariants.{Free, On}
use Rattle.radio_tables.specs.declared.kinds.AttemptKind.{AttemptKind}
use Rattle.radio_tables.specs.declared.kinds.AttemptKind.TheVariants.{Internal, Incoming, Outgoing}
use Rattle.attempt_journal.specs.declared.Timer.{Timer}
use Rattle.radio_tables.specs.declared.kinds.Attempt.{Attempt}
use Rattle.radio_tables.specs.declared.kinds.CallRecord.{CallRecord}
use Rattle.dense_tables.specs.declared.references.Reference.{Reference}
use Rattle.cell_table.specs.Site.{is_traffic}
use Rattle.radio_book.specs.State.{State, state_of, record_of}
use Rattle.radio_tables.specs.Stages.{stage_row}
use Rattle.radio_book.specs.Table.{owner, reference_held}

abbrev pub target_in : CallRecord → Option ChanId
target_in r = option_and_then (λ a. a.target) r.attempt

abbrev pub reference_of : Option Attempt → Option Reference
reference_of None = None
reference_of (Some a) = reference_held a.target a.reference

-- the record names the channel: to be served on, or to move to
abbrev pub Uses : CallRecord → ChanId → Type 0
Uses r x = (r.serving ≡ Some x) ⊎ (target_in r ≡ Some x)

-- an outgoing attempt is in a stage without a target, any other in one with a target
abbrev pub IsStageOf : AttemptKind → Option (ℕ → ChanState) → Type 0
IsStageOf Internal None = ⊥
IsStageOf Internal (Some state) = Unit {0}
IsStageOf Incoming None = ⊥
IsStageOf Incoming (Some state) = Unit {0}
IsStageOf Outgoing None = Unit {0}
IsStageOf Outgoing (Some state) = ⊥

-- the target is in the state that the stage says; where the stage says none, there is no target
abbrev pub HasTarget : ℕ → Option (ℕ → ChanState) → Option ChanId → (ChanId → ChanState) → Type 0
HasTarget c None None states = Unit {0}
HasTarget c None (Some t) states = ⊥
HasTarget c (Some state) None states = ⊥
HasTarget c (Some state) (Some t) states = states t ≡ state c

-- whoever moves from a channel of this controller is on it, whoever comes to it on none
abbrev pub HasServing : ℕ → AttemptKind → Option ChanId → (ChanId → ChanState) → Type 0
HasServing c Internal None states = ⊥
HasServing c Internal (Some s) states = states s ≡ On c
HasServing c Incoming serving states = serving ≡ None
HasServing c Outgoing None states = ⊥
HasServing c Outgoing (Some s) states = states s ≡ On c

abbrev pub HasReference : Bool → Option ℕ → Type 0
HasReference false number = number ≡ None
HasReference true number = IsSome number

-- the timer that a record's attempt arms
abbrev pub armed_by : Option Attempt → Option Timer
armed_by None = None
armed_by (Some a) = (stage_row a.stage).timer

abbrev pub armed_in : Option CallRecord → Option Timer
armed_in None = None
armed_in (Some r) = armed_by r.attempt

pub record IsSound (b : State) : Type 0 where
  -- only traffic channels have an entry, and none of the entries says Free
  pub is_traffic : (x : ChanId) (s : ChanState) → map.get b.channels x ≡ Some s → is_traffic b.site x ≡ true
  pub not_free : (x : ChanId) (s : ChanState) → map.get b.channels x ≡ Some s → s ≢ Free
  -- no two channels that have an entry conflict: a timeslot is used as a whole, or its halves are (TS 45.002 clause 6.4.1)
  pub apart : (x y : ChanId) (s t : ChanState) → map.get b.channels x ≡ Some s → map.get b.channels y ≡ Some t → Conflicts x y → ⊥
  -- the owner of a channel is a call in the book, whose record names the channel
  pub owner_uses : (x : ChanId) (c : ℕ) → owner (state_of b x) ≡ Some c → (r : CallRecord) × (record_of b c ≡ Some r) × Uses r x
  -- who is served on a channel owns it
  pub serving_is_owned : (c : ℕ) (r : CallRecord) (x : ChanId) → record_of b c ≡ Some r → r.serving ≡ Some x → owner (state_of b x) ≡ Some c
  -- the stage of an attempt is one of its kind, and says in which state the target is
  pub stage_of_kind :
      (c : ℕ) (r : CallRecord) (a : Attempt) → record_of b c ≡ Some r → r.attempt ≡ Some a → IsStageOf a.kind (stage_row a.stage).target
  pub target_by_stage :
      (c : ℕ) (r : CallRecord) (a : Attempt) →
      record_of b c ≡ Some r → r.attempt ≡ Some a → HasTarget c (stage_row a.stage).target a.target (state_of b)
  -- an attempt never moves its call within a cell
  pub cells_differ :
      (c : ℕ) (r : CallRecord) (x y : ChanId) →
      record_of b c ≡ Some r → r.serving ≡ Some x → target_in r ≡ Some y → x.cell ≢ y.cell
  -- a call with an attempt is served as its kind says, and one without is served somewhere
  pub serving_while_open :
      (c : ℕ) (r : CallRecord) (a : Attempt) →
      record_of b c ≡ Some r → r.attempt ≡ Some a → HasServing c a.kind r.serving (state_of b)
  pub serving_at_rest : (c : ℕ) (r : CallRecord) → record_of b c ≡ Some r → r.attempt ≡ None → IsSome r.serving
  -- attempts and the map of references agree, read from either side
  pub reference_is_used :
      (c : ℕ) (r : CallRecord) (k : Reference) →
      record_of b c ≡ Some r → reference_of r.attempt ≡ Some k → map.get b.references k ≡ Some c
  pub user_has_reference :
      (k : Reference) (c : ℕ) →
      map.get b.references k ≡ Some c → (r : CallRecord) × (record_of b c ≡ Some r) × (reference_of r.attempt ≡ Some k)
  pub reference_by_stage :
      (c : ℕ) (r : CallRecord) (a : Attempt) →
      record_of b c ≡ Some r → r.attempt ≡ Some a → HasReference (stage_row a.stage).has_reference a.reference
  -- a timer is armed exactly where the stage of an attempt says so
  pub timers : (c : ℕ) → map.get b.timers c ≡ armed_in (record_of b c)
