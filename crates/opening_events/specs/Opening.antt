-- A list of events that leads from the empty book of a site to a book. First come the channels whose release is awaited, and
-- then the calls, one behind another, each by the events that bring it to where it is (TS 44.018 clause 3.4.4, TS 48.008 clause
-- 3.1.5, TS 48.058 clause 4). The channels stand in the order of the site, and so do the calls, by the channels that serve
-- them, or by their targets where none does.
use Rattle.std.specs.Prelude.{ℕ, if◌then◌else◌, List, [], ◌∷◌, ◌++◌, Option, Some, None, option_map}
use Rattle.std.specs.List.{flat_map}
use Rattle.std.specs.Option.{option_or}
use Rattle.channel_fsm.specs.declared.ChanId.{ChanId}
use Rattle.channel_fsm.specs.declared.ChanState.{ChanState}
use Rattle.channel_fsm.specs.declared.ChanState.TheVariants.{Free, Held, Pending, On, Off}
use Rattle.radio_tables.specs.declared.kinds.AttemptKind.{AttemptKind}
use Rattle.radio_tables.specs.declared.kinds.AttemptKind.TheVariants.{Internal, Incoming, Outgoing}
use Rattle.radio_tables.specs.declared.kinds.Stage.{Stage}
use Rattle.radio_tables.specs.declared.kinds.Stage.TheVariants as stage
use Rattle.radio_tables.specs.declared.kinds.Attempt.{Attempt}
use Rattle.radio_tables.specs.declared.kinds.CallRecord.{CallRecord}
use Rattle.radio_book.specs.declared.event.Event.{Event}
use Rattle.radio_book.specs.declared.event.Event.TheVariants.{Open, Clear, Take, Reserve, Activate, Command, Confirm, Refuse, Detect, Require, Order}
use Rattle.radio_book.specs.declared.event.Kind.TheVariants as kind
use Rattle.cell_table.specs.Site.{channels}
use Rattle.radio_book.specs.State.{State, state_of, record_of}
use Rattle.radio_book.specs.Sound.{target_in}
use Rattle.radio_book.specs.Table.{owner, is_target, channel_row}

-- a channel comes to be off: a call begins on it, and ends before the station has answered
abbrev pub off_events : ChanId → ChanState → List Event
off_events x s = if (channel_row s).off then Open 0 x ∷ Clear 0 ∷ [] else []

-- a call comes to be served on a channel in this state
abbrev pub serving_events : ℕ → ChanId → ChanState → List Event
serving_events c x Free = []
serving_events c x (Held d) = Open c x ∷ Refuse x ∷ []
serving_events c x (Pending d) = Open c x ∷ []
serving_events c x (On d) = Open c x ∷ Confirm x ∷ []
serving_events c x Off = []

-- an attempt of this kind takes its target
abbrev pub taking_events : ℕ → AttemptKind → ChanId → List Event
taking_events c Internal t = Take c kind.Internal t ∷ []
taking_events c Incoming t = Take c kind.Incoming t ∷ []
taking_events c Outgoing t = []

-- and comes to a stage, with this reference
abbrev pub stage_events : ℕ → ChanId → ℕ → Stage → List Event
stage_events c t n stage.Taken = []
stage_events c t n stage.Reserved = Reserve c n ∷ []
stage_events c t n stage.Sent = Reserve c n ∷ Activate c ∷ []
stage_events c t n stage.Refused = Reserve c n ∷ Activate c ∷ Refuse t ∷ []
stage_events c t n stage.Confirmed = Reserve c n ∷ Activate c ∷ Confirm t ∷ []
stage_events c t n stage.Commanded = Reserve c n ∷ Activate c ∷ Confirm t ∷ Command c ∷ []
stage_events c t n stage.Detected = Reserve c n ∷ Activate c ∷ Confirm t ∷ Command c ∷ Detect t ∷ []
stage_events c t n stage.Required = []
stage_events c t n stage.Ordered = []

-- an attempt towards another controller, which has the target, comes to a stage
abbrev pub leaving_events : ℕ → Stage → List Event
leaving_events c stage.Required = Require c ∷ []
leaving_events c stage.Ordered = Require c ∷ Order c ∷ []
leaving_events c stage.Taken = []
leaving_events c stage.Reserved = []
leaving_events c stage.Sent = []
leaving_events c stage.Refused = []
leaving_events c stage.Confirmed = []
leaving_events c stage.Commanded = []
leaving_events c stage.Detected = []

abbrev pub number_or_0 : Option ℕ → ℕ
number_or_0 None = 0
number_or_0 (Some n) = n

-- an attempt comes to its stage
abbrev pub attempt_events : ℕ → AttemptKind → Option ChanId → Option ℕ → Stage → List Event
attempt_events c k (Some t) reference s = taking_events c k t ++ stage_events c t (number_or_0 reference) s
attempt_events c k None reference s = leaving_events c s

-- the parts of a call: it is served on a channel in this state, and its attempt is open

abbrev pub served_events : ℕ → Option ChanId → Option ChanState → List Event
served_events c None s = []
served_events c (Some x) None = []
served_events c (Some x) (Some s) = serving_events c x s

abbrev pub opened_events : ℕ → Option Attempt → List Event
opened_events c None = []
opened_events c (Some a) = attempt_events c a.kind a.target a.reference a.stage

abbrev pub call_events : ℕ → CallRecord → Option ChanState → List Event
call_events c r s = served_events c r.serving s ++ opened_events c r.attempt

-- the record of a call, and the state of its serving channel
abbrev pub shown : State → ℕ → Option (CallRecord × Option ChanState)
shown b c = option_map (λ r. (r, option_map (state_of b) r.serving)) (record_of b c)

-- the channel by which a call stands in the list: the one that serves it; where none does, its target
abbrev pub listed_by : CallRecord → Option ChanId
listed_by r = option_or r.serving (target_in r)

-- a call's events, where it stands in the list by this channel
abbrev pub events_of_shown : ChanId → ℕ → Option (CallRecord × Option ChanState) → List Event
events_of_shown x c None = []
events_of_shown x c (Some p) = if is_target x (listed_by p.0) then call_events c p.0 p.1 else []

abbrev pub events_of_owner : State → ChanId → Option ℕ → List Event
events_of_owner b x None = []
events_of_owner b x (Some c) = events_of_shown x c (shown b c)

-- the events of the call that a channel is in use for
abbrev pub events_at : State → ChanId → List Event
events_at b x = events_of_owner b x (owner (state_of b x))

-- the whole list
abbrev pub opening_events : State → List Event
opening_events b = flat_map (λ x. off_events x (state_of b x)) (channels b.site) ++ flat_map (events_at b) (channels b.site)
