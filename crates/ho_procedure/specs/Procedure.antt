-- The procedure: for each input, what the controller asks of the book and what it sends, by the replies. A row ends at a
-- reply that it doesn't name, and at a record that lacks what the rest of the row needs. Room for all that a row sends, or
-- notes, is made before its first event that changes the book; a row that sends nothing makes none.
use Rattle.std.specs.Prelude.{ℕ, ◌==◌, ◌%◌, Bool, true, false, if◌then◌else◌, not, ◌&&◌, ◌||◌, nat_lt, List, [], ◌∷◌, length, Option, Some, None, is_some}
use Rattle.std.specs.List.{position}
use Rattle.timeslots.specs.declared.Rate.{Rate}
use Rattle.timeslots.specs.declared.Rate.TheVariants.{Full, Half}
use Rattle.timeslots.specs.Parts.{rate_of}
use Rattle.channel_fsm.specs.declared.ChanId.{ChanId}
use Rattle.channel_fsm.specs.declared.ChanState.{ChanState}
use Rattle.channel_fsm.specs.declared.ChanState.TheVariants.{Free, Held, Pending, On, Off}
use Rattle.attempt_journal.specs.declared.Timer.{Timer}
use Rattle.attempt_journal.specs.declared.Timer.TheVariants.{T3103, T7, T8}
use Rattle.radio_book.specs.declared.event.Kind.TheVariants as kind
use Rattle.radio_tables.specs.declared.kinds.AttemptKind.{AttemptKind}
use Rattle.radio_tables.specs.declared.kinds.AttemptKind.TheVariants.{Internal, Incoming, Outgoing}
use Rattle.radio_tables.specs.declared.kinds.Stage.{Stage}
use Rattle.radio_book.specs.declared.event.Why.TheVariants.{Asked, Expired}
use Rattle.radio_tables.specs.declared.kinds.Attempt.{Attempt}
use Rattle.radio_tables.specs.declared.kinds.CallRecord.{CallRecord}
use Rattle.radio_book.specs.declared.event.Event.{Event}
use Rattle.radio_book.specs.declared.event.Event.TheVariants as event
use Rattle.radio_book.specs.declared.event.Refusal.{Refusal}
use Rattle.radio_book.specs.declared.event.Refusal.TheVariants.{NoCall, CallExists, WrongPhase, NoChannel, SameCell, ChannelBusy, RefBusy, Unexpected, NotArmed}
use Rattle.radio_book.specs.declared.event.Reply.{Reply}
use Rattle.radio_book.specs.declared.event.Reply.TheVariants.{Done, Record, Owned, Refused}
use Rattle.radio_book.specs.Sound.{target_in}
use Rattle.radio_book.specs.Table.{is_target, is_armed}
use Rattle.radio_tables.specs.Stages.{stage_row}
use Rattle.cell_table.specs.declared.tables.CellIdentity.{CellIdentity}
use Rattle.cell_table.specs.Site.{SiteView, is_traffic}
use Rattle.rr_elements.specs.MeasResults.{Results}
use Rattle.rr_messages.specs.declared.message.Rr.{Rr}
use Rattle.rr_messages.specs.declared.message.Rr.TheVariants as rr
use Rattle.measurements.specs.Reports.{is_valid}
use Rattle.ho_candidates.specs.declared.listed.Candidate.{Candidate}
use Rattle.rsl_messages.specs.declared.message.Rsl.{Rsl}
use Rattle.rsl_messages.specs.declared.message.Rsl.TheVariants as rsl
use Rattle.bssmap_messages.specs.declared.message.CellId.{CellId}
use Rattle.bssmap_messages.specs.declared.message.Bssmap.{Bssmap}
use Rattle.bssmap_messages.specs.declared.message.Bssmap.TheVariants as bssmap
use Rattle.ho_procedure.specs.declared.requests.PermittedRates.{PermittedRates}
use Rattle.exchange.specs.declared.Line.{Line}
use Rattle.exchange.specs.declared.Line.TheVariants as line
use Rattle.ho_procedure.specs.Messages.{is_nameable, activation, target_activation, release, to_mobile, data_request, command_to, channel_release, cell_id_at, clear_request, clear_complete, handover_performed, handover_required, handover_request_ack, handover_detect, handover_complete, handover_failure}
use Rattle.rr_elements.specs.RrCause.{normal_event, abnormal_release}
use Rattle.bssmap_messages.specs.Causes.{radio_interface_message_failure, radio_interface_failure, call_control, reversion_to_old_channel, equipment_failure, no_radio_resource_available, ciphering_algorithm_not_supported, invalid_message_contents}
use Rattle.ho_procedure.specs.Windows.{with_report}
use Rattle.ho_procedure.specs.Plan.{Plan, Ends, Readies, ForMessages, ForUnread, ForReports, Asks, Takes, Opens, Reserves, Sends, Notes, Ranks}

-- A plan goes on at one reply, and ends at any other.

abbrev pub if_done : Plan → Reply → Plan
if_done next Done = next
if_done next (Record r s) = Ends
if_done next (Owned c) = Ends
if_done next (Refused refusal) = Ends

abbrev pub if_owned : (ℕ → Plan) → Reply → Plan
if_owned next Done = Ends
if_owned next (Record r s) = Ends
if_owned next (Owned c) = next c
if_owned next (Refused refusal) = Ends

abbrev pub if_record : (CallRecord → Option ChanState → Plan) → Reply → Plan
if_record next Done = Ends
if_record next (Record r s) = next r s
if_record next (Owned c) = Ends
if_record next (Refused refusal) = Ends

-- an event, and this plan once it is done
unfoldable pub once_done : Event → Plan → Plan
once_done e next = Asks e (if_done next)

-- an event, and a plan by the record that it is answered
unfoldable pub once_recorded : Event → (CallRecord → Option ChanState → Plan) → Plan
once_recorded e next = Asks e (if_record next)

-- a plan that ends at every reply
abbrev pub nothing_more : Reply → Plan
nothing_more reply = Ends

-- a station's event, by the call that it concerns
unfoldable pub owned : Event → (ℕ → Plan) → Plan
owned e next = Asks e (if_owned next)

-- a plan that goes on where there is no such call
abbrev pub if_no_call : Plan → Refusal → Plan
if_no_call next NoCall = next
if_no_call next CallExists = Ends
if_no_call next WrongPhase = Ends
if_no_call next NoChannel = Ends
if_no_call next SameCell = Ends
if_no_call next (ChannelBusy x) = Ends
if_no_call next (RefBusy cell n) = Ends
if_no_call next (Unexpected x) = Ends
if_no_call next NotArmed = Ends

-- a call, by what the book has of it
unfoldable pub looked : ℕ → (CallRecord → Option ChanState → Plan) → Plan
looked c next = Asks (event.Look c) (if_record next)

-- a channel that a message is to name: there is one, and its timeslot can be named (TS 48.058 clause 9.3.1)
abbrev pub is_named : Option ChanId → Bool
is_named None = false
is_named (Some x) = is_nameable x

abbrev pub if_named : Option ChanId → (ChanId → Plan) → Plan
if_named None next = Ends
if_named (Some x) next = if is_nameable x then next x else Ends

-- the channel is the call's serving channel
abbrev pub is_serving : ChanId → CallRecord → Bool
is_serving x r = is_target x r.serving

-- this timer guards an attempt in the stage
abbrev pub is_guarded_by : Timer → Stage → Bool
is_guarded_by m s = is_armed m (stage_row s).timer

-- the mobile was sent to the target, and hasn't said what came of it (TS 44.018 clause 11.1.2)
abbrev pub is_commanded : Stage → Bool
is_commanded s = is_guarded_by T3103 s

-- HANDOVER REQUIRED was sent, and the switching centre hasn't answered (TS 48.008 clause 3.1.5.1)
abbrev pub is_required : Stage → Bool
is_required s = is_guarded_by T7 s

-- the mobile was sent to another controller's cell, and hasn't come back (TS 48.008 clause 3.1.5.3)
abbrev pub is_ordered : Stage → Bool
is_ordered s = is_guarded_by T8 s

-- where an attempt is open, it is at such a stage
abbrev pub awaits_order : Option Attempt → Bool
awaits_order None = false
awaits_order (Some a) = is_required a.stage

abbrev pub awaits_leaving : Option Attempt → Bool
awaits_leaving None = false
awaits_leaving (Some a) = is_ordered a.stage

-- HANDOVER FAILURE (TS 48.008 clause 3.1.5.2), with a cause of this controller: the call can't come
unfoldable pub turn_away : ℕ → ℕ → Plan
turn_away c cause = Sends (handover_failure c cause None) Ends

-- An operator opens a call: CHANNEL ACTIVATION (TS 48.058 clause 4.1).
unfoldable pub opened_plan : ChanId → Plan
opened_plan x = if is_nameable x then Sends (activation x) Ends else Ends

unfoldable pub open_plan : ℕ → ChanId → Plan
open_plan c x = Readies (ForMessages 1) (once_done (event.Open c x) (opened_plan x))

-- An operator opens a call in a cell: on some channel that is free there at a rate (TS 48.058 clause 4.1).
unfoldable pub seized_plan : ChanId → Reply → Plan
seized_plan x = if_done (opened_plan x)

unfoldable pub seize_plan : ℕ → ℕ → Rate → Plan
seize_plan c cell rate = Readies (ForMessages 1) (Opens c cell rate Ends seized_plan)

-- A handover to an own cell begins (TS 44.018 clause 3.4.4): a channel is taken, a reference reserved, CHANNEL ACTIVATION
-- sent (TS 48.058 clause 4.1).

unfoldable pub activate_plan : ℕ → ChanId → ℕ → Plan
activate_plan c x n = once_done (event.Activate c) (Sends (target_activation x n) Ends)

abbrev pub reserved_plan : ℕ → ChanId → ℕ → Reply → Plan
reserved_plan c x n = if_done (activate_plan c x n)

unfoldable pub reserve_plan : ℕ → ChanId → Plan
reserve_plan c x = if is_nameable x then Reserves c (reserved_plan c x) else Ends

unfoldable pub taken_plan : ℕ → ChanId → Reply → Plan
taken_plan c x = if_done (reserve_plan c x)

-- A handover to an outside cell begins: HANDOVER REQUIRED (TS 48.008 clause 3.1.5.1).

abbrev pub if_cell : Option CellId → (CellId → Plan) → Plan
if_cell None next = Ends
if_cell (Some cell) next = next cell

unfoldable pub require_plan : ℕ → CellId → Plan
require_plan c cell = Readies (ForMessages 1) (once_done (event.Require c) (Sends (handover_required c cell) Ends))

-- A handover begins to a cell of the site, to a channel of this rate where the cell is an own one. Where no such channel is
-- free, this plan is next.
unfoldable pub start_plan : SiteView → ℕ → ℕ → Rate → Plan → Plan
start_plan site c cell rate none =
    if nat_lt cell (length site.cells) then Readies (ForMessages 1) (Takes c kind.Internal cell rate none (taken_plan c)) else if_cell (cell_id_at site cell) (require_plan c)

-- the rate of the channel on which a call is served; a call that is served on none is to have the full rate
abbrev pub serving_rate : Option ChanId → Rate
serving_rate None = Full
serving_rate (Some x) = rate_of x.sub

-- what follows the look at a call that an operator moves: it keeps its rate. The book answers for a call that isn't there.
abbrev pub move_rest : SiteView → ℕ → ℕ → Reply → Plan
move_rest site c cell Done = Ends
move_rest site c cell (Record r s) = start_plan site c cell (serving_rate r.serving) Ends
move_rest site c cell (Owned d) = Ends
move_rest site c cell (Refused refusal) = if_no_call (start_plan site c cell Full Ends) refusal

-- An operator asks for a handover to a cell, which has to be one of the site's, own or outside.
unfoldable pub handover_plan : SiteView → ℕ → ℕ → Plan
handover_plan site c cell = if is_some (cell_id_at site cell) then Asks (event.Look c) (move_rest site c cell) else Ends

-- RF CHANNEL RELEASE of an attempt's target (TS 48.058 clause 4.7), where it may be active
unfoldable pub release_target : Option Attempt → Plan → Plan
release_target None tail = tail
release_target (Some a) tail = if (stage_row a.stage).may_be_active then if_named a.target (λ t. Sends (release t) tail) else tail

-- An attempt is taken back, and its target released.
unfoldable pub take_back : ℕ → (Option Attempt → Plan) → Plan
take_back c next = once_recorded (event.Undo c Asked) (λ r s. release_target r.attempt (next r.attempt))

-- the switching centre is told that a call can't come from another controller
abbrev pub failure_by : ℕ → AttemptKind → Plan
failure_by c Internal = Ends
failure_by c Incoming = turn_away c equipment_failure
failure_by c Outgoing = Ends

abbrev pub failure_of : ℕ → Option Attempt → Plan
failure_of c None = Ends
failure_of c (Some a) = failure_by c a.kind

-- An operator takes an attempt back.
unfoldable pub undo_plan : ℕ → Plan
undo_plan c = Readies (ForMessages 2) (take_back c (failure_of c))

-- CLEAR REQUEST (TS 48.008 clause 3.1.9.1)
abbrev pub expiry_rest : ℕ → Timer → Plan
expiry_rest c T3103 = Sends (clear_request c radio_interface_message_failure) Ends
expiry_rest c T7 = Ends
expiry_rest c T8 = Sends (clear_request c radio_interface_message_failure) Ends

-- A timer ran out (TS 44.018 clause 11.1.2, TS 48.008 clause 3.1.5): its attempt is taken back.
unfoldable pub expiry_plan : ℕ → Timer → Plan
expiry_plan c m = Readies (ForMessages 2) (once_recorded (event.Undo c (Expired m)) (λ r s. release_target r.attempt (expiry_rest c m)))

-- A call of this controller keeps its record after an undo; one that comes from another controller has none then.
abbrev pub is_own_kind : AttemptKind → Bool
is_own_kind Internal = true
is_own_kind Incoming = false
is_own_kind Outgoing = true

abbrev pub is_own : Option Attempt → Bool
is_own None = true
is_own (Some a) = is_own_kind a.kind

-- the channel is held: the station refused it, so there is nothing to release
abbrev pub is_held : Option ChanState → Bool
is_held None = false
is_held (Some Free) = false
is_held (Some (Held d)) = true
is_held (Some (Pending d)) = false
is_held (Some (On d)) = false
is_held (Some Off) = false

-- the channel is active for its call
abbrev pub is_on : Option ChanState → Bool
is_on None = false
is_on (Some Free) = false
is_on (Some (Held d)) = false
is_on (Some (Pending d)) = false
is_on (Some (On d)) = true
is_on (Some Off) = false

-- a message can name the target, where it may be active
abbrev pub names_target : Option Attempt → Bool
names_target None = true
names_target (Some a) = not (stage_row a.stage).may_be_active || is_named a.target

-- the record names all that is released when its call is cleared: the target, and the serving channel unless it is held
abbrev pub names_releases : CallRecord → Option ChanState → Bool
names_releases r s = names_target r.attempt && (not (is_own r.attempt) || is_held s || is_named r.serving)

-- the cause that a mobile is told, where it is on
abbrev pub told_cause : Option ℕ → Option ChanState → Option ℕ
told_cause cause s = if is_on s then cause else None

-- where there is a cause, the mobile is told: CHANNEL RELEASE (TS 44.018 clause 3.4.13.1)
abbrev pub told_first : Option ℕ → ChanId → Plan → Plan
told_first None x tail = tail
told_first (Some cause) x tail = Sends (channel_release x cause) tail

-- how many messages that is
abbrev pub told_count : Option ℕ → ℕ
told_count None = 0
told_count (Some cause) = 1

-- RF CHANNEL RELEASE of the serving channel (TS 48.058 clause 4.7), unless it is held; a mobile that is on is told why
unfoldable pub release_serving : Option ℕ → CallRecord → Option ChanState → Plan → Plan
release_serving cause r s tail =
    if is_held s then tail else if_named r.serving (λ x. told_first (told_cause cause s) x (Sends (release x) tail))

-- The target is released, where it may be active. Where a record remains, the call is cleared, and its serving channel
-- released.
unfoldable pub clear_all : ℕ → Option ℕ → Plan → CallRecord → Option ChanState → Plan
clear_all c cause tail r s =
    if names_releases r s then release_target r.attempt (if is_own r.attempt then once_done (event.Clear c) (release_serving cause r s tail) else tail) else Ends

-- What follows the look at a call that is cleared: an attempt that is open is taken back first.
unfoldable pub clear_rest : ℕ → Option ℕ → Plan → CallRecord → Option ChanState → Plan
clear_rest c cause tail r s =
    if names_releases r s then (if is_some r.attempt then once_recorded (event.Undo c Asked) (clear_all c cause tail) else clear_all c cause tail r s) else Ends

-- An operator clears a call.
unfoldable pub clear_plan : ℕ → Plan
clear_plan c = Readies (ForMessages 2) (looked c (clear_rest c None Ends))

-- CHANNEL ACTIVATION ACKNOWLEDGE (TS 48.058 clause 8.4.2) of a target: HANDOVER COMMAND to the mobile on its old channel
-- (TS 44.018 clause 3.4.4.1), or to the switching centre in a HANDOVER REQUEST ACKNOWLEDGE (TS 48.008 clause 3.1.5.2)

abbrev pub if_command : Option Rr → (Rr → Plan) → Plan
if_command None next = Ends
if_command (Some m) next = next m

abbrev pub if_reference : Option ℕ → (ℕ → Plan) → Plan
if_reference None next = Ends
if_reference (Some n) next = next n

unfoldable pub send_command : ℕ → ChanId → Rr → Plan
send_command c s m = once_done (event.Command c) (Sends (to_mobile s m) Ends)

abbrev pub internal_command : SiteView → ℕ → ChanId → Option ChanId → Option ℕ → Plan
internal_command site c x serving reference =
    if_named serving (λ s. if_reference reference (λ n. if_command (command_to site x n) (λ m. send_command c s m)))

unfoldable pub acknowledge : ℕ → Rr → Plan
acknowledge c m = once_done (event.Command c) (Sends (handover_request_ack c m) Ends)

abbrev pub incoming_command : SiteView → ℕ → ChanId → Option ℕ → Plan
incoming_command site c x reference = if_reference reference (λ n. if_command (command_to site x n) (acknowledge c))

-- an attempt that leaves has no target here; if it had one, nothing would be sent
abbrev pub command_plan : SiteView → ℕ → ChanId → Option ChanId → Attempt → AttemptKind → Plan
command_plan site c x serving a Internal = internal_command site c x serving a.reference
command_plan site c x serving a Incoming = incoming_command site c x a.reference
command_plan site c x serving a Outgoing = Asks (event.Command c) nothing_more

unfoldable pub confirm_rest : SiteView → ℕ → ChanId → Option ChanId → Option Attempt → Plan
confirm_rest site c x serving None = Ends
confirm_rest site c x serving (Some a) = if is_target x a.target then command_plan site c x serving a a.kind else Ends

unfoldable pub confirm_plan : SiteView → ChanId → Plan
confirm_plan site x = Readies (ForMessages 1) (owned (event.Confirm x) (λ c. looked c (λ r s. confirm_rest site c x r.serving r.attempt)))

-- CHANNEL ACTIVATION NEGATIVE ACKNOWLEDGE (TS 48.058 clause 8.4.3): an attempt to a refused target is taken back, and where
-- the call was to come, HANDOVER FAILURE sent; for a refused serving channel CLEAR REQUEST, equipment failure

unfoldable pub refused_target : ℕ → Plan
refused_target c = once_recorded (event.Undo c Asked) (λ r s. failure_of c r.attempt)

unfoldable pub refuse_plan : ChanId → Plan
refuse_plan x =
    Readies (ForMessages 1)
    (owned (event.Refuse x)
    (λ c. looked c (λ r s. if is_target x (target_in r) then refused_target c else (if is_serving x r then Sends (clear_request c equipment_failure) Ends else Ends))))

-- RF CHANNEL RELEASE ACKNOWLEDGE (TS 48.058 clause 8.4.19)
unfoldable pub released_plan : ChanId → Plan
released_plan x = Asks (event.Released x) nothing_more

-- CONNECTION FAILURE INDICATION (TS 48.058 clause 8.4.4) of the serving channel of a call without an attempt: CLEAR
-- REQUEST, radio interface failure
unfoldable pub connection_failure_plan : ChanId → Plan
connection_failure_plan x =
    owned (event.Owner x)
    (λ c. Readies (ForMessages 1) (looked c (λ r s. if is_serving x r && not (is_some r.attempt) then Sends (clear_request c radio_interface_failure) Ends else Ends)))

-- HANDOVER DETECTION (TS 48.058 clause 8.4.7): of a call that comes the switching centre is told by HANDOVER DETECT
-- (TS 48.008 clause 3.1.5.3)

unfoldable pub tell_detected : ℕ → Plan
tell_detected c = Sends (handover_detect c) Ends

abbrev pub detected_by : ℕ → AttemptKind → Plan
detected_by c Internal = Ends
detected_by c Incoming = tell_detected c
detected_by c Outgoing = Ends

unfoldable pub detect_rest : ℕ → Option Attempt → Plan
detect_rest c None = Ends
detect_rest c (Some a) = detected_by c a.kind

unfoldable pub detect_plan : ChanId → Plan
detect_plan x = Readies (ForMessages 1) (owned (event.Detect x) (λ c. looked c (λ r s. detect_rest c r.attempt)))

-- MEASUREMENT REPORT (TS 44.018 clause 9.1.21) in a MEASUREMENT RESULT (TS 48.058 clause 8.4.8): where the call is served
-- on the channel, the report counts; a valid one starts a handover to the first candidate that has a free channel

unfoldable pub try_plan : SiteView → ℕ → Rate → List Candidate → Plan
try_plan site c rate [] = Ends
try_plan site c rate (k ∷ ks) = start_plan site c k.cell rate (try_plan site c rate ks)

-- the call's last reports are these from now on
unfoldable pub rank_plan : SiteView → ℕ → ChanId → List Results → Results → Option Attempt → Plan
rank_plan site c x reports m attempt =
    Notes c reports (if is_valid m && not (is_some attempt) then Ranks site reports x.cell (try_plan site c (rate_of x.sub)) else Ends)

unfoldable pub report_plan : SiteView → (ℕ → List Results) → ChanId → Results → Plan
report_plan site reports x m =
    Readies ForReports
    (owned (event.Owner x)
    (λ c. looked c (λ r s. if is_serving x r && is_on s then rank_plan site c x (with_report site.handover.window (reports c) m) m r.attempt else Ends)))

-- HANDOVER COMPLETE (TS 44.018 clause 3.4.4.3) on the target: the old channel is released, and HANDOVER PERFORMED sent
-- (TS 48.008 clause 3.1.7); or HANDOVER COMPLETE with the mobile's RR cause, where the call comes from another controller
-- (TS 48.008 clause 3.1.5.3)

-- the cell of a traffic channel of the site
abbrev pub traffic_cell : SiteView → ChanId → Option CellId
traffic_cell site x = if is_traffic site x then cell_id_at site x.cell else None

abbrev pub internal_complete : SiteView → ℕ → ChanId → Option ChanId → Plan
internal_complete site c x serving =
    if_named serving (λ s. if_cell (traffic_cell site x) (λ cell.
    Readies (ForMessages 2) (once_done (event.Complete c) (Sends (release s) (Sends (handover_performed c cell) Ends)))))

unfoldable pub incoming_complete : ℕ → ℕ → Plan
incoming_complete c cause = Readies (ForMessages 1) (once_done (event.Complete c) (Sends (handover_complete c cause) Ends))

abbrev pub complete_by : SiteView → ℕ → ℕ → ChanId → Option ChanId → AttemptKind → Plan
complete_by site c cause x serving Internal = internal_complete site c x serving
complete_by site c cause x serving Incoming = incoming_complete c cause
complete_by site c cause x serving Outgoing = Asks (event.Complete c) nothing_more

unfoldable pub complete_rest : SiteView → ℕ → ℕ → ChanId → Option ChanId → Option Attempt → Plan
complete_rest site c cause x serving None = Ends
complete_rest site c cause x serving (Some a) = if is_target x a.target && is_commanded a.stage then complete_by site c cause x serving a.kind else Ends

unfoldable pub complete_plan : SiteView → ChanId → ℕ → Plan
complete_plan site x cause = owned (event.Owner x) (λ c. looked c (λ r s. complete_rest site c cause x r.serving r.attempt))

-- HANDOVER FAILURE (TS 44.018 clause 3.4.4.4) on the old channel: the attempt is taken back. Where the mobile was sent to
-- another controller's cell, the switching centre gets HANDOVER FAILURE with its RR cause (TS 48.008 clause 3.1.5.3): radio
-- interface failure, reversion to old channel.

unfoldable pub tell_returned : ℕ → ℕ → Plan
tell_returned c cause = Sends (handover_failure c reversion_to_old_channel (Some cause)) Ends

unfoldable pub internal_return : ℕ → Plan
internal_return c = Readies (ForMessages 1) (take_back c (λ attempt. Ends))

unfoldable pub outgoing_return : ℕ → ℕ → Plan
outgoing_return c cause = Readies (ForMessages 1) (once_recorded (event.Undo c Asked) (λ r s. tell_returned c cause))

abbrev pub return_by : ℕ → ℕ → Attempt → AttemptKind → Plan
return_by c cause a Internal = if is_commanded a.stage && names_target (Some a) then internal_return c else Ends
return_by c cause a Incoming = Ends
return_by c cause a Outgoing = if is_ordered a.stage then outgoing_return c cause else Ends

unfoldable pub return_rest : ℕ → ℕ → Option Attempt → Plan
return_rest c cause None = Ends
return_rest c cause (Some a) = return_by c cause a a.kind

unfoldable pub return_plan : ChanId → ℕ → Plan
return_plan x cause = owned (event.Owner x) (λ c. looked c (λ r s. if is_serving x r then return_rest c cause r.attempt else Ends))

-- CLEAR COMMAND (TS 48.008 clause 3.1.9): the call is cleared as by an operator, and a mobile that is on is told why:
-- normal event for call control (cause 09), else abnormal release. A call whose mobile was sent to another controller has
-- left, and its channel is released. CLEAR COMPLETE comes last.

abbrev pub release_cause : ℕ → ℕ
release_cause cause = if cause == call_control then normal_event else abnormal_release

-- the call has left, and its channel is released
unfoldable pub left_plan : ℕ → Option ChanId → Plan
left_plan c serving = if_named serving (λ x. once_done (event.Left c) (Sends (release x) (Sends (clear_complete c) Ends)))

unfoldable pub clear_command_rest : ℕ → ℕ → Reply → Plan
clear_command_rest c cause Done = Ends
clear_command_rest c cause (Record r s) =
    if awaits_leaving r.attempt then left_plan c r.serving else clear_rest c (Some (release_cause cause)) (Sends (clear_complete c) Ends) r s
clear_command_rest c cause (Owned d) = Ends
clear_command_rest c cause (Refused refusal) = if_no_call (Sends (clear_complete c) Ends) refusal

unfoldable pub clear_command_plan : ℕ → ℕ → Plan
clear_command_plan c cause = Readies (ForMessages 4) (Asks (event.Look c) (clear_command_rest c cause))

-- HANDOVER REQUEST (TS 48.008 clause 3.1.5.2): a call is to come from another controller. It is turned away with no radio
-- resource available where it wants another channel than one for speech, or its cell has none that is free at a rate that
-- it permits; with ciphering algorithm not supported where it must be ciphered; with invalid message contents where the cell
-- isn't an own one.

-- the channel type asks for speech (clause 3.2.2.11: the low four bits of its first octet)
abbrev pub is_speech : List ℕ → Bool
is_speech [] = false
is_speech (indicator ∷ rest) = indicator % 16 == 1

abbrev pub only : Rate → PermittedRates
only rate = record { preferred = rate; other = None }

abbrev pub preferring : Rate → Rate → PermittedRates
preferring rate other = record { preferred = rate; other = Some other }

-- the rates that it permits (its second octet): 09 the half rate alone, 0A and 0F the full rate preferred, 0B the half rate
-- preferred; all others ask for the full rate
abbrev pub rates_by : ℕ → PermittedRates
rates_by octet =
    if octet == 9 then only Half else (if octet == 10 || octet == 15 then preferring Full Half else (if octet == 11 then preferring Half Full else only Full))

abbrev pub rates_of : List ℕ → PermittedRates
rates_of [] = only Full
rates_of (indicator ∷ []) = only Full
rates_of (indicator ∷ octet ∷ rest) = rates_by octet

-- the encryption information permits a call that isn't ciphered (clause 3.2.2.10: bit 1 of its first octet)
abbrev pub permits_clear : List ℕ → Bool
permits_clear [] = false
permits_clear (algorithms ∷ rest) = algorithms % 2 == 1

-- a cell identifier names a cell, by cell identity alone where it has no location area code (clause 3.2.2.17)
abbrev pub is_in_area : Option ℕ → ℕ → Bool
is_in_area None lac = true
is_in_area (Some area) lac = lac == area

abbrev pub names : CellId → CellIdentity → Bool
names id cell = (cell.ci == id.ci) && is_in_area id.lac cell.lac

-- the first own cell that it names
abbrev pub own_cell : SiteView → CellId → Option ℕ
own_cell site id = position (λ cell. names id cell.identity) site.cells

-- none is free at the preferred rate: the other one is tried, where it is permitted
unfoldable pub second_choice : ℕ → ℕ → Option Rate → Plan
second_choice c cell None = turn_away c no_radio_resource_available
second_choice c cell (Some rate) = Takes c kind.Incoming cell rate (turn_away c no_radio_resource_available) (taken_plan c)

unfoldable pub admit_plan : ℕ → PermittedRates → Option ℕ → Plan
admit_plan c rates None = turn_away c invalid_message_contents
admit_plan c rates (Some cell) = Takes c kind.Incoming cell rates.preferred (second_choice c cell rates.other) (taken_plan c)

unfoldable pub request_rest : SiteView → ℕ → List ℕ → List ℕ → CellId → Plan
request_rest site c channel encryption target =
    if not (is_speech channel) then turn_away c no_radio_resource_available else (if not (permits_clear encryption) then turn_away c ciphering_algorithm_not_supported else admit_plan c (rates_of channel) (own_cell site target))

abbrev pub if_new : Plan → Reply → Plan
if_new next Done = Ends
if_new next (Record r s) = Ends
if_new next (Owned c) = Ends
if_new next (Refused refusal) = if_no_call next refusal

-- a call, and this plan where the book has none
unfoldable pub once_new : ℕ → Plan → Plan
once_new c next = Asks (event.Look c) (if_new next)

unfoldable pub request_plan : SiteView → ℕ → List ℕ → List ℕ → CellId → Plan
request_plan site c channel encryption target = Readies (ForMessages 1) (once_new c (request_rest site c channel encryption target))

-- HANDOVER COMMAND (TS 48.008 clause 3.1.5.3) where HANDOVER REQUIRED was sent: the message inside goes to the mobile unread
unfoldable pub order_channel : ℕ → List ℕ → ChanId → Plan
order_channel c layer3 x = Readies (ForUnread (length layer3)) (once_done (event.Order c) (Sends (data_request x layer3) Ends))

unfoldable pub order_plan : ℕ → List ℕ → Plan
order_plan c layer3 = looked c (λ r s. if awaits_order r.attempt then if_named r.serving (order_channel c layer3) else Ends)

-- HANDOVER REQUIRED REJECT (TS 48.008 clause 3.1.5.1) where HANDOVER REQUIRED was sent: the attempt is taken back
unfoldable pub reject_plan : ℕ → Plan
reject_plan c = looked c (λ r s. if awaits_order r.attempt then Asks (event.Undo c Asked) nothing_more else Ends)

-- the row of each line of the operator
abbrev pub line_plan : SiteView → Line → Plan
line_plan site (line.Open c x) = open_plan c x
line_plan site (line.Seize c cell rate) = seize_plan c cell rate
line_plan site (line.Handover c cell) = handover_plan site c cell
line_plan site (line.Undo c) = undo_plan c
line_plan site (line.Clear c) = clear_plan c

-- what a mobile says on the main signalling channel
abbrev pub mobile_plan : SiteView → ChanId → Option Rr → Plan
mobile_plan site x None = Ends
mobile_plan site x (Some (rr.HandoverComplete cause)) = complete_plan site x cause.0
mobile_plan site x (Some (rr.HandoverFailure cause)) = return_plan x cause.0
mobile_plan site x (Some (rr.HandoverCommand cell channel reference power)) = Ends
mobile_plan site x (Some (rr.ChannelRelease cause)) = Ends
mobile_plan site x (Some (rr.PhysicalInformation advance)) = Ends
mobile_plan site x (Some (rr.MeasurementReport m)) = Ends

-- what a mobile says in a measurement result
abbrev pub measured_plan : SiteView → (ℕ → List Results) → ChanId → Option Rr → Plan
measured_plan site reports x None = Ends
measured_plan site reports x (Some (rr.MeasurementReport m)) = report_plan site reports x m
measured_plan site reports x (Some (rr.HandoverComplete cause)) = Ends
measured_plan site reports x (Some (rr.HandoverFailure cause)) = Ends
measured_plan site reports x (Some (rr.HandoverCommand cell channel reference power)) = Ends
measured_plan site reports x (Some (rr.ChannelRelease cause)) = Ends
measured_plan site reports x (Some (rr.PhysicalInformation advance)) = Ends

-- The row of each message from a TRX of a cell, by the channel that it names and the radio resource message inside; for a
-- message that isn't expected nothing is asked.
abbrev pub abis_plan : {A : Type 0} → SiteView → (ℕ → List Results) → ChanId → Rsl A → Option Rr → Plan
abis_plan site reports x (rsl.ChannelActivationAck channel frame) inside = confirm_plan site x
abis_plan site reports x (rsl.ChannelActivationNack channel cause) inside = refuse_plan x
abis_plan site reports x (rsl.RfChannelReleaseAck channel) inside = released_plan x
abis_plan site reports x (rsl.ConnectionFailureIndication channel cause) inside = connection_failure_plan x
abis_plan site reports x (rsl.HandoverDetection channel delay) inside = detect_plan x
abis_plan site reports x (rsl.MeasurementResult channel number uplink power layer3) inside = measured_plan site reports x inside
abis_plan site reports x (rsl.DataIndication channel link layer3) inside = mobile_plan site x inside
abis_plan site reports x (rsl.DataRequest channel link layer3) inside = Ends
abis_plan site reports x (rsl.ChannelActivation channel activation mode reference) inside = Ends
abis_plan site reports x (rsl.RfChannelRelease channel) inside = Ends

-- the row of each message on A about a call; for one that isn't expected nothing is asked
abbrev pub a_plan : {A : Type 0} → SiteView → ℕ → Bssmap A → Plan
a_plan site c (bssmap.ClearCommand cause) = clear_command_plan c cause
a_plan site c (bssmap.HandoverRequest channel encryption classmark serving target) = request_plan site c channel encryption target
a_plan site c (bssmap.HandoverCommand layer3) = order_plan c layer3
a_plan site c (bssmap.HandoverRequiredReject cause) = reject_plan c
a_plan site c (bssmap.HandoverRequired cause response cells) = Ends
a_plan site c (bssmap.HandoverRequestAck layer3) = Ends
a_plan site c (bssmap.HandoverComplete cause) = Ends
a_plan site c (bssmap.HandoverFailure cause inner) = Ends
a_plan site c (bssmap.HandoverPerformed cause cell) = Ends
a_plan site c bssmap.HandoverDetect = Ends
a_plan site c bssmap.ClearComplete = Ends
a_plan site c (bssmap.ClearRequest cause) = Ends
