-- What the lines of a trace are counted as. Ours, of no standard.
use Rattle.std.specs.Prelude.{ℕ, Bool, true, false, List, [], ◌∷◌, ◌++◌, Option, Some, None, if◌then◌else◌}
use Rattle.channel_fsm.specs.declared.ChanId.{ChanId}
use Rattle.radio_book.specs.declared.event.Event.{Event}
use Rattle.radio_book.specs.declared.event.Event.TheVariants.{Open, Clear, Look, Take, Reserve, Activate, Command, Complete, Undo, Confirm, Refuse, Detect, Released, Owner, Require, Order, Left}
use Rattle.radio_book.specs.declared.event.Kind.TheVariants as from
use Rattle.radio_book.specs.declared.event.Reply.{Reply}
use Rattle.radio_book.specs.declared.event.Reply.TheVariants as reply
use Rattle.radio_book.specs.declared.event.Why.{Why}
use Rattle.radio_book.specs.declared.event.Why.TheVariants as why
use Rattle.radio_tables.specs.declared.kinds.Attempt.{Attempt}
use Rattle.radio_tables.specs.declared.kinds.CallRecord.{CallRecord}
use Rattle.radio_tables.specs.declared.kinds.AttemptKind.{AttemptKind}
use Rattle.radio_tables.specs.declared.kinds.AttemptKind.TheVariants.{Internal, Incoming, Outgoing}
use Rattle.run_counts.specs.declared.told.Cause.{Cause}
use Rattle.run_counts.specs.declared.told.Cause.TheVariants.{Timer, Untold}
use Rattle.run_counts.specs.declared.told.Way.{Way}
use Rattle.run_counts.specs.declared.told.Told.{Told}
use Rattle.run_counts.specs.declared.told.Told.TheVariants as told
use Rattle.run_counts.specs.declared.report.What.{What}
use Rattle.run_counts.specs.declared.report.What.TheVariants as what
use Rattle.run_counts.specs.declared.report.Report.{Report}
use Rattle.run_counts.specs.declared.report.Standing.{Standing}

-- the cell of a channel, where there is one
abbrev pub cell_of : Option ChanId → Option ℕ
cell_of (Some chan) = Some chan.cell
cell_of None = None

-- the cell that an attempt is to lead to, where it is one of this controller
abbrev pub target_cell : Option Attempt → Option ℕ
target_cell (Some attempt) = cell_of attempt.target
target_cell None = None

-- the cell of this channel, or else this one
abbrev pub cell_or : Option ChanId → Option ℕ → Option ℕ
cell_or (Some chan) otherwise = Some chan.cell
cell_or None otherwise = otherwise

-- the home cell of a record: that in which the call is served, or else that to which it comes
abbrev pub home_of : CallRecord → Option ℕ
home_of kept = cell_or kept.serving (target_cell kept.attempt)

-- which way an attempt leads, where one is open
abbrev pub way_in : Option Attempt → Option Way
way_in (Some attempt) = Some (record { kind = attempt.kind; target = cell_of attempt.target })
way_in None = None

-- what is told where the book was asked an event, and replied this
abbrev pub asked : Event → Reply → Told
asked event reply.Done = told.Asked event true None None
asked event (reply.Owned call) = told.Asked event true None None
asked event (reply.Record kept state) = told.Asked event true (home_of kept) (way_in kept.attempt)
asked event (reply.Refused refusal) = told.Asked event false None None

-- before the first input
abbrev pub first_standing : Standing
first_standing = record { cell = None; cause = Untold; home = None; way = None }

-- the home cell that is known once a reply told one or not
abbrev pub known_home : Standing → Option ℕ → Option ℕ
known_home standing (Some home) = Some home
known_home standing None = standing.home

-- which way the attempt leads that opens by an accepted event; another event leaves what is known
abbrev pub opened_way : Option Way → Event → Option Way
opened_way known (Take call from.Internal chan) = Some (record { kind = Internal; target = Some chan.cell })
opened_way known (Take call from.Incoming chan) = Some (record { kind = Incoming; target = Some chan.cell })
opened_way known (Open call chan) = known
opened_way known (Clear call) = known
opened_way known (Look call) = known
opened_way known (Reserve call number) = known
opened_way known (Activate call) = known
opened_way known (Command call) = known
opened_way known (Complete call) = known
opened_way known (Undo call why) = known
opened_way known (Confirm chan) = known
opened_way known (Refuse chan) = known
opened_way known (Detect chan) = known
opened_way known (Released chan) = known
opened_way known (Owner chan) = known
opened_way known (Require call) = known
opened_way known (Order call) = known
opened_way known (Left call) = known

-- which way is known once an event was accepted or not, and the reply told one or not
abbrev pub way_behind : Option Way → Event → Bool → Option Way → Option Way
way_behind known event is_accepted (Some way) = Some way
way_behind known event is_accepted None = if is_accepted then opened_way known event else known

-- what the lines told of the input that is handled, behind one that tells this
abbrev pub standing_behind : Standing → Told → Standing
standing_behind standing (told.Input cell cause name) = record { cell = cell; cause = cause; home = None; way = None }
standing_behind standing (told.Asked event is_accepted home way) = record standing { home = known_home standing home; way = way_behind standing.way event is_accepted way }
standing_behind standing (told.NoneFree cell) = standing
standing_behind standing (told.Sent cell name) = standing
standing_behind standing told.Fault = standing
standing_behind standing told.Nothing = standing

-- why an attempt is taken back that an undo ends
abbrev pub cause_of : Standing → Why → Cause
cause_of standing why.Asked = standing.cause
cause_of standing (why.Expired timer) = Timer

-- a report that leads nowhere, and one of an attempt
abbrev pub report_at : Option ℕ → What → Report
report_at cell what = record { cell = cell; to = None; what = what }

abbrev pub report_to : Option ℕ → Option ℕ → What → Report
report_to cell to what = record { cell = cell; to = to; what = what }

-- the cell that an attempt leads to, and of which kind it is, where that is known
abbrev pub target_of : Option Way → Option ℕ
target_of (Some way) = way.target
target_of None = None

abbrev pub kind_of : Option Way → Option AttemptKind
kind_of (Some way) = Some way.kind
kind_of None = None

-- What an event counts as that was accepted. What is by a call is counted in the call's home cell, what is by a station in the
-- cell of its channel, and what asks for the activation of an attempt's channel in the cell that the attempt leads to.
abbrev pub accepted : Standing → Event → Option ℕ → Option Report
accepted standing (Open call chan) home = Some (report_at (Some chan.cell) what.Opened)
accepted standing (Clear call) home = Some (report_at home what.Cleared)
accepted standing (Take call from.Internal chan) home = Some (report_to home (Some chan.cell) (what.Began Internal))
accepted standing (Take call from.Incoming chan) home = Some (report_to (Some chan.cell) (Some chan.cell) (what.Began Incoming))
accepted standing (Require call) home = Some (report_at home (what.Began Outgoing))
accepted standing (Activate call) home = Some (report_at (target_of standing.way) what.Activated)
accepted standing (Confirm chan) home = Some (report_at (Some chan.cell) what.Confirmed)
accepted standing (Complete call) home = Some (report_to home (target_of standing.way) (what.Completed (kind_of standing.way)))
accepted standing (Left call) home = Some (report_at home (what.Completed (Some Outgoing)))
accepted standing (Undo call why) home = Some (report_at home (what.Undone (cause_of standing why)))
accepted standing (Look call) home = None
accepted standing (Reserve call number) home = None
accepted standing (Command call) home = None
accepted standing (Refuse chan) home = None
accepted standing (Detect chan) home = None
accepted standing (Released chan) home = None
accepted standing (Owner chan) home = None
accepted standing (Order call) home = None

-- one that is refused doesn't count
abbrev pub event_report : Standing → Event → Bool → Option ℕ → Option Report
event_report standing event true home = accepted standing event (known_home standing home)
event_report standing event false home = None

-- what a message counts as that an input is
abbrev pub input_report : Option ℕ → Option ℕ → Option Report
input_report cell (Some name) = Some (report_at cell (what.Received name))
input_report cell None = None

-- what a line counts as that tells this
abbrev pub report_of : Standing → Told → Option Report
report_of standing (told.Input cell cause name) = input_report cell name
report_of standing (told.Asked event is_accepted home way) = event_report standing event is_accepted home
report_of standing (told.NoneFree cell) = Some (report_at (Some cell) what.TurnedAway)
report_of standing (told.Sent cell name) = Some (report_at cell (what.Sent name))
report_of standing told.Fault = Some (report_at standing.cell what.Fault)
report_of standing told.Nothing = None

-- a report, if there is one
abbrev pub as_list : Option Report → List Report
as_list (Some report) = report ∷ []
as_list None = []

-- what lines are counted as, and what they told of the last input, behind this
abbrev pub reports_from : Standing → List Told → List Report
reports_from standing [] = []
reports_from standing (t ∷ ts) = as_list (report_of standing t) ++ reports_from (standing_behind standing t) ts

abbrev pub standing_from : Standing → List Told → Standing
standing_from standing [] = standing
standing_from standing (t ∷ ts) = standing_from (standing_behind standing t) ts

-- what all lines of a trace report
abbrev pub reports_of : List Told → List Report
reports_of lines = reports_from first_standing lines

abbrev pub standing_of : List Told → Standing
standing_of lines = standing_from first_standing lines
