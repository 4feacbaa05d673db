use Rattle.std.proofs.Common.{◌≡◌, take}
use Rattle.radio_desk.specs.Audit.{events_in}
use Rattle.audits.proofs.traced.desk_after.Given as goal

-- the events so far were asked
abbrev pub invariant-loop-event : goal.invariant-loop-event
invariant-loop-event g l = record {
  opening : l.desk.opening ≡ l.fn.book;
  asked : events_in l.desk.history ≡ take l.event-index l.events;
}
