use Rattle.std.proofs.Common.{◌≡◌, ◌++◌, drop}
use Rattle.std.specs.List.{flat_map}
use Rattle.opening_events.specs.Opening.{events_at}
use Rattle.opening_events.proofs.calls.add_calls.Given as goal

-- what is there, and what comes of the channels that are left
abbrev pub invariant-loop-chan : goal.invariant-loop-chan
invariant-loop-chan g l = l.events.items ++ flat_map (events_at l.fn.book) (drop l.chan-index l.channels) ≡ l.fn.events.items ++ flat_map (events_at l.fn.book) l.channels
