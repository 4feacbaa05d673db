use Rattle.std.proofs.Common.{◌≡◌, ◌++◌, drop}
use Rattle.std.specs.List.{flat_map}
use Rattle.radio_book.specs.State.{state_of}
use Rattle.opening_events.specs.Opening.{off_events}
use Rattle.opening_events.proofs.listing.add_off.Given as goal

-- what is there, and what comes of the channels that are left
abbrev pub invariant-loop-chan : goal.invariant-loop-chan
invariant-loop-chan g l = l.events.items ++ flat_map (λ x. off_events x (state_of l.fn.book x)) (drop l.chan-index l.channels) ≡ l.fn.events.items ++ flat_map (λ x. off_events x (state_of l.fn.book x)) l.channels
