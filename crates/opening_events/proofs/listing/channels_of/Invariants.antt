use Rattle.std.proofs.Common.{◌≡◌, take}
use Rattle.cell_table.specs.Site.{channels}
use Rattle.opening_events.proofs.listing.channels_of.Given as goal

-- the channels of the places so far are there
abbrev pub invariant-loop-place : goal.invariant-loop-place
invariant-loop-place g l = l.all.items ≡ take l.place (channels l.site)
