use Rattle.std.proofs.Common.{◌≡◌, map, take}
use Rattle.cell_table.specs.Site.{channels}
use Rattle.link_machine.specs.Channels.{fresh}
use Rattle.link_machine.proofs.machine.fresh_channels.Given as goal

-- the channels of so many places
abbrev pub invariant-loop-place : goal.invariant-loop-place
invariant-loop-place g l = l.found.items ≡ map fresh (take l.place (channels l.site))
