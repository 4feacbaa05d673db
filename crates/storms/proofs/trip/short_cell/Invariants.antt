use Rattle.storms.specs.Width.{AllHave}
use Rattle.storms.proofs.trip.short_cell.Given as goal

-- the cells so far have as many
abbrev pub invariant-loop-cell : goal.invariant-loop-cell
invariant-loop-cell g l = AllHave l.site l.many l.cell
