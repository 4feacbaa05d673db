use Rattle.cell_table.specs.Kept.{kept_trx}
use Rattle.std.proofs.Common.{◌==◌}
use Rattle.cell_table.proofs.Each.{IsReading}
use Rattle.cell_table.proofs.reading.each_trx.Given as goal

abbrev pub invariant-loop-entry : goal.invariant-loop-entry
invariant-loop-entry l = IsReading (λ place. kept_trx l.fn.bcch (place == 0)) l.entries l.entry-index l.trx.items
