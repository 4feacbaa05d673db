use Rattle.std.proofs.lemmas.Result.{err_from_is_err_and}
use Rattle.std.proofs.Common.{sym, rules}
use Rattle.cell_table.specs.Kept.{kept_cell}
use Rattle.cell_table.proofs.Each.{reading-push, reading-err, reading-end}
use Rattle.cell_table.proofs.reading.each_cell.Goals as goal

pub loop-entry-preserved : goal.loop-entry-preserved
loop-entry-preserved c =
    rw c.push.ensures.items
    (reading-push (λ place. kept_cell) c.args.entries.now c.loop-entry.entry-index c.entry-item.result c.loop-entry.cells.items c.in_ok-cell_of.field-0 c.loop-entry-test.true c.entry-item.is (search rules) c.loop-entry.invariant)

pub returns-in_err-cell_of : goal.returns-in_err-cell_of
returns-in_err-cell_of c =
    let p = err_from_is_err_and c.from_residual.result c.from_residual.ensures.1 in
    record { read = rw p.1 (sym (reading-err (λ place. kept_cell) c.args.entries.now c.loop-entry.entry-index c.entry-item.result c.loop-entry.cells.items _ c.loop-entry-test.true c.entry-item.is (search rules) c.loop-entry.invariant)) }

pub returns : goal.returns
returns c = record {
  read = sym (reading-end (λ place. kept_cell) c.args.entries.now c.loop-entry.entry-index c.loop-entry.cells.items c.loop-entry-test.false c.loop-entry.invariant);
}
