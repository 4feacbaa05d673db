use Rattle.std.proofs.lemmas.Result.{err_from_is_err_and}
use Rattle.std.proofs.Common.{◌≡◌, ◌==◌, Ok, sym, rules}
use Rattle.toml.specs.View.{view}
use Rattle.cell_table.specs.Kept.{kept_trx}
use Rattle.cell_table.proofs.Each.{reading-push, reading-err, reading-end}
use Rattle.cell_table.proofs.reading.each_trx.Goals as goal

pub loop-entry-preserved : goal.loop-entry-preserved
loop-entry-preserved c =
    let says : kept_trx c.args.bcch (c.loop-entry.entry-index == 0) (view c.entry-item.result) ≡ Ok c.in_ok-trx_of.field-0 =
    rw (← c.loop-entry.invariant.count) (search rules) in
    rw c.push.ensures.items
    (reading-push (λ place. kept_trx c.args.bcch (place == 0)) c.args.entries.now c.loop-entry.entry-index c.entry-item.result c.loop-entry.trx.items c.in_ok-trx_of.field-0 c.loop-entry-test.true c.entry-item.is says c.loop-entry.invariant)

pub returns-in_err-trx_of : goal.returns-in_err-trx_of
returns-in_err-trx_of c =
    let p = err_from_is_err_and c.from_residual.result c.from_residual.ensures.1 in
    record { read = rw p.1 (sym (reading-err (λ place. kept_trx c.args.bcch (place == 0)) c.args.entries.now c.loop-entry.entry-index c.entry-item.result c.loop-entry.trx.items _ c.loop-entry-test.true c.entry-item.is (rw (← c.loop-entry.invariant.count) (search rules)) c.loop-entry.invariant)) }

pub returns : goal.returns
returns c = record {
  read = sym (reading-end (λ place. kept_trx c.args.bcch (place == 0)) c.args.entries.now c.loop-entry.entry-index c.loop-entry.trx.items c.loop-entry-test.false c.loop-entry.invariant);
}
