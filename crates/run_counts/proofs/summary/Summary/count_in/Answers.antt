use Rattle.std.proofs.Common.{◌<◌, ◌^◌, sym, ap, ◌∙◌, subst}
use Rattle.run_counts.specs.Counts.{counted_by, is_in}
use Rattle.run_counts.proofs.summary.Summary.count_in.Goals as goal
use Rattle.run_counts.proofs.Summed.{below}

pub returns : goal.returns
returns g c = record {
  count = λ lines short summed.
      let p = is_in c.args.cell c.args.what in
      let within : counted_by p c.deref.result.now < 2 ^ 64 =
      subst (λ rs. counted_by p rs < 2 ^ 64) (sym c.deref.ensures.value) (below p lines c.args.self.now.rows.items (2 ^ 64) summed.counts short) in
      c.count_in.ensures within ∙ ap (λ rs. counted_by p rs) c.deref.ensures.value ∙ summed.counts p;
}
