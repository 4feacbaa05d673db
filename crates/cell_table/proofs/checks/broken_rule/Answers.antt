use Rattle.std.proofs.Common.{sym, ◌∙◌}
use Rattle.cell_table.proofs.Twice.{found_by_pairs}
use Rattle.cell_table.proofs.checks.broken_rule.Goals as goal

pub returns : goal.returns
returns c = record { value = c.broken_by_pairs.ensures.value ∙ sym (found_by_pairs c.args.site.now) }
