use Rattle.std.proofs.Common.{sym, ◌∙◌, rules, tests}
use Rattle.std.proofs.lemmas.Iterator.{YieldsList-from_slice}
use Rattle.std.proofs.lemmas.Iterator.Search.{any_from_yields_List}
use Rattle.toml.specs.View.{view}
use Rattle.cell_table.specs.Kept.{is_number}
use Rattle.cell_table.proofs.SlotFacts.{any_map}
use Rattle.cell_table.proofs.reading.name.Goals as goal

pub returns : goal.returns
returns c = record {
  value = any_from_yields_List (λ v. is_number c.args.range c.args.number (view v)) _ _ _ c.any.ensures.ran (YieldsList-from_slice c.args.values.now cc) (λ x b q k. search (rules, tests))
      ∙ sym (any_map (is_number c.args.range c.args.number) view c.args.values.now);
}
