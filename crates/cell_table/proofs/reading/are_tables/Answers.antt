use Rattle.std.proofs.Common.{sym, ◌∙◌, rules, tests}
use Rattle.std.proofs.lemmas.Iterator.{YieldsList-from_slice}
use Rattle.std.proofs.lemmas.Iterator.Search.{all_from_yields_List}
use Rattle.std.proofs.lemmas.List.Folds.{list_all-map}
use Rattle.toml.specs.View.{view}
use Rattle.cell_table.specs.SiteFile.{is_table}
use Rattle.cell_table.proofs.reading.are_tables.Goals as goal

pub returns : goal.returns
returns c = record {
  value = all_from_yields_List (λ v. is_table (view v)) _ _ _ c.all.ensures.ran (YieldsList-from_slice c.args.entries.now cc) (λ x b q k. search (rules, tests))
      ∙ sym (list_all-map is_table view c.args.entries.now);
}
