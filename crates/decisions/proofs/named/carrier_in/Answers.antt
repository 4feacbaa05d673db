use Rattle.std.proofs.Common.{◌∙◌, ℕ, rules, tests}
use Rattle.std.proofs.lemmas.Iterator.{YieldsList-from_slice}
use Rattle.std.proofs.lemmas.Iterator.Search.{find_from_yields_List}
use Rattle.cell_table.specs.Searches.{is_at}
use Rattle.decisions.proofs.named.carrier_in.Goals as goal

pub returns : goal.returns
returns c = record {
  value = c.copied.ensures ∙ find_from_yields_List (λ (x : ℕ). is_at c.args.ba.now c.args.position x) _ _ c.find.result c.find.ensures.ran
      (YieldsList-from_slice c.args.ba.now cc) (λ x b q k. search (rules, tests));
}
