use Rattle.std.proofs.Common.{◌∙◌, rules, tests}
use Rattle.std.proofs.lemmas.Iterator.{YieldsList-from_slice}
use Rattle.std.proofs.lemmas.Iterator.Search.{find_from_yields_List}
use Rattle.msc_model.specs.Cells.{is_peer_cell}
use Rattle.msc_model.proofs.cell.target_cell.Goals as goal

pub returns : goal.returns
returns c = c.copied.ensures ∙ find_from_yields_List (is_peer_cell c.args.controller c.args.asked) _ _ c.find.result c.find.ensures.ran (YieldsList-from_slice c.args.cells.now cc) (λ x b q k. search (rules, tests))
