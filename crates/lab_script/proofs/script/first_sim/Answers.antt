use Rattle.std.proofs.Common.{lit<, rules, tests, ◌∙◌, ◌==◌}
use Rattle.std.specs.List.{slice_split}
use Rattle.std.specs.Str.Lines.{strip_carriage_return}
use Rattle.std.proofs.lemmas.Iterator.Adapters.{position_from-zero}
use Rattle.std.proofs.lemmas.Iterator.Search.{position_from_yields_List}
use Rattle.std.proofs.lemmas.Iterator.Splits.{YieldsList-from_str_split}
use Rattle.lab_script.specs.Script.{is_sim}
use Rattle.lab_script.proofs.ScriptLemmas.{first_place}
use Rattle.lab_script.proofs.script.first_sim.Goals as goal

pub returns : goal.returns
returns c =
    let found = position_from_yields_List (λ line. is_sim (strip_carriage_return line)) _ _ c.position.result c.position.ensures.ran (YieldsList-from_str_split 10 c.args.text.now (lit< tt) c.split.ensures.text c.split.ensures.has_more c.split.ensures.pattern) (λ x b q k. search (rules, tests)) in
    first_place (λ line. is_sim line) c.args.text.now c.position.result (found ∙ position_from-zero (λ line. is_sim (strip_carriage_return line)) (slice_split (λ b. b == 10) c.args.text.now))
