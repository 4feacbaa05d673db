use Rattle.std.proofs.Common.{rules, tests, ◌∙◌}
use Rattle.std.proofs.lemmas.Iterator.{YieldsList-from_slice}
use Rattle.std.proofs.lemmas.Iterator.Search.{any_from_yields_List}
use Rattle.tested_scripts.specs.declared.compare.CameLine.{CameLine}
use Rattle.tested_scripts.specs.Meeting.{is_refused}
use Rattle.tested_scripts.proofs.MeetingLemmas.{any_said}
use Rattle.tested_scripts.proofs.misses.is_any_refused.Goals as goal

pub returns : goal.returns
returns c =
    let test = λ (line : CameLine). is_refused c.args.text.now (line.text.now, line.words.now) in
    any_from_yields_List test _ _ c.any.result c.any.ensures.ran (YieldsList-from_slice c.args.came.now c.iter.ensures.rest) (λ x b q k. search (rules, tests)) ∙ any_said (is_refused c.args.text.now) c.args.came.now
