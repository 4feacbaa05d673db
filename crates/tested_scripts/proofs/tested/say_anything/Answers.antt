use Rattle.std.proofs.Common.{rules, tests, ◌∙◌, List, ℕ, Bor}
use Rattle.std.proofs.lemmas.Iterator.{YieldsList-from_slice}
use Rattle.std.proofs.lemmas.Iterator.Search.{any_from_yields_List}
use Rattle.tested_scripts.specs.Lines.{says_something}
use Rattle.tested_scripts.proofs.LineLemmas.{any_texts}
use Rattle.tested_scripts.proofs.tested.say_anything.Goals as goal

pub returns : goal.returns
returns c =
    let test = λ (line : Bor (List ℕ)). says_something line.now in
    any_from_yields_List test _ _ c.any.result c.any.ensures.ran (YieldsList-from_slice c.args.lines.now c.iter.ensures.rest) (λ x b q k. search (rules, tests)) ∙ any_texts says_something c.args.lines.now
