use Rattle.std.proofs.Common.{rules, tests, ◌∙◌, List, ℕ, Bor}
use Rattle.std.proofs.lemmas.Iterator.{YieldsList-from_slice}
use Rattle.std.proofs.lemmas.Iterator.Search.{any_from_yields_List}
use Rattle.tested_scripts.specs.Meeting.{said_of}
use Rattle.tested_scripts.specs.Tests.{is_broken}
use Rattle.tested_scripts.proofs.LineLemmas.{any_texts}
use Rattle.tested_scripts.proofs.misses.has_broken.Goals as goal

pub returns : goal.returns
returns c =
    let test = λ (line : Bor (List ℕ)). is_broken (said_of c.args.came.now) line.now in
    any_from_yields_List test _ _ c.any.result c.any.ensures.ran (YieldsList-from_slice c.args.part.now c.iter.ensures.rest) (λ x b q k. search (rules, tests)) ∙ any_texts (is_broken (said_of c.args.came.now)) c.args.part.now
