use Rattle.std.proofs.Common.{rules, tests}
use Rattle.std.proofs.lemmas.Iterator.{YieldsList-from_slice, YieldsList-from_map, YieldsList-from_zip, items_from_collect}
use Rattle.std.proofs.lemmas.Iterator.Consumers.{YieldsList-at}
use Rattle.tested_scripts.proofs.MeetingLemmas.{came_line, if_paired}
use Rattle.tested_scripts.proofs.came.paired.Goals as goal

pub returns : goal.returns
returns g c =
    if_paired (λ came. came.items) c.collect.result c.args.lines.now c.args.words.now
    (items_from_collect {s = c.map.result} _ c.collect.ensures.ran
    (YieldsList-from_map _ came_line
    (YieldsList-at c.map.ensures.source
    (YieldsList-from_zip (YieldsList-at c.zip.ensures.first (YieldsList-from_slice c.args.lines.now (cc))) (YieldsList-from_slice c.args.words.now (cc))))
    c.map.ensures.closure (λ x r q k. search (rules, tests))))
