use Rattle.std.proofs.Common.{rules}
use borrow.Author.Tests.{tests}
use Rattle.std.proofs.lemmas.Iterator.{YieldsList-from_slice, YieldsList-from_map, items_from_collect}
use Rattle.std.proofs.lemmas.Iterator.Consumers.{YieldsList-from_enumerate, YieldsList-at}
use Rattle.radio_desk.specs.Audit.{step_at}
use Rattle.radio_desk.proofs.audit.steps_of.Goals as goal

pub returns : goal.returns
returns g c =
    items_from_collect {s = c.map.result} _ c.collect.ensures.ran
    (YieldsList-from_map _ step_at
    (YieldsList-at c.map.ensures.source
    (YieldsList-from_enumerate (YieldsList-from_slice c.args.history.now (cc)) c.enumerate.ensures.count)) c.map.ensures.closure (λ x r q k. search (rules, tests)))
