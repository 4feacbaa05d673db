use Rattle.std.proofs.Common.{rules}
use borrow.Author.Tests.{tests}
use Rattle.std.proofs.lemmas.Iterator.{YieldsList-from_slice, YieldsList-from_map, items_from_collect}
use Rattle.std.proofs.lemmas.Iterator.Consumers.{YieldsList-at}
use Rattle.radio_book.specs.declared.undone.StepAt.{StepAt}
use Rattle.radio_desk.proofs.audit.events_of.Goals as goal

pub returns : goal.returns
returns g c =
    items_from_collect {s = c.map.result} _ c.collect.ensures.ran
    (YieldsList-from_map _ (λ (s : StepAt). s.event)
    (YieldsList-at c.map.ensures.source (YieldsList-from_slice c.args.steps.now (cc))) c.map.ensures.closure (λ x r q k. search (rules, tests)))
