use Rattle.std.proofs.Common.{rules, ℕ}
use borrow.Author.Tests.{tests}
use Rattle.std.proofs.lemmas.Iterator.{YieldsList-from_slice, YieldsList-from_map, YieldsList-from_zip, items_from_collect}
use Rattle.std.proofs.lemmas.Iterator.Consumers.{YieldsList-from_enumerate, YieldsList-at}
use Rattle.radio_book.specs.declared.event.Event.{Event}
use Rattle.radio_book.specs.declared.event.Reply.{Reply}
use Rattle.radio_book.proofs.steps.steps_of.Goals as goal

pub returns : goal.returns
returns g c =
    items_from_collect {s = c.map.result} _ c.collect.ensures.ran
    (YieldsList-from_map _ (λ (p : ℕ × (Event × Reply)). record { place = p.0; event = p.1.0; reply = p.1.1 })
    (YieldsList-at c.map.ensures.source
    (YieldsList-from_enumerate
    (YieldsList-at c.enumerate.ensures.source
    (YieldsList-from_zip (YieldsList-at c.zip.ensures.first (YieldsList-from_slice c.args.events.now (cc))) (YieldsList-from_slice c.args.replies.now (cc))))
    c.enumerate.ensures.count)) c.map.ensures.closure (λ x r q k. search (rules, tests)))
