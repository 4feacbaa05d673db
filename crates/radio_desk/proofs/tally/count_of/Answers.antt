use Rattle.std.proofs.Common.{rules, ◌∙◌, ◌&&◌, Bool}
use Rattle.std.proofs.lemmas.Iterator.Consumers.{count_from_yields_List, YieldsList-from_filter}
use Rattle.std.proofs.lemmas.Iterator.{YieldsList-from_slice}
use Rattle.std.proofs.lemmas.List.Sums.{length-filter}
use Rattle.radio_book.specs.declared.event.Event.{Event}
use Rattle.radio_book.specs.declared.event.Reply.{Reply}
use Rattle.radio_book.specs.Facts.{event_facts}
use Rattle.radio_book.specs.Kinds.{is_accepted}
use Rattle.radio_desk.specs.Tally.{is_reached}
use Rattle.radio_desk.proofs.tally.count_of.Goals as goal

pub returns : goal.returns
returns c =
    let is_such : Event × Reply → Bool = λ s. is_accepted s.1 && is_reached c.args.milestone (event_facts s.0).milestone in
    count_from_yields_List c.filter.result c.count.result c.count.ensures.ran
    (YieldsList-from_filter {ys = c.args.history.now} _ is_such
    (YieldsList-from_slice c.args.history.now cc)
    c.filter.ensures.closure (λ x b q h. Prim.search rules))
    ∙ length-filter is_such c.args.history.now
