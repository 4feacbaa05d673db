use Rattle.std.proofs.Common.{subst, ◌∙◌}
use Rattle.cell_table.specs.Site.{TrafficLiesWithin}
use Rattle.lab_runs.proofs.ChannelFacts.{serving_lies, target_lies}
use Rattle.lab_runs.proofs.calls.timeslots.Goals as goal

pub returns-clause-serving : goal.returns-clause-serving
returns-clause-serving g c = serving_lies c.args.book.now c.calls.ensures.sound (subst TrafficLiesWithin (c.deref.ensures ∙ c.site.ensures.site) c.cells.ensures.traffic)

pub returns-clause-target : goal.returns-clause-target
returns-clause-target g c = target_lies c.args.book.now c.calls.ensures.sound (subst TrafficLiesWithin (c.deref.ensures ∙ c.site.ensures.site) c.cells.ensures.traffic)
