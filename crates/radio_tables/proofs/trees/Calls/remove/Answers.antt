use Rattle.std.proofs.Common.{None, ◌∙◌, ap}
use Rattle.radio_tables.specs.Maps.{put}
use Rattle.radio_tables.proofs.EntryFacts.{record_written, timer_written}
use Rattle.radio_tables.proofs.trees.Calls.remove.Goals as goal

pub returns : goal.returns
returns g c =
    let records = record_written c.self.inside.entries.entries c.remove.new.self.entries c.args.call None c.remove.ensures.updates.0
    ∙ ap (λ t. put t.records c.args.call None) c.self.view_is in
    let armed = timer_written c.self.inside.entries.entries c.remove.new.self.entries c.args.call None c.remove.ensures.updates.0
    ∙ ap (λ t. put t.armed c.args.call None) c.self.view_is in
    λ i. record { records = records i; armed = armed i }
