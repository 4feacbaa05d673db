use Rattle.std.proofs.Common.{None, ◌∙◌, ap}
use Rattle.radio_tables.specs.Maps.{put}
use Rattle.radio_tables.proofs.MapFacts.{put_listed}
use Rattle.radio_tables.proofs.KeyFacts.{reference_total, reference_exact}
use Rattle.radio_tables.proofs.trees.References.remove.Goals as goal

pub returns : goal.returns
returns g c =
    put_listed reference_total reference_exact c.self.inside.users.entries c.remove.new.self.entries c.args.reference None c.remove.ensures.updates.0
    ∙ ap (λ m. put m c.args.reference None) c.self.view_is
