use Rattle.std.proofs.Common.{None, ◌∙◌}
use Rattle.radio_tables.specs.Maps.{put}
use Rattle.radio_tables.proofs.MapFacts.{put_listed}
use Rattle.radio_tables.proofs.KeyFacts.{chan_total, chan_exact}
use Rattle.radio_tables.proofs.trees.Channels.remove.Goals as goal

pub returns : goal.returns
returns g c =
    put_listed chan_total chan_exact c.self.inside.states.entries c.remove.new.self.entries c.of.result None c.remove.ensures.updates.0
    ∙ (λ i. put (c.self.view_is i) (c.of.ensures i) None)
