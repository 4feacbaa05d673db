use Rattle.std.proofs.Common.{is_some, ap, ◌∙◌}
use Rattle.cell_table.specs.Site.{is_traffic}
use Rattle.dense_tables.proofs.Found.{traffic_told}
use Rattle.dense_tables.proofs.channels.ChannelStates.is_traffic.Goals as goal

pub returns : goal.returns
returns g c =
    let table = c.self.inside in
    let site = table.site.value in
    record { value = c.is_some.ensures ∙ ap is_some (c.place_in.ensures ∙ c.self.invariant.are_places c.args.x) ∙ traffic_told site c.self.invariant.is_site c.args.x ∙ ap (λ t. is_traffic t.site c.args.x) c.self.view_is }
