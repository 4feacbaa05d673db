use Rattle.std.proofs.Common.{◌+◌, ◌++◌, ◌∙◌, map, arith}
use Rattle.cell_table.specs.Site.{channels}
use Rattle.link_machine.specs.Channels.{fresh, listed}
use Rattle.link_machine.proofs.Walks.{one_more_fresh, all_fresh}
use Rattle.link_machine.proofs.machine.fresh_channels.Goals as goal

pub loop-place-preserved : goal.loop-place-preserved
loop-place-preserved g c =
    c.in_ok-push_fresh.ensures
    ∙ (λ i. c.loop-place.invariant i ++ map fresh (listed (c.chan_at.ensures.value i)))
    ∙ one_more_fresh c.loop-place.place (c.loop-place.place + 1) (channels c.args.site.now) (omega arith)

pub returns : goal.returns
returns g c = record { fresh = c.loop-place.invariant ∙ all_fresh c.loop-place.place (channels c.args.site.now) (omega (arith, c.loop-place-test.false, c.channels-place-end.ensures.count)) }
