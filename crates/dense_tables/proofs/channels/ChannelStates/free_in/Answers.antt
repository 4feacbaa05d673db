use Rattle.std.proofs.Common.{◌<◌, ◌≤◌, ap, ◌∙◌, arith}
use Rattle.dense_tables.specs.Channels.{states_of, free_in}
use Rattle.dense_tables.proofs.Masked.{masks_count, count_beyond}
use Rattle.dense_tables.proofs.channels.ChannelStates.free_in.Goals as goal

pub returns-then-from-lt-MOST_CELLS : goal.returns-then-from-lt-MOST_CELLS
returns-then-from-lt-MOST_CELLS g c =
    let table = c.self.inside in
    let small : c.args.cell < 64 = omega (arith, c.from.ensures, c.if-from-lt-MOST_CELLS.true) in
    record { count = c.count_in.ensures.count ∙ masks_count table.site.value table.states.items table.masks.items c.self.invariant.are_masks c.args.cell small ∙ ap (λ t. free_in t c.args.cell) c.self.view_is }

pub returns-else-from-lt-MOST_CELLS : goal.returns-else-from-lt-MOST_CELLS
returns-else-from-lt-MOST_CELLS g c =
    let table = c.self.inside in
    let beyond : 64 ≤ c.args.cell = omega (arith, c.from.ensures, c.if-from-lt-MOST_CELLS.false) in
    record { count = count_beyond (record { site = table.site.value; states = states_of table.site.value table.states.items }) c.args.cell c.self.invariant.lies beyond ∙ ap (λ t. free_in t c.args.cell) c.self.view_is }
