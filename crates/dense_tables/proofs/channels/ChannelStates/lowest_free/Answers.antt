use Rattle.std.proofs.Common.{◌≤◌, IfSome, IfNone, subst, arith}
use Rattle.channel_fsm.specs.declared.ChanId.{ChanId}
use Rattle.dense_tables.specs.Channels.{states_of, IsFreeAt, IsNoLater, NoneFreeAt}
use Rattle.dense_tables.proofs.Masked.{found_free, first_free, none_free, none_beyond}
use Rattle.dense_tables.proofs.channels.ChannelStates.lowest_free.Goals as goal

pub returns-then-from-lt-MOST_CELLS-clause-found : goal.returns-then-from-lt-MOST_CELLS-clause-found
returns-then-from-lt-MOST_CELLS-clause-found g c =
    let table = c.self.inside in
    subst (λ t. IfSome c.lowest_in.result (λ x. IsFreeAt t c.args.cell c.args.rate x)) c.self.view_is
    (found_free table.site.value table.states.items table.masks.items c.self.invariant.are_masks c.args.cell c.args.rate c.lowest_in.result c.lowest_in.ensures.found)

pub returns-then-from-lt-MOST_CELLS-clause-lowest : goal.returns-then-from-lt-MOST_CELLS-clause-lowest
returns-then-from-lt-MOST_CELLS-clause-lowest g c =
    let table = c.self.inside in
    subst (λ t. IfSome c.lowest_in.result (λ x. (y : ChanId) → IsFreeAt t c.args.cell c.args.rate y → IsNoLater x y)) c.self.view_is
    (first_free table.site.value table.states.items table.masks.items c.self.invariant.are_masks c.args.cell c.self.invariant.lies c.args.rate c.lowest_in.result c.lowest_in.ensures.lowest)

pub returns-then-from-lt-MOST_CELLS-clause-none : goal.returns-then-from-lt-MOST_CELLS-clause-none
returns-then-from-lt-MOST_CELLS-clause-none g c =
    let table = c.self.inside in
    subst (λ t. IfNone c.lowest_in.result (NoneFreeAt t c.args.cell c.args.rate)) c.self.view_is
    (none_free table.site.value table.states.items table.masks.items c.self.invariant.are_masks c.args.cell c.self.invariant.lies c.args.rate c.lowest_in.result c.lowest_in.ensures.none)

pub returns-else-from-lt-MOST_CELLS : goal.returns-else-from-lt-MOST_CELLS
returns-else-from-lt-MOST_CELLS g c =
    let table = c.self.inside in
    let beyond : 64 ≤ c.args.cell = omega (arith, c.from.ensures, c.if-from-lt-MOST_CELLS.false) in
    record {
      found = tt;
      lowest = tt;
      none = subst (λ t. NoneFreeAt t c.args.cell c.args.rate) c.self.view_is
          (none_beyond (record { site = table.site.value; states = states_of table.site.value table.states.items }) c.args.cell c.args.rate c.self.invariant.lies beyond);
    }
