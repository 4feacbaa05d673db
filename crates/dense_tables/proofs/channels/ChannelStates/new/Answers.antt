use Rattle.std.proofs.Common.{length, sym, ap, ◌∙◌, subst}
use Rattle.std.specs.FinMap as map
use Rattle.std.specs.FinMap.{len-empty}
use Rattle.channel_fsm.specs.declared.ChanState.{ChanState}
use Rattle.cell_table.specs.Site.{IsSite, TrafficLiesWithin, is_traffic, channels}
use Rattle.dense_tables.specs.Keys.{chan_cmp}
use Rattle.dense_tables.specs.Channels.{ArePlaces}
use Rattle.dense_tables.proofs.Stated.{none_used, masks_begun}
use Rattle.dense_tables.proofs.channels.ChannelStates.new.Goals as goal

pub invariant_of-result : goal.invariant_of-result
invariant_of-result g c =
    let site = c.args.site.value in
    let states = c.in_ok-states.states.items in
    let free = c.in_ok-states.ensures.free in
    record {
      is_site = subst IsSite c.deref.ensures c.cells-cells.ensures.limits;
      lies = subst TrafficLiesWithin c.deref.ensures c.cells-cells.ensures.traffic;
      states_long = c.in_ok-states.ensures.len ∙ c.channels.ensures.count ∙ ap (λ s. length (channels s)) c.deref-2.ensures;
      places_long = c.in_ok-places.ensures.len;
      masks_long = c.in_ok-masks.ensures.len;
      are_places = subst (λ s. ArePlaces s c.in_ok-places.places.items) c.deref-3.ensures c.in_ok-places.ensures.places;
      are_masks = masks_begun site states c.in_ok-masks.masks.items free (λ x limits. c.in_ok-masks.ensures.masks x limits ∙ ap (λ s. is_traffic s x) c.deref-4.ensures);
      counted = sym (ap map.len (none_used site states free) ∙ len-empty chan_cmp ChanState);
    }

pub returns : goal.returns
returns g c = record { free = ap (λ m. record { site = c.args.site.value; states = m }) (none_used c.args.site.value c.in_ok-states.states.items c.in_ok-states.ensures.free) }
