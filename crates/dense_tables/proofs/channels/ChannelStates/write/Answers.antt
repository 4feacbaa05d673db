use Rattle.std.proofs.Common.{◌<◌, cond, is_some, set, length, sym, ap, ◌∙◌, arith}
use Rattle.std.proofs.lemmas.List.{length-set, get_or_read}
use Rattle.channel_fsm.specs.declared.ChanState.TheVariants.{Free}
use Rattle.cell_table.specs.Site.{is_traffic}
use Rattle.dense_tables.specs.Maps.{put}
use Rattle.dense_tables.specs.Channels.{busy, states_of, with_state}
use Rattle.dense_tables.proofs.Found.{placed, places_within, few_channels, traffic_told}
use Rattle.dense_tables.proofs.Stated.{state_written, count_written, state_absent, few_used, only_free, masks_written}
use Rattle.dense_tables.proofs.channels.ChannelStates.write.Goals as goal

pub overflow_sub-self : goal.overflow_sub-self
overflow_sub-self g c =
    let table = c.self.inside in
    let site = table.site.value in
    let states = table.states.items in
    let x = c.args.x in
    let place = c.in-Some.place in
    let at = sym (c.place_in.ensures ∙ c.self.invariant.are_places x) ∙ c.in-Some.is in
    let within : place < length states = omega (arith, (placed site x place at).0, c.self.invariant.states_long) in
    let read = get_or_read states place _ within c.index-old.ensures Free in
    let one = c.count_of.ensures ∙ ap (λ s. cond (is_some (busy s)) 1 0) read in
    let counts = count_written site states x place Free within at in
    omega (arith, one, counts, c.self.invariant.counted)

pub overflow_add-self : goal.overflow_add-self
overflow_add-self g c =
    let table = c.self.inside in
    let site = table.site.value in
    let states = table.states.items in
    let x = c.args.x in
    let place = c.in-Some.place in
    let at = sym (c.place_in.ensures ∙ c.self.invariant.are_places x) ∙ c.in-Some.is in
    let within : place < length states = omega (arith, (placed site x place at).0, c.self.invariant.states_long) in
    let read = get_or_read states place _ within c.index-old.ensures Free in
    let one = c.count_of.ensures ∙ ap (λ s. cond (is_some (busy s)) 1 0) read in
    let counts = count_written site states x place c.args.state within at in
    let most = few_used site (set states place c.args.state) in
    let few = few_channels site in
    omega (arith, one, c.count_of-in-Some.ensures, counts, most, few, c.self.invariant.counted)

pub set_timeslot-requires : goal.set_timeslot-requires
set_timeslot-requires g c =
    let table = c.self.inside in
    let site = table.site.value in
    let states = table.states.items in
    let x = c.args.x in
    let place = c.in-Some.place in
    let at = sym (c.place_in.ensures ∙ c.self.invariant.are_places x) ∙ c.in-Some.is in
    record {
      within = c.self.invariant.lies x (placed site x place at).1;
      len = c.self.invariant.masks_long;
      places = c.self.invariant.places_long;
      states = places_within site table.places.items (length (set states place c.args.state)) c.self.invariant.are_places (length-set states place c.args.state ∙ c.self.invariant.states_long);
    }

pub invariant_of-self : goal.invariant_of-self
invariant_of-self g c =
    let table = c.self.inside in
    let site = table.site.value in
    let states = table.states.items in
    let x = c.args.x in
    let place = c.in-Some.place in
    let at = sym (c.place_in.ensures ∙ c.self.invariant.are_places x) ∙ c.in-Some.is in
    let within : place < length states = omega (arith, (placed site x place at).0, c.self.invariant.states_long) in
    let read = get_or_read states place _ within c.index-old.ensures Free in
    let one = c.count_of.ensures ∙ ap (λ s. cond (is_some (busy s)) 1 0) read in
    let counts = count_written site states x place c.args.state within at in
    let least = count_written site states x place Free within at in
    record {
      is_site = c.self.invariant.is_site;
      lies = c.self.invariant.lies;
      states_long = length-set states place c.args.state ∙ c.self.invariant.states_long;
      places_long = c.self.invariant.places_long;
      masks_long = c.set_timeslot.ensures.len;
      are_places = c.self.invariant.are_places;
      are_masks = masks_written site c.self.invariant.is_site states table.places.items table.masks.items c.set_timeslot.new.masks.items x place c.args.state
          c.self.invariant.are_places c.self.invariant.are_masks at c.set_timeslot.ensures.timeslot c.set_timeslot.ensures.others;
      counted = omega (arith, one, c.count_of-in-Some.ensures, counts, least, c.self.invariant.counted);
    }

pub returns-in-Some : goal.returns-in-Some
returns-in-Some g c =
    let table = c.self.inside in
    let site = table.site.value in
    let states = table.states.items in
    let x = c.args.x in
    let place = c.in-Some.place in
    let at = sym (c.place_in.ensures ∙ c.self.invariant.are_places x) ∙ c.in-Some.is in
    let within : place < length states = omega (arith, (placed site x place at).0, c.self.invariant.states_long) in
    (λ i. record { site = site; states = state_written site states x place c.args.state within at i })
    ∙ ap (λ t. with_state t x (busy c.args.state)) c.self.view_is

pub returns-in_default : goal.returns-in_default
returns-in_default g c =
    let table = c.self.inside in
    let site = table.site.value in
    let states = table.states.items in
    let x = c.args.x in
    let none = sym (c.place_in.ensures ∙ c.self.invariant.are_places x) ∙ c.in_default.is in
    let free = only_free c.args.state (λ used. sym (ap is_some none) ∙ traffic_told site c.self.invariant.is_site x ∙ ap (λ t. is_traffic t.site x) c.self.view_is ∙ c.requires used) in
    let absent = ap (put (states_of site states) x) free ∙ state_absent site states x none in
    sym c.self.view_is ∙ (λ i. record { site = site; states = sym absent i }) ∙ ap (λ t. with_state t x (busy c.args.state)) c.self.view_is
