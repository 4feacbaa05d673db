use Rattle.std.proofs.Common.{◌≡◌, ◌<◌, cond, true, ℕ, is_some, length, Some, sym, ap, ◌∙◌, arith}
use Rattle.std.specs.FinMap as map
use Rattle.std.proofs.lemmas.List.{length-set}
use Rattle.dense_tables.specs.Maps.{put}
use Rattle.dense_tables.specs.Channels.{state_at, states_of, with_state}
use Rattle.dense_tables.proofs.Found.{placed}
use Rattle.dense_tables.proofs.Stated.{there, get_state, state_written, count_written, masks_kept, busy_itself}
use Rattle.dense_tables.proofs.channels.ChannelStates.replace.Goals as goal

pub invariant_of-self : goal.invariant_of-self
invariant_of-self g c =
    let table = c.self.inside in
    let site = table.site.value in
    let states = table.states.items in
    let x = c.args.x in
    let place = c.in-Some.place in
    let at = sym (c.place_in.ensures ∙ c.self.invariant.are_places x) ∙ c.in-Some.is in
    let found = placed site x place at in
    let within : place < length states = omega (arith, found.0, c.self.invariant.states_long) in
    let used : is_some (state_at site states x) ≡ true = sym (ap is_some (get_state site states x)) ∙ ap (λ t. is_some (map.get t.states x)) c.self.view_is ∙ c.requires.used in
    let was = sym (ap (λ o. is_some (there states o)) at) ∙ used in
    let one = ap {B = ℕ} (λ b. cond b 1 0) was in
    let itself = busy_itself c.args.state c.requires.busy in
    let more = ap {B = ℕ} (λ o. cond (is_some o) 1 0) itself in
    let counts = count_written site states x place c.args.state within at in
    record {
      is_site = c.self.invariant.is_site;
      lies = c.self.invariant.lies;
      states_long = length-set states place c.args.state ∙ c.self.invariant.states_long;
      places_long = c.self.invariant.places_long;
      masks_long = c.self.invariant.masks_long;
      are_places = c.self.invariant.are_places;
      are_masks = masks_kept site states table.masks.items x place c.args.state within at used (ap is_some itself) c.self.invariant.are_masks;
      counted = omega (arith, one, more, counts, c.self.invariant.counted);
    }

pub returns-in-Some : goal.returns-in-Some
returns-in-Some g c =
    let table = c.self.inside in
    let site = table.site.value in
    let states = table.states.items in
    let x = c.args.x in
    let place = c.in-Some.place in
    let at = sym (c.place_in.ensures ∙ c.self.invariant.are_places x) ∙ c.in-Some.is in
    let within : place < length states = omega (arith, (placed site x place at).0, c.self.invariant.states_long) in
    record {
      replaced = (λ i. record { site = site; states = (state_written site states x place c.args.state within at ∙ ap (put (states_of site states) x) (busy_itself c.args.state c.requires.busy)) i })
          ∙ ap (λ t. with_state t x (Some c.args.state)) c.self.view_is;
    }

pub returns-in_default : goal.returns-in_default
returns-in_default g c =
    let table = c.self.inside in
    let site = table.site.value in
    let states = table.states.items in
    let x = c.args.x in
    let none = sym (c.place_in.ensures ∙ c.self.invariant.are_places x) ∙ c.in_default.is in
    let absent = sym (ap is_some (get_state site states x ∙ ap (there states) none)) ∙ ap (λ t. is_some (map.get t.states x)) c.self.view_is ∙ c.requires.used in
    cc
