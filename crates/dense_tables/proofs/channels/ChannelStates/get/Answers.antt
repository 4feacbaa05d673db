use Rattle.std.proofs.Common.{◌<◌, length, sym, ap, ◌∙◌, arith}
use Rattle.std.specs.FinMap as map
use Rattle.std.proofs.lemmas.List.{get_or_read}
use Rattle.channel_fsm.specs.declared.ChanState.TheVariants.{Free}
use Rattle.dense_tables.specs.Channels.{busy}
use Rattle.dense_tables.proofs.Found.{placed}
use Rattle.dense_tables.proofs.Stated.{there, get_state}
use Rattle.dense_tables.proofs.channels.ChannelStates.get.Goals as goal

pub returns-in_err-place : goal.returns-in_err-place
returns-in_err-place g c =
    let table = c.self.inside in
    let site = table.site.value in
    let states = table.states.items in
    let x = c.args.x in
    let none = sym (c.place_in.ensures ∙ c.self.invariant.are_places x) ∙ c.in_err-place.was in
    record { value = c.from_residual.ensures ∙ sym (get_state site states x ∙ ap (there states) none) ∙ ap (λ t. map.get t.states x) c.self.view_is }

pub returns : goal.returns
returns g c =
    let table = c.self.inside in
    let site = table.site.value in
    let states = table.states.items in
    let x = c.args.x in
    let place = c.in_ok-place.place in
    let at = sym (c.place_in.ensures ∙ c.self.invariant.are_places x) ∙ c.in_ok-place.was in
    let within : place < length states = omega (arith, (placed site x place at).0, c.self.invariant.states_long) in
    let read = get_or_read states place _ within c.index.ensures Free in
    record { value = c.busy.ensures ∙ ap busy read ∙ sym (get_state site states x ∙ ap (there states) at) ∙ ap (λ t. map.get t.states x) c.self.view_is }
