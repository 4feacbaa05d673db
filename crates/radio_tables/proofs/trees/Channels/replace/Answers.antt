use Rattle.std.proofs.Common.{Some, is_some, sym, ◌∙◌, ap}
use Rattle.std.specs.FinMap as map
use Rattle.std.specs.Option.{option_copied_mut}
use Rattle.radio_tables.specs.Maps.{put}
use Rattle.radio_tables.proofs.MapFacts.{get_listed, put_listed}
use Rattle.radio_tables.proofs.KeyFacts.{chan_total, chan_exact}
use Rattle.radio_tables.proofs.trees.Channels.replace.Goals as goal

pub unreachable-requires : goal.unreachable-requires
unreachable-requires g c =
    let absent =
    sym (ap option_copied_mut c.in-None.is) ∙ c.get_mut.ensures.value
    ∙ sym (get_listed chan_total c.self.inside.states.entries c.of.result) ∙ (λ i. map.get (c.self.view_is i) (c.of.ensures i)) in
    let there = ap is_some absent ∙ c.requires in
    cc

pub returns : goal.returns
returns g c =
    let there = sym (ap is_some (sym (ap option_copied_mut c.in-Some.is) ∙ c.get_mut.ensures.value)) in
    let written = c.get_mut.follows.holds c.args.state in
    put_listed chan_total chan_exact c.self.inside.states.entries (c.get_mut.follows.lender c.args.state).entries c.of.result (Some c.args.state) (written.3 there).0
    ∙ (λ i. put (c.self.view_is i) (c.of.ensures i) (Some c.args.state))
