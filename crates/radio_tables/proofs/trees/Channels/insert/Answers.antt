use Rattle.std.proofs.Common.{Some, sym, ◌∙◌}
use Rattle.std.specs.FinMap as map
use Rattle.radio_tables.specs.Maps.{put}
use Rattle.radio_tables.proofs.TableFacts.{err_holds}
use Rattle.radio_tables.proofs.MapFacts.{get_listed, put_listed}
use Rattle.radio_tables.proofs.KeyFacts.{chan_total, chan_exact}
use Rattle.radio_tables.proofs.trees.Channels.insert.Goals as goal

pub returns-in_err-insert-clause-new_key : goal.returns-in_err-insert-clause-new_key
returns-in_err-insert-clause-new_key g c =
    let absent =
    sym (λ i. map.get (c.self.view_is i) (c.of.ensures i)) ∙ get_listed chan_total c.self.inside.states.entries c.of.result
    ∙ c.in_err-insert.ensures.absent in
    err_holds c.from_residual.result absent

pub returns-clause-ok : goal.returns-clause-ok
returns-clause-ok g c =
    put_listed chan_total chan_exact c.self.inside.states.entries c.insert.new.self.entries c.of.result (Some c.args.state) c.in_ok-insert.ensures.updates.0
    ∙ (λ i. put (c.self.view_is i) (c.of.ensures i) (Some c.args.state))
