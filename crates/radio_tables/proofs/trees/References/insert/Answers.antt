use Rattle.std.proofs.Common.{Some, sym, ◌∙◌, ap}
use Rattle.std.specs.FinMap as map
use Rattle.radio_tables.specs.Maps.{put}
use Rattle.radio_tables.proofs.TableFacts.{err_holds}
use Rattle.radio_tables.proofs.MapFacts.{get_listed, put_listed}
use Rattle.radio_tables.proofs.KeyFacts.{reference_total, reference_exact}
use Rattle.radio_tables.proofs.trees.References.insert.Goals as goal

pub returns-in_err-insert-clause-new_key : goal.returns-in_err-insert-clause-new_key
returns-in_err-insert-clause-new_key g c =
    let absent =
    sym (ap (λ m. map.get m c.args.reference) c.self.view_is) ∙ get_listed reference_total c.self.inside.users.entries c.args.reference
    ∙ c.in_err-insert.ensures.absent in
    err_holds c.from_residual.result absent

pub returns-clause-ok : goal.returns-clause-ok
returns-clause-ok g c =
    put_listed reference_total reference_exact c.self.inside.users.entries c.insert.new.self.entries c.args.reference (Some c.args.call) c.in_ok-insert.ensures.updates.0
    ∙ ap (λ m. put m c.args.reference (Some c.args.call)) c.self.view_is
