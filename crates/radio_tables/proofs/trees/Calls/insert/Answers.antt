use Rattle.std.proofs.Common.{sym, ◌∙◌, ap}
use Rattle.std.specs.FinMap as map
use Rattle.radio_tables.specs.Entries.{with_kept}
use Rattle.radio_tables.proofs.TableFacts.{err_holds}
use Rattle.radio_tables.proofs.EntryFacts.{call_kept, get_records, kept_written}
use Rattle.radio_tables.proofs.trees.Calls.insert.Goals as goal

pub returns-in_err-insert-clause-new_key : goal.returns-in_err-insert-clause-new_key
returns-in_err-insert-clause-new_key g c =
    let absent =
    sym (ap (λ t. map.get t.records c.args.call) c.self.view_is) ∙ get_records c.self.inside.entries.entries c.args.call
    ∙ ap call_kept c.in_err-insert.ensures.absent in
    err_holds c.from_residual.result absent

pub returns-clause-ok : goal.returns-clause-ok
returns-clause-ok g c =
    kept_written c.self.inside.entries.entries c.insert.new.self.entries c.args.call c.args.entry c.in_ok-insert.ensures.updates.0
    ∙ ap (λ t. with_kept t c.args.call c.args.entry) c.self.view_is
