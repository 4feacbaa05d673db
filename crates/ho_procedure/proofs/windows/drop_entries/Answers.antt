use Rattle.std.proofs.Common.{rules, not}
use Rattle.std.proofs.lemmas.Fn.{filter_same}
use Rattle.ho_procedure.specs.Windows.{is_of}
use Rattle.ho_procedure.proofs.windows.drop_entries.Goals as goal

pub returns-clause-others : goal.returns-clause-others
returns-clause-others g c = filter_same _ (λ e. not (is_of c.args.call e)) _ (λ x b f' says. search rules) _ _ c.retain.ensures.filtered
