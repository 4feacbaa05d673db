use Rattle.std.proofs.Common.{◌≡◌, Ok, Err, IsSome, is_some, inr, sym, ◌∙◌, subst}
use Rattle.cell_table.specs.declared.fault.Key.TheVariants as key
use Rattle.cell_table.specs.declared.fault.SiteFault.TheVariants.{Missing}
use Rattle.lab_script.specs.Script.{first_unreadable}
use Rattle.lab_runs.specs.declared.run.Status.TheVariants.{Refused}
use Rattle.lab_runs.proofs.CourseFacts.{is_there_still}
use Rattle.lab_runs.proofs.run.run_for.Goals as goal

-- a site of white space and comments alone isn't read
pub returns-in_ok-run-in-Ok-clause-memory : goal.returns-in_ok-run-in-Ok-clause-memory
returns-in_ok-run-in-Ok-clause-memory g c no_memory blank =
    let bad : Err (Missing key.Handover) ≡ Ok c.in-Ok.sites = sym (c.read_sites.ensures.blank blank) ∙ c.in-Ok.is in
    cc

pub returns-in_err-run-in-Ok-clause-memory : goal.returns-in_err-run-in-Ok-clause-memory
returns-in_err-run-in-Ok-clause-memory g c no_memory blank =
    let bad : Err (Missing key.Handover) ≡ Ok c.in-Ok.sites = sym (c.read_sites.ensures.blank blank) ∙ c.in-Ok.is in
    cc

-- where nothing was run over sites, a line can't be read
pub returns-in_ok-run-in-Ok-clause-refused : goal.returns-in_ok-run-in-Ok-clause-refused
returns-in_ok-run-in-Ok-clause-refused g c ended =
    let refused : c.outcome_of.result ≡ Refused = cc in
    let peer : is_some c.in-Ok.sites.peer ≡ is_some c.args.peer = c.in-Ok.ensures.peer ∙ is_there_still (λ text. text.now) c.args.peer in
    inr (inr (subst (λ there. IsSome (first_unreadable there c.args.script.now)) peer (c.in_ok-run-in-Ok.ensures.refused (c.outcome_of.ensures.refused refused))))
