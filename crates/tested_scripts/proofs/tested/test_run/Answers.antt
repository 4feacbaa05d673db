use Rattle.std.proofs.Common.{◌≡◌, Ok, Err, sym, ◌∙◌}
use Rattle.cell_table.specs.declared.fault.Key.TheVariants as key
use Rattle.cell_table.specs.declared.fault.SiteFault.TheVariants.{Missing}
use Rattle.tested_scripts.proofs.tested.test_run.Goals as goal

pub returns-in-Ok-clause-memory : goal.returns-in-Ok-clause-memory
returns-in-Ok-clause-memory g c no_memory blank =
    let bad : Err (Missing key.Handover) ≡ Ok c.in-Ok.sites = sym (c.read_sites.ensures.blank blank) ∙ c.in-Ok.is in
    cc
