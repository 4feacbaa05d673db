use Rattle.std.proofs.Common.{◌≡◌, Ok, rules}
use Rattle.std.proofs.lemmas.Result.{err_from_is_err_and}
use Rattle.toml.specs.View.{view}
use Rattle.cell_table.specs.SiteFile.{site_of}
use Rattle.cell_table.proofs.SiteFacts.{site_limits}
use Rattle.cell_table.proofs.Refusals.{judged_site_of}
use Rattle.cell_table.proofs.site.Site.of_document.Goals as goal

pub returns-in_err-tables-clause-memory : goal.returns-in_err-tables-clause-memory
returns-in_err-tables-clause-memory g c refused =
    let p = err_from_is_err_and c.from_residual.result c.from_residual.ensures.1 in
    let judged = judged_site_of (view c.args.document.now) in
    absurd (judged.never (cc (p.1, p.2, refused, c.in_err-tables.was, c.tables_of.ensures.read)))

pub site_of_tables-requires : goal.site_of_tables-requires
site_of_tables-requires g c =
    let told : site_of (view c.args.document.now) ≡ Ok c.in_ok-tables.tables = search rules in
    site_limits (view c.args.document.now) c.in_ok-tables.tables told
