use Rattle.std.proofs.Common.{◌≡◌, Some, Err, sym, ◌∙◌, ap, rules}
use Rattle.toml.specs.Parse.{parse_document}
use Rattle.toml.specs.View.{table_view}
use Rattle.toml.proofs.Views.{view-Table}
use Rattle.cell_table.specs.declared.fault.Key.TheVariants as key
use Rattle.cell_table.specs.declared.fault.SiteFault.TheVariants.{Toml, Missing}
use Rattle.cell_table.specs.SiteFile.{site_of, read_site}
use Rattle.cell_table.proofs.Blank.{read_site-blank, blank_answer}
use Rattle.cell_table.proofs.site.Site.read.Goals as goal

pub returns-in-Ok-clause-blank : goal.returns-in-Ok-clause-blank
returns-in-Ok-clause-blank g c blank =
    let read : parse_document c.args.text.now ≡ Some (table_view c.in-Ok.document) = c.in-Ok.ensures.ok in
    let said = rw read at (read_site-blank c.args.text.now blank) in
    let lacks = ap site_of (view-Table c.in-Ok.document) ∙ said in
    blank_answer c.of_document.result _ c.of_document.ensures.described c.of_document.ensures.refused c.of_document.ensures.memory lacks

pub returns-in-Err-2-clause-blank : goal.returns-in-Err-2-clause-blank
returns-in-Err-2-clause-blank g c blank =
    let bad : read_site c.args.text.now ≡ Err Toml = search rules in
    let differ : Err Toml ≡ Err (Missing key.Handover) = sym bad ∙ read_site-blank c.args.text.now blank in
    cc
