use Rattle.std.proofs.Common.{◌∙◌}
use Rattle.toml.specs.View.{view}
use Rattle.cell_table.proofs.Kept.{site_kept}
use Rattle.cell_table.proofs.site.tables_of.Goals as goal

pub returns : goal.returns
returns c = record { read = c.kept_tables.ensures.read ∙ site_kept (view c.args.document.now) }
