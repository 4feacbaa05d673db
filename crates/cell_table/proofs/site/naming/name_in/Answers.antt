use Rattle.std.proofs.Common.{sym}
use Rattle.cell_table.proofs.NameFacts.{identity_range}
use Rattle.cell_table.proofs.site.naming.name_in.Goals as goal

pub name_of-requires-clause-range : goal.name_of-requires-clause-range
name_of-requires-clause-range c =
    identity_range c.args.tables.now c.requires c.args.neighbour c.in_ok-named.named (sym c.in_ok-named.ensures.value)
