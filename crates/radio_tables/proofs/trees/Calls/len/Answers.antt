use Rattle.std.proofs.Common.{sym, ◌∙◌, ap}
use Rattle.std.specs.FinMap as map
use Rattle.radio_tables.proofs.TableFacts.{len_listed}
use Rattle.radio_tables.proofs.EntryFacts.{records_len}
use Rattle.std.specs.Cmp.{nat_cmp_total}
use Rattle.radio_tables.proofs.trees.Calls.len.Goals as goal

pub returns : goal.returns
returns g c =
    c.len.ensures.len ∙ sym (len_listed nat_cmp_total c.self.inside.entries c.len.ensures.ordered) ∙ sym (records_len c.self.inside.entries.entries)
    ∙ ap (λ t. map.len t.records) c.self.view_is
