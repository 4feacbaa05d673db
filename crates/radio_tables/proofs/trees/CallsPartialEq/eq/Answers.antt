use Rattle.std.proofs.Common.{sym, ap, ◌∙◌}
use Rattle.std.specs.FinMap as map
use Rattle.std.specs.Cmp.{nat_cmp_total}
use Rattle.radio_tables.specs.Same.{is_same}
use Rattle.radio_tables.specs.Entries.{call_table_code}
use Rattle.radio_tables.proofs.TableFacts.{len_listed}
use Rattle.radio_tables.proofs.EntryFacts.{records_len}
use Rattle.radio_tables.proofs.SameFacts.{calls_eq, sizes_differ}
use Rattle.radio_tables.proofs.trees.CallsPartialEq.eq.Goals as goal

pub returns-then-len : goal.returns-then-len
returns-then-len g c =
    c.eq.ensures ∙ calls_eq c.self.inside.entries c.other.inside.entries c.len.ensures.ordered c.len-2.ensures.ordered
    ∙ (λ i. is_same call_table_code (c.self.view_is i) (c.other.view_is i))

pub returns-else-len : goal.returns-else-len
returns-else-len g c =
    sizes_differ call_table_code c.args.self.now c.args.other.now (λ t. map.len t.records) c.len.result c.len-2.result
    (c.len.ensures.len ∙ sym (len_listed nat_cmp_total c.self.inside.entries c.len.ensures.ordered) ∙ sym (records_len c.self.inside.entries.entries) ∙ ap (λ t. map.len t.records) c.self.view_is)
    (c.len-2.ensures.len ∙ sym (len_listed nat_cmp_total c.other.inside.entries c.len-2.ensures.ordered) ∙ sym (records_len c.other.inside.entries.entries) ∙ ap (λ t. map.len t.records) c.other.view_is)
    c.if-len.false
