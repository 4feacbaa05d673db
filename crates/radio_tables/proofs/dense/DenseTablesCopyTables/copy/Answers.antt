use Rattle.std.proofs.Common.{length, sym, ap, ◌∙◌, subst}
use Rattle.std.specs.FinMap as map
use Rattle.cell_table.specs.Site.{TrafficLiesWithin}
use Rattle.radio_tables.specs.Dense.{armed_of}
use Rattle.radio_tables.proofs.DenseFacts.{state_in}
use Rattle.radio_tables.proofs.dense.DenseTablesCopyTables.copy.Goals as goal

pub invariant_of-result : goal.invariant_of-result
invariant_of-result g c =
    let channels = c.in_ok-channels.ensures.copy in
    let calls = c.in_ok-calls.ensures.copy in
    let references = c.in_ok-references.ensures.copy in
    record {
      rows = ap (λ r. r.cells) references ∙ c.self.invariant.rows ∙ sym (ap (λ t. length t.site.cells) channels);
      lies = subst TrafficLiesWithin (sym (ap (λ t. t.site) channels)) c.self.invariant.lies;
      counted = c.self.invariant.counted ∙ sym (ap (λ m. map.len (armed_of m)) calls);
    }

pub returns : goal.returns
returns g c =
    let channels = c.in_ok-channels.ensures.copy in
    let calls = c.in_ok-calls.ensures.copy in
    let references = c.in_ok-references.ensures.copy in
    record { copy = (λ i. state_in (channels i) (calls i) ((references i).users)) ∙ c.self.view_is }
