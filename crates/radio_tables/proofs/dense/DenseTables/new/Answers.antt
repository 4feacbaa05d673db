use Rattle.std.proofs.Common.{length, sym, ap, ◌∙◌, subst}
use Rattle.std.specs.FinMap as map
use Rattle.std.specs.FinMap.{len-empty}
use Rattle.std.specs.Ordering.{nat_cmp}
use Rattle.attempt_journal.specs.declared.Timer.{Timer}
use Rattle.cell_table.specs.Site.{TrafficLiesWithin}
use Rattle.radio_tables.specs.Dense.{armed_of}
use Rattle.radio_tables.proofs.DenseFacts.{state_in, no_records, none_armed}
use Rattle.radio_tables.proofs.dense.DenseTables.new.Goals as goal

pub invariant_of-result : goal.invariant_of-result
invariant_of-result g c =
    let channels = c.in_ok-channels.ensures.free in
    let calls = c.in_ok-calls.ensures.empty in
    let references = c.in_ok-references.ensures.unused in
    record {
      rows = ap (λ r. r.cells) references ∙ c.cells-cells.ensures.value ∙ ap (λ s. length s.cells) c.deref.ensures ∙ sym (ap (λ t. length t.site.cells) channels);
      lies = subst TrafficLiesWithin (c.deref.ensures ∙ sym (ap (λ t. t.site) channels)) c.cells-cells.ensures.traffic;
      counted = sym (ap (λ m. map.len (armed_of m)) calls ∙ ap map.len none_armed ∙ len-empty nat_cmp Timer);
    }

pub returns : goal.returns
returns g c =
    let channels = c.in_ok-channels.ensures.free in
    let calls = c.in_ok-calls.ensures.empty in
    let references = c.in_ok-references.ensures.unused in
    record {
      empty = (λ i. state_in (channels i) (calls i) ((references i).users))
          ∙ (λ i. record { site = c.args.site.value; channels = map.empty; calls = no_records i; references = map.empty; timers = none_armed i });
    }
