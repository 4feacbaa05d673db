use Rattle.std.proofs.Common.{refl}
use Rattle.rr_elements.specs.CellDescription.{cell_widths}
use Rattle.rr_elements.specs.Power.{power_widths}
use Rattle.rr_elements.specs.RrCause.{cause_widths}
use Rattle.rr_elements.specs.MeasResults.{results_widths}
use Rattle.rr_elements.proofs.FaultLemmas.{one_length, fields_have_length, one_chan_fault, chan_has_no_fault}
use Rattle.rr_elements.proofs.laws.one_fault.Goals as goal

pub returns : goal.returns
returns c = record {
  cell = record { text = λ v octets fault text. fields_have_length 2 cell_widths _ octets fault refl text; fault = one_length 2 };
  channel = record { text = chan_has_no_fault; fault = one_chan_fault };
  power = record { text = λ v octets fault text. fields_have_length 1 power_widths _ octets fault refl text.1; fault = one_length 1 };
  cause = record { text = λ v octets fault text. fields_have_length 1 cause_widths _ octets fault refl text; fault = one_length 1 };
  results = record { text = λ v octets fault text. fields_have_length 16 results_widths _ octets fault refl text.fields; fault = one_length 16 };
}
