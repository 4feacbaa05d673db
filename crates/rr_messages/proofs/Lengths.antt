-- How many octets a message is written as, whatever its fields are.
use Rattle.std.proofs.Common.{◌≡◌, ◌∙◌, ℕ, ◌+◌, ◌*◌, ◌-◌, ◌/◌, ◌≤◌, List, [], ◌∷◌, ◌++◌, length, replicate, flat_map, refl, ap, arith}
use Rattle.std.proofs.lemmas.List.{length-append, length-replicate}
use Rattle.octet_elements.specs.Bits.{bits, total, bits_written}
use Rattle.octet_elements.specs.Fields.{field_octets}
use Rattle.octet_elements.proofs.BitLemmas.{length-bits, length-octets_of}
use Rattle.rr_elements.specs.CellDescription.{Cell, cell_widths, cell_numbers, cell_text}
use Rattle.rr_elements.specs.ChanDescription.{Chan, chan_widths, chan_numbers, chan_text}
use Rattle.rr_elements.specs.Power.{PowerCommand, power_widths, power_numbers, power_text}
use Rattle.rr_elements.specs.RrCause.{cause_widths, cause_numbers, cause_text}
use Rattle.rr_elements.specs.MeasResults.{Results, head_numbers, ncell_numbers, results_widths, results_numbers, results_text, no_ncell}
use Rattle.rr_elements.specs.declared.cause.RrCause.{RrCause}
use Rattle.rr_elements.specs.declared.measurement.Ncell.{Ncell}
use Rattle.rr_messages.specs.declared.message.Rr.{Rr}
use Rattle.rr_messages.specs.declared.message.Rr.TheVariants.{HandoverCommand, HandoverComplete, HandoverFailure, ChannelRelease, PhysicalInformation, MeasurementReport}
use Rattle.rr_messages.specs.Kind.{part_len}
use Rattle.rr_messages.specs.Rr.{kind_of, part_text, rr_text, text_len}

-- where there is a number for each width, so many bits are written
bits_length : (ws ns : List ℕ) → length ws ≤ length ns → length (bits_written ws ns) ≡ total ws
bits_length [] ns few = refl
bits_length (w ∷ ws) [] few = absurd (omega arith)
bits_length (w ∷ ws) (n ∷ ns) few =
    let here = length-bits w n in
    let rest = bits_length ws ns (omega arith) in
    length-append (bits w n) (bits_written ws ns) ∙ omega arith

field_length : (ws ns : List ℕ) (k : ℕ) → length ws ≤ length ns → total ws ≡ 8 * k → length (field_octets ws ns) ≡ k
field_length ws ns k few whole = length-octets_of (bits_written ws ns) ∙ ap (λ b. b / 8) (bits_length ws ns few ∙ whole) ∙ omega arith

cell_length : (v : Cell) → length (cell_text v) ≡ 2
cell_length v = field_length cell_widths (cell_numbers v) 2 (omega arith) refl

chan_length : (v : Chan) → length (chan_text v) ≡ 3
chan_length v = field_length chan_widths (chan_numbers 0 v) 3 (omega arith) refl

power_length : (v : PowerCommand) → length (power_text v) ≡ 1
power_length v = field_length power_widths (power_numbers 0 v) 1 (omega arith) refl

cause_length : (v : RrCause) → length (cause_text v) ≡ 1
cause_length v = field_length cause_widths (cause_numbers v) 1 (omega arith) refl

ncells_length : (cells : List Ncell) → length (flat_map ncell_numbers cells) ≡ 3 * length cells
ncells_length [] = refl
ncells_length (c ∷ cs) = let rest = ncells_length cs in omega arith

results_length : (v : Results) → length (results_text v) ≡ 16
results_length v =
    let others = replicate (6 - length v.neighbours) no_ncell in
    let cells = v.neighbours ++ others in
    let six = length-append v.neighbours others in
    let left : length others ≡ 6 - length v.neighbours = length-replicate (6 - length v.neighbours) no_ncell in
    let three = ncells_length cells in
    let ten : length (head_numbers v.head) ≡ 10 = refl in
    let all : length (results_numbers v others) ≡ length (head_numbers v.head) + length (flat_map ncell_numbers cells) = length-append (head_numbers v.head) (flat_map ncell_numbers cells) in
    let widths : length results_widths ≡ 28 = refl in
    field_length results_widths (results_numbers v others) 16 (omega arith) refl

part_length : (v : Rr) → length (part_text v) ≡ part_len (kind_of v)
part_length (HandoverCommand cell channel reference power) =
    let two = cell_length cell in
    let three = chan_length channel in
    let one = power_length power in
    length-append (cell_text cell ++ chan_text channel) (reference ∷ power_text power) ∙ ap (λ k. k + length (reference ∷ power_text power)) (length-append (cell_text cell) (chan_text channel)) ∙ omega arith
part_length (HandoverComplete cause) = cause_length cause
part_length (HandoverFailure cause) = cause_length cause
part_length (ChannelRelease cause) = cause_length cause
part_length (PhysicalInformation advance) = refl
part_length (MeasurementReport results) = results_length results

pub rr_length : (v : Rr) → length (rr_text v) ≡ text_len v
rr_length v = let part = part_length v in omega arith
