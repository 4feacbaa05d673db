-- Readers of the elements, field by field: two texts, or a text and a fault, of the same octets are compared by them.
use Rattle.std.specs.Prelude.{ℕ, ◌+◌, ◌*◌, ◌==◌, if◌then◌else◌, List, [], ◌∷◌, length, take, Option, Some, None, Result, Ok, Err}
use Rattle.rr_elements.specs.declared.cause.RrCause.{RrCause}
use Rattle.rr_elements.specs.declared.fault.ElementFault.{ElementFault}
use Rattle.rr_elements.specs.declared.fault.ElementFault.TheVariants.{Length, BadType, Hopping}
use Rattle.rr_elements.specs.declared.measurement.MeasHead.{MeasHead}
use Rattle.rr_elements.specs.declared.measurement.Ncell.{Ncell}
use Rattle.octet_elements.specs.Bits.{bits_of, cut}
use Rattle.octet_elements.specs.ChannelTypes.{sub_of}
use Rattle.timeslots.specs.declared.Sub.{Sub}
use Rattle.rr_elements.specs.CellDescription.{Cell, cell_widths}
use Rattle.rr_elements.specs.ChanDescription.{Chan, chan_widths}
use Rattle.rr_elements.specs.Power.{PowerCommand, power_widths}
use Rattle.rr_elements.specs.RrCause.{cause_widths}
use Rattle.rr_elements.specs.MeasResults.{Results, results_widths, used_count}

abbrev pub cell_of : List ℕ → Result Cell ElementFault
cell_of (high ∷ ncc ∷ bcc ∷ low ∷ []) = Ok (record { arfcn = 256 * high + low; ncc = ncc; bcc = bcc })
cell_of _ = Err Length

abbrev pub cell_said : List ℕ → Result Cell ElementFault
cell_said octets = if length octets == 2 then cell_of (cut cell_widths (bits_of octets)) else Err Length

abbrev pub chan_with : Option Sub → ℕ → ℕ → ℕ → ℕ → Result Chan ElementFault
chan_with None tn tsc hopping carrier = Err BadType
chan_with (Some sub) tn tsc hopping carrier = if hopping == 0 then Ok (record { tn = tn; sub = sub; tsc = tsc; carrier = carrier }) else Err Hopping

abbrev pub chan_of : List ℕ → Result Chan ElementFault
chan_of (kind ∷ tn ∷ tsc ∷ hopping ∷ spare ∷ high ∷ low ∷ []) = chan_with (sub_of kind) tn tsc hopping (256 * high + low)
chan_of _ = Err Length

abbrev pub chan_said : List ℕ → Result Chan ElementFault
chan_said octets = if length octets == 3 then chan_of (cut chan_widths (bits_of octets)) else Err Length

abbrev pub power_of : List ℕ → Result PowerCommand ElementFault
power_of (atc ∷ spare ∷ level ∷ []) = Ok (record { atc = atc == 1; level = level })
power_of _ = Err Length

abbrev pub power_said : List ℕ → Result PowerCommand ElementFault
power_said octets = if length octets == 1 then power_of (cut power_widths (bits_of octets)) else Err Length

abbrev pub cause_of : List ℕ → Result RrCause ElementFault
cause_of (cause ∷ []) = Ok (record { 0 = cause })
cause_of _ = Err Length

abbrev pub cause_said : List ℕ → Result RrCause ElementFault
cause_said octets = if length octets == 1 then cause_of (cut cause_widths (bits_of octets)) else Err Length

abbrev pub ncells_of : List ℕ → List Ncell
ncells_of (level ∷ position ∷ bsic ∷ ns) = record { level = level; position = position; bsic = bsic } ∷ ncells_of ns
ncells_of _ = []

abbrev pub results_of : List ℕ → Result Results ElementFault
results_of (ba ∷ dtx ∷ full ∷ ba3g ∷ invalid ∷ sub ∷ si23 ∷ qfull ∷ qsub ∷ count ∷ ns) =
    let head : MeasHead = record { ba = ba == 1; dtx = dtx == 1; full = full; ba3g = ba3g == 1; valid = invalid == 0; sub = sub; si23 = si23 == 1; qfull = qfull; qsub = qsub; count = count } in
    Ok (record { head = head; neighbours = take (used_count count) (ncells_of ns) })
results_of _ = Err Length

unfoldable pub results_said : List ℕ → Result Results ElementFault
results_said octets = if length octets == 16 then results_of (cut results_widths (bits_of octets)) else Err Length
