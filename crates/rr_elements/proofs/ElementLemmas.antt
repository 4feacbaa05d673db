-- Texts of the short elements: each is read as its value, and what is written is a text.
use Rattle.std.proofs.Common.{◌≡◌, ◌∙◌, ℕ, ◌+◌, ◌*◌, ◌/◌, ◌%◌, ◌^◌, ◌<◌, List, length, refl, ap, arith, Ok}
use Rattle.rr_elements.specs.CellDescription.{Cell, CellFits, IsCellText, cell_widths, cell_numbers, cell_text}
use Rattle.rr_elements.specs.ChanDescription.{Chan, ChanFits, IsChanText, chan_widths, chan_numbers, chan_text}
use Rattle.rr_elements.specs.Power.{PowerCommand, PowerFits, IsPowerText, power_widths, power_numbers, power_text}
use Rattle.rr_elements.specs.RrCause.{IsCauseText, cause_widths, cause_numbers, cause_text}
use Rattle.rr_elements.specs.declared.cause.RrCause.{RrCause}
use Rattle.rr_elements.proofs.Readers.{cell_of, cell_said, chan_of, chan_with, chan_said, power_of, power_said, cause_of, cause_said}
use Rattle.octet_elements.proofs.ChannelTypeLemmas.{sub_again, type_below}
use Rattle.octet_elements.proofs.FieldLemmas.{flag-one, flag_below, AreFields-field_octets}

pub cell-said : (v : Cell) (octets : List ℕ) → IsCellText v octets → cell_said octets ≡ Ok v
cell-said v octets text =
    let bits : 8 * length octets ≡ 16 = text.len in
    let two : length octets ≡ 2 = omega arith in
    let joined : 256 * (v.arfcn / 256) + v.arfcn % 256 ≡ v.arfcn = omega arith in
    rw two (ap cell_of text.pieces ∙ ap (λ a. Ok (record { arfcn = a; ncc = v.ncc; bcc = v.bcc })) joined)

pub cell-text : (v : Cell) → CellFits v → IsCellText v (cell_text v)
cell-text v fits =
    AreFields-field_octets cell_widths (cell_numbers v) (omega (arith, fits.arfcn), (fits.ncc, (fits.bcc, (omega arith, tt)))) refl

pub chan-said : (v : Chan) (octets : List ℕ) → IsChanText v octets → chan_said octets ≡ Ok v
chan-said v octets text =
    let bits : 8 * length octets ≡ 24 = text.1.len in
    let three : length octets ≡ 3 = omega arith in
    let joined : 256 * (v.carrier / 256) + v.carrier % 256 ≡ v.carrier = omega arith in
    rw three (ap chan_of text.1.pieces ∙ ap (λ found. chan_with found v.tn v.tsc 0 (256 * (v.carrier / 256) + v.carrier % 256)) (sub_again v.sub) ∙ ap (λ a. Ok (record { tn = v.tn; sub = v.sub; tsc = v.tsc; carrier = a })) joined)

pub chan-text : (v : Chan) → ChanFits v → IsChanText v (chan_text v)
chan-text v fits =
    (0, AreFields-field_octets chan_widths (chan_numbers 0 v) (type_below v.sub, (fits.tn, (fits.tsc, (omega arith, (omega arith, (omega (arith, fits.carrier), (omega arith, tt))))))) refl)

pub power-said : (v : PowerCommand) (octets : List ℕ) → IsPowerText v octets → power_said octets ≡ Ok v
power-said v octets text =
    let bits : 8 * length octets ≡ 8 = text.1.len in
    let one : length octets ≡ 1 = omega arith in
    rw one (ap power_of text.1.pieces ∙ ap (λ a. Ok (record { atc = a; level = v.level })) (flag-one v.atc))

pub power-text : (v : PowerCommand) → PowerFits v → IsPowerText v (power_text v)
power-text v fits =
    (0, AreFields-field_octets power_widths (power_numbers 0 v) (flag_below v.atc, (omega arith, (fits, tt))) refl)

pub cause-said : (v : RrCause) (octets : List ℕ) → IsCauseText v octets → cause_said octets ≡ Ok v
cause-said v octets text =
    let bits : 8 * length octets ≡ 8 = text.len in
    let one : length octets ≡ 1 = omega arith in
    rw one (ap cause_of text.pieces)

pub cause-text : (v : RrCause) → v.0 < 2 ^ 8 → IsCauseText v (cause_text v)
cause-text v fits = AreFields-field_octets cause_widths (cause_numbers v) (fits, tt) refl
