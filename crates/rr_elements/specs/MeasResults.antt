-- Measurement Results (TS 44.018 section 10.5.2.20), without an identifier: 128 bits.
use Rattle.std.specs.Prelude.{◌≡◌, ℕ, ◌+◌, ◌-◌, ◌^◌, ◌<◌, ◌==◌, if◌then◌else◌, not, List, [], ◌∷◌, ◌++◌, length, take, drop, replicate, flat_map, All}
use Rattle.octet_elements.specs.Bits.{repeated_widths}
use Rattle.octet_elements.specs.Fields.{AreFields, field_octets, flag}
use Rattle.rr_elements.specs.declared.measurement.MeasHead.{MeasHead}
use Rattle.rr_elements.specs.declared.measurement.Ncell.{Ncell}

-- what a mobile measured: the fields before the neighbours, and the neighbours
pub record Results : Type 0 where
  pub head : MeasHead
  pub neighbours : List Ncell

-- how many neighbours stand there: 7 means that nothing is said of them
abbrev pub used_count : ℕ → ℕ
used_count count = if count == 7 then 0 else count

-- each field has its bits
pub record HeadFits (h : MeasHead) : Type 0 where
  pub full : h.full < 2 ^ 6
  pub sub : h.sub < 2 ^ 6
  pub qfull : h.qfull < 2 ^ 3
  pub qsub : h.qsub < 2 ^ 3
  pub count : h.count < 2 ^ 3

pub record NcellFits (n : Ncell) : Type 0 where
  pub level : n.level < 2 ^ 6
  pub position : n.position < 2 ^ 5
  pub bsic : n.bsic < 2 ^ 6

-- each field has its bits, and there are as many neighbours as the count says
pub record ResultsFit (v : Results) : Type 0 where
  pub head : HeadFits v.head
  pub each : All NcellFits v.neighbours
  pub count : length v.neighbours ≡ used_count v.head.count

-- BA-USED, DTX-USED, RXLEV-FULL, 3G-BA-USED, MEAS-VALID, RXLEV-SUB, SI23-BA-USED, RXQUAL-FULL, RXQUAL-SUB, NO-NCELL-M
abbrev pub head_widths : List ℕ
head_widths = 1 ∷ 1 ∷ 6 ∷ 1 ∷ 1 ∷ 6 ∷ 1 ∷ 3 ∷ 3 ∷ 3 ∷ []

-- RXLEV-NCELL, BCCH-FREQ-NCELL, BSIC-NCELL
abbrev pub ncell_widths : List ℕ
ncell_widths = 6 ∷ 5 ∷ 6 ∷ []

-- six neighbours follow the head
abbrev pub results_widths : List ℕ
results_widths = head_widths ++ repeated_widths 6 ncell_widths

-- MEAS-VALID is 0 where the results are valid
abbrev pub head_numbers : MeasHead → List ℕ
head_numbers h =
    flag h.ba ∷ flag h.dtx ∷ h.full ∷ flag h.ba3g ∷ flag (not h.valid) ∷ h.sub ∷ flag h.si23 ∷ h.qfull ∷ h.qsub ∷ h.count ∷ []

abbrev pub ncell_numbers : Ncell → List ℕ
ncell_numbers n = n.level ∷ n.position ∷ n.bsic ∷ []

-- the neighbours that are in use, and then the others
abbrev pub results_numbers : Results → List Ncell → List ℕ
results_numbers v others = head_numbers v.head ++ flat_map ncell_numbers (v.neighbours ++ others)

-- the octets are a text of the value, whatever stands in the places that are not in use
pub record IsResultsText (v : Results) (octets : List ℕ) : Type 0 where
  pub others : List Ncell
  pub count : length v.neighbours ≡ used_count v.head.count
  pub six : length v.neighbours + length others ≡ 6
  pub fields : AreFields results_widths (results_numbers v others) octets

-- a place that is not in use is written 0
abbrev pub no_ncell : Ncell
no_ncell = record { level = 0; position = 0; bsic = 0 }

-- the text that is written
abbrev pub results_text : Results → List ℕ
results_text v = field_octets results_widths (results_numbers v (replicate (6 - length v.neighbours) no_ncell))

-- how the value is kept: six places, of which those that are not in use are 0
pub record IsKept (head : MeasHead) (places : List Ncell) : Type 0 where
  pub fits : ResultsFit (record { head = head; neighbours = take (used_count head.count) places })
  pub six : length places ≡ 6
  pub others : drop (used_count head.count) places ≡ replicate (6 - used_count head.count) no_ncell
