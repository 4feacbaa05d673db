-- RR Cause (TS 44.018 section 10.5.2.31), without an identifier: any octet.
use Rattle.std.specs.Prelude.{ℕ, List, [], ◌∷◌}
use Rattle.octet_elements.specs.Fields.{AreFields, field_octets}
use Rattle.rr_elements.specs.declared.cause.RrCause.{RrCause}

-- normal event
abbrev pub normal_event : ℕ
normal_event = 0

-- abnormal release, unspecified
abbrev pub abnormal_release : ℕ
abnormal_release = 1

abbrev pub cause_widths : List ℕ
cause_widths = 8 ∷ []

abbrev pub cause_numbers : RrCause → List ℕ
cause_numbers v = v.0 ∷ []

-- the octets are a text of the value
abbrev pub IsCauseText : RrCause → List ℕ → Type 0
IsCauseText v octets = AreFields cause_widths (cause_numbers v) octets

-- the text that is written
abbrev pub cause_text : RrCause → List ℕ
cause_text v = field_octets cause_widths (cause_numbers v)
