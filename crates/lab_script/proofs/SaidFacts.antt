-- Facts of what a line says.
use Rattle.std.proofs.Common.{◌≡◌, ◌≢◌, ℕ, List, Option, Some, None, option_map, option_and_then, refl, sym, ap, ◌∙◌, Bor}
use Rattle.lab_script.specs.declared.side.Side.{Side}
use Rattle.lab_script.specs.declared.forms.Form.{Form}
use Rattle.lab_script.specs.declared.forms.Slot.{Slot}
use Rattle.lab_script.specs.declared.values.Values.{Values}
use Rattle.lab_script.specs.declared.said.Said.{Said}
use Rattle.lab_script.specs.declared.said.Said.TheVariants as saying
use Rattle.lab_script.specs.declared.script.Given.{Given}
use Rattle.lab_script.specs.declared.script.Given.TheVariants.{Attach}
use Rattle.lab_script.specs.Sides.{side_of, text_of}
use Rattle.lab_script.specs.Words.{first_word, behind_word, abis_octets, a_octets}
use Rattle.lab_script.specs.Forms.{slots_of, form_of}
use Rattle.lab_script.specs.Values.{values_of}
use Rattle.lab_script.specs.Said.{said_of, said_by, text_said, line_said, given}

-- what a line says with its message, by what its words say
abbrev pub said_with : Side → Form → Values × Bor (List ℕ) → Option (Said × List ℕ)
said_with side form r = option_map (λ s. (s, r.1.now)) (said_of side form r.0 r.1.now)

pub said_by-values : (side : Side) (form : Form) (slots : List Slot) (rest : Option (List ℕ)) (r : Option (Values × Bor (List ℕ)))
    → slots ≡ slots_of form → option_map (λ (x : Values × Bor (List ℕ)). (x.0, x.1.now)) r ≡ values_of slots rest
    → said_by side rest form ≡ option_and_then (said_with side form) r
unfolding said_by
said_by-values side form slots rest r is e =
    ap (option_and_then (λ (x : Values × List ℕ). option_map (λ s. (s, x.1)) (said_of side form x.0 x.1))) (sym (e ∙ ap (λ (s : List Slot). values_of s rest) is)) ∙ by_values r
  where
    by_values : (r : Option (Values × Bor (List ℕ)))
        → option_and_then (λ (x : Values × List ℕ). option_map (λ s. (s, x.1)) (said_of side form x.0 x.1)) (option_map (λ (x : Values × Bor (List ℕ)). (x.0, x.1.now)) r) ≡ option_and_then (said_with side form) r
    by_values None = refl
    by_values (Some x) = refl

-- and of its text
pub line_said-text : (line text : List ℕ) (side : Side) → text ≡ text_of line → side ≡ side_of line
    → line_said line ≡ option_and_then (said_by side (behind_word text)) (form_of (first_word text) (behind_word text))
unfolding line_said
line_said-text line text side is for = ap (text_said (side_of line)) (sym is) ∙ ap (λ (s : Side). text_said s text) (sym for)

-- what is given by what a line says attaches no simulators
octets_attach_none : {A : Type 0} (f : List ℕ → Given A) → ((octets : List ℕ) → f octets ≢ Attach) → (octets : Option (List ℕ)) → option_map f octets ≢ Some Attach
octets_attach_none f none None e = absurd cc
octets_attach_none f none (Some octets) e = let same : f octets ≡ Attach = cc in none octets same

said_attaches_none : {A : Type 0} (message : List ℕ) (s : Said) → given {A = A} message s ≢ Some Attach
said_attaches_none message (saying.Operator line) e = absurd cc
said_attaches_none message (saying.Expiry call timer) e = absurd cc
said_attaches_none message (saying.Abis cell trx) e = octets_attach_none _ (λ octets same. absurd cc) (abis_octets message) e
said_attaches_none message (saying.A call) e = octets_attach_none _ (λ octets same. absurd cc) (a_octets message) e
said_attaches_none message (saying.Set setting) e = absurd cc
said_attaches_none message (saying.HangUp call) e = absurd cc
said_attaches_none message (saying.Ask asked) e = absurd cc
said_attaches_none message (saying.MobileOf call habit) e = absurd cc
said_attaches_none message (saying.Restart restart) e = absurd cc

pub line_attaches_none : {A : Type 0} (line : List ℕ) → option_and_then (λ (r : Said × List ℕ). given {A = A} r.1 r.0) (line_said line) ≢ Some Attach
line_attaches_none {A = A} line = by_said (line_said line)
  where
    by_said : (r : Option (Said × List ℕ)) → option_and_then (λ (r : Said × List ℕ). given {A = A} r.1 r.0) r ≢ Some Attach
    by_said None e = absurd cc
    by_said (Some (s, message)) e = said_attaches_none message s e
