-- The elements of notes: identifiers and forms. Ours, of no standard.
use Rattle.std.specs.Prelude.{ℕ, Bool, false, if◌then◌else◌, ◌==◌, ◌||◌, List, [], ◌∷◌}
use Rattle.octet_elements.specs.declared.form.Form.TheVariants.{Fixed, Counted}
use Rattle.octet_elements.specs.Elements.{Forms}
use Rattle.octet_elements.specs.declared.values.ValueFault.{ValueFault}
use Rattle.octet_elements.specs.declared.values.ValueFault.TheVariants.{Absent, Bad}
use Rattle.link_states.specs.declared.fault.StateFault.{StateFault}
use Rattle.link_states.specs.declared.fault.StateFault.TheVariants as fault

-- the identifiers: of a channel what its station was told, its link, its bar's kind and call, whether the bar's clock runs, whether it is to
-- be barred, whether a failure is kept; of a call whether its mobile is away, its reports are heeded, it came from the air, and its timer
abbrev pub known : List ℕ
known = 1 ∷ 2 ∷ 3 ∷ 4 ∷ 5 ∷ 6 ∷ 7 ∷ 8 ∷ 9 ∷ 10 ∷ 11 ∷ []

abbrev pub is_one_of : ℕ → List ℕ → Bool
is_one_of i [] = false
is_one_of i (j ∷ js) = (i == j) || is_one_of i js

-- these have one octet
abbrev pub one_octet : List ℕ
one_octet = 1 ∷ 2 ∷ 3 ∷ 5 ∷ 6 ∷ 7 ∷ 8 ∷ 9 ∷ 10 ∷ 11 ∷ []

-- a number has two, and an element that isn't known a length of one octet
abbrev pub states : Forms
states i = if is_one_of i one_octet then Fixed 1 else if i == 4 then Fixed 2 else Counted

-- the fault that a note has by its element
abbrev pub fault_of : ValueFault → StateFault
fault_of (Absent i) = fault.Missing i
fault_of (Bad i) = fault.Bad i
