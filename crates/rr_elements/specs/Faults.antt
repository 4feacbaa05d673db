-- What is wrong with octets that are no text of an element.
use Rattle.std.specs.Prelude.{◌≡◌, ◌≢◌, ℕ, List, length}
use Rattle.rr_elements.specs.declared.fault.ElementFault.{ElementFault}
use Rattle.rr_elements.specs.declared.fault.ElementFault.TheVariants.{Length, BadType, Hopping, BadRange}

-- Any octets are a text, where they are this many; so their one fault is another number of them.
abbrev pub HasOtherLength : ℕ → List ℕ → ElementFault → Type 0
HasOtherLength count octets Length = length octets ≢ count
HasOtherLength count octets BadType = ⊥
HasOtherLength count octets Hopping = ⊥
HasOtherLength count octets BadRange = ⊥

-- A text has no fault, and no octets have two.
pub record FaultIsUnique {A F : Type 0} (IsText : A → List ℕ → Type 0) (HasFault : List ℕ → F → Type 0) : Type 0 where
  pub text : (v : A) (octets : List ℕ) (fault : F) → IsText v octets → HasFault octets fault → ⊥
  pub fault : (octets : List ℕ) (f g : F) → HasFault octets f → HasFault octets g → f ≡ g
