-- Elements of a message: an identifier octet, and a value that is delimited by the identifier's form
-- (TS 48.058 clause 9.3, TS 48.008 clause 3.2.2).
use Rattle.std.specs.Prelude.{◌≡◌, ℕ, ◌<◌, ◌/◌, ◌%◌, ◌^◌, if◌then◌else◌, ◌==◌, zero, suc, List, [], ◌∷◌, ◌++◌, length, flat_map, Option, Some, None}
use Rattle.std.specs.List.{AllByRecursion}
use Rattle.octet_elements.specs.declared.form.Form.{Form}
use Rattle.octet_elements.specs.declared.form.Form.TheVariants.{Fixed, Counted, LongCounted}

-- an identifier and its value
abbrev pub Element : Type 0
Element = ℕ × List ℕ

-- the form of each identifier
abbrev pub Forms : Type 0
Forms = ℕ → Form

-- the octets of an element: identifier, length where the form has one, value
abbrev pub octets_by_form : Form → ℕ → List ℕ → List ℕ
octets_by_form (Fixed n) i v = i ∷ v
octets_by_form Counted i v = i ∷ length v ∷ v
octets_by_form LongCounted i v = i ∷ length v / 256 ∷ length v % 256 ∷ v

abbrev pub element_octets : Forms → Element → List ℕ
element_octets forms e = octets_by_form (forms e.0) e.0 e.1

-- the octets of elements, one after the other
abbrev pub all_octets : Forms → List Element → List ℕ
all_octets forms es = flat_map (element_octets forms) es

-- the values that the form can delimit
abbrev pub FitsAs : Form → List ℕ → Type 0
FitsAs (Fixed n) v = length v ≡ n
FitsAs Counted v = length v < 256
FitsAs LongCounted v = length v < 2 ^ 16

abbrev pub Fits : Forms → Element → Type 0
Fits forms e = FitsAs (forms e.0) e.1

-- no element begins the octets
abbrev pub IsCut : Forms → List ℕ → Type 0
IsCut forms octets = (e : Element) (rest : List ℕ) → Fits forms e → octets ≡ element_octets forms e ++ rest → ⊥

-- the octets are these elements, each whole, and nothing else
pub record AreElements (forms : Forms) (es : List Element) (octets : List ℕ) : Type 0 where
  pub each : AllByRecursion (Fits forms) es
  pub spelling : octets ≡ all_octets forms es

-- the octets are these elements, each whole, and then some octets that no element begins
pub record AreTorn (forms : Forms) (es : List Element) (rest octets : List ℕ) : Type 0 where
  pub each : AllByRecursion (Fits forms) es
  pub spelling : octets ≡ all_octets forms es ++ rest
  pub some : 0 < length rest
  pub cut : IsCut forms rest

-- the octets are torn at this offset: where the first element that isn't whole begins
abbrev pub IsTornAt : Forms → List ℕ → ℕ → Type 0
IsTornAt forms octets at = (es : List Element) × (rest : List ℕ) × AreTorn forms es rest octets × (at ≡ length (all_octets forms es))

-- the values of the elements with the identifier, in order
abbrev pub values_of : ℕ → List Element → List (List ℕ)
values_of i [] = []
values_of i (e ∷ es) = if e.0 == i then e.1 ∷ values_of i es else values_of i es

-- the value at a place
abbrev pub nth : ℕ → List (List ℕ) → Option (List ℕ)
nth n [] = None
nth zero (v ∷ vs) = Some v
nth (suc n) (v ∷ vs) = nth n vs

-- the value of the first element with the identifier
abbrev pub first_of : ℕ → List Element → Option (List ℕ)
first_of i es = nth 0 (values_of i es)

-- the value of the second element with the identifier
abbrev pub second_of : ℕ → List Element → Option (List ℕ)
second_of i es = nth 1 (values_of i es)

-- octets are elements in one way only, torn or whole
abbrev pub SplitIsUnique : Type 0
SplitIsUnique = (forms : Forms) (es fs : List Element) (x y : List ℕ) → AllByRecursion (Fits forms) es → AllByRecursion (Fits forms) fs → IsCut forms x → IsCut forms y → all_octets forms es ++ x ≡ all_octets forms fs ++ y → (es ≡ fs) × (x ≡ y)

-- octets that begin with an element begin with no other
abbrev pub SpellingIsUnique : Type 0
SpellingIsUnique = (forms : Forms) (e f : Element) (x y : List ℕ) → Fits forms e → Fits forms f → element_octets forms e ++ x ≡ element_octets forms f ++ y → (e ≡ f) × (x ≡ y)
