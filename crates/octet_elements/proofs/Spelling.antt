-- Octets that begin with an element begin with no other.
use Rattle.std.proofs.Common.{◌≡◌, ℕ, ◌<◌, ◌/◌, ◌%◌, List, [], ◌∷◌, ◌++◌, length, refl, sym, ◌∙◌, ap, arith, subst}
use Rattle.octet_elements.specs.declared.form.Form.{Form}
use Rattle.octet_elements.specs.declared.form.Form.TheVariants.{Fixed, Counted, LongCounted}
use Rattle.octet_elements.specs.Elements.{Element, Forms, octets_by_form, element_octets, FitsAs, Fits, IsCut}

-- fronts of one length in one list are the same
pub same_fronts : (v w x y : List ℕ) → length v ≡ length w → v ++ x ≡ w ++ y → (v ≡ w) × (x ≡ y)
same_fronts [] [] x y long same = (refl, same)
same_fronts [] (b ∷ w) x y long same = absurd (omega arith)
same_fronts (a ∷ v) [] x y long same = absurd (omega arith)
same_fronts (a ∷ v) (b ∷ w) x y long same =
    let head : a ≡ b = cc in
    let tail : v ++ x ≡ w ++ y = cc in
    let rest = same_fronts v w x y (omega arith) tail in
    (λ i. head i ∷ rest.0 i, rest.1)

-- the value has the length that a form fixes, where it fixes one
abbrev pub IsFixedAs : Form → List ℕ → Type 0
IsFixedAs (Fixed n) v = length v ≡ n
IsFixedAs Counted v = Unit {0}
IsFixedAs LongCounted v = Unit {0}

pub fixed : (f : Form) (v : List ℕ) → FitsAs f v → IsFixedAs f v
fixed (Fixed n) v h = h
fixed Counted v h = tt
fixed LongCounted v h = tt

one_value : (f : Form) (i : ℕ) (v w x y : List ℕ) → IsFixedAs f v → IsFixedAs f w → octets_by_form f i v ++ x ≡ octets_by_form f i w ++ y → (v ≡ w) × (x ≡ y)
one_value (Fixed n) i v w x y p q same =
    let values : v ++ x ≡ w ++ y = cc in
    same_fronts v w x y (p ∙ sym q) values
one_value Counted i v w x y p q same =
    let values : v ++ x ≡ w ++ y = cc in
    let count : length v ≡ length w = cc in
    same_fronts v w x y count values
one_value LongCounted i v w x y p q same =
    let values : v ++ x ≡ w ++ y = cc in
    let high : length v / 256 ≡ length w / 256 = cc in
    let low : length v % 256 ≡ length w % 256 = cc in
    same_fronts v w x y (omega arith) values

-- an element begins with its identifier
pub begins_with : (f : Form) (i : ℕ) (v x : List ℕ) → (rest : List ℕ) × (octets_by_form f i v ++ x ≡ i ∷ rest)
begins_with (Fixed n) i v x = (v ++ x, refl)
begins_with Counted i v x = (length v ∷ v ++ x, refl)
begins_with LongCounted i v x = (length v / 256 ∷ length v % 256 ∷ v ++ x, refl)

pub one_writing : (forms : Forms) (e f : Element) (x y : List ℕ) → IsFixedAs (forms e.0) e.1 → IsFixedAs (forms f.0) f.1 → element_octets forms e ++ x ≡ element_octets forms f ++ y → (e ≡ f) × (x ≡ y)
one_writing forms (i, v) (j, w) x y p q same =
    let a = begins_with (forms i) i v x in
    let b = begins_with (forms j) j w y in
    let heads : i ∷ a.0 ≡ j ∷ b.0 = sym a.1 ∙ same ∙ b.1 in
    let identifier : i ≡ j = cc in
    let p' : IsFixedAs (forms j) v = subst (λ k. IsFixedAs (forms k) v) identifier p in
    let same' : octets_by_form (forms j) j v ++ x ≡ octets_by_form (forms j) j w ++ y = ap (λ k. octets_by_form (forms k) k v ++ x) (sym identifier) ∙ same in
    let value = one_value (forms j) j v w x y p' q same' in
    (λ n. (identifier n, value.0 n), value.1)

pub one_spelling : (forms : Forms) (e f : Element) (x y : List ℕ) → Fits forms e → Fits forms f → element_octets forms e ++ x ≡ element_octets forms f ++ y → (e ≡ f) × (x ≡ y)
one_spelling forms e f x y p q same = one_writing forms e f x y (fixed (forms e.0) e.1 p) (fixed (forms f.0) f.1 q) same

-- nothing begins with no element
pub nothing_is_cut : (forms : Forms) → IsCut forms []
nothing_is_cut forms e rest p same =
    let a = begins_with (forms e.0) e.0 e.1 rest in
    let bad : [] ≡ e.0 ∷ a.0 = same ∙ a.1 in cc

-- an element has an octet at least
pub some_octet : (forms : Forms) (e : Element) (x : List ℕ) → 0 < length (element_octets forms e ++ x)
some_octet forms e x =
    let a = begins_with (forms e.0) e.0 e.1 x in
    let long : length (element_octets forms e ++ x) ≡ length (e.0 ∷ a.0) = ap length a.1 in omega arith
