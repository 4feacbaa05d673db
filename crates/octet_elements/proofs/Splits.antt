-- Octets are elements, whole or torn, in one way only.
use Rattle.std.proofs.Common.{append-nil, ◌≡◌, ℕ, List, [], ◌∷◌, ◌++◌, length, refl, sym, ◌∙◌, ap, append_assoc, arith}
use Rattle.std.proofs.lemmas.Grind.{flat_map-append}
use Rattle.std.specs.List.{AllByRecursion}
use Rattle.octet_elements.specs.Elements.{Element, Forms, element_octets, all_octets, Fits, IsCut, AreElements, AreTorn}
use Rattle.octet_elements.proofs.Spelling.{IsFixedAs, fixed, one_spelling, one_writing, nothing_is_cut, some_octet}

pub one_split : (forms : Forms) (es fs : List Element) (x y : List ℕ) → AllByRecursion (Fits forms) es → AllByRecursion (Fits forms) fs → IsCut forms x → IsCut forms y → all_octets forms es ++ x ≡ all_octets forms fs ++ y → (es ≡ fs) × (x ≡ y)
one_split forms [] [] x y p q cut_x cut_y same = (refl, same)
one_split forms [] (f ∷ fs) x y p q cut_x cut_y same = absurd (cut_x f (all_octets forms fs ++ y) q.0 (same ∙ append_assoc (element_octets forms f) (all_octets forms fs) y))
one_split forms (e ∷ es) [] x y p q cut_x cut_y same = absurd (cut_y e (all_octets forms es ++ x) p.0 (sym same ∙ append_assoc (element_octets forms e) (all_octets forms es) x))
one_split forms (e ∷ es) (f ∷ fs) x y p q cut_x cut_y same =
    let first = one_spelling forms e f (all_octets forms es ++ x) (all_octets forms fs ++ y) p.0 q.0 (sym (append_assoc (element_octets forms e) (all_octets forms es) x) ∙ same ∙ append_assoc (element_octets forms f) (all_octets forms fs) y) in
    let rest = one_split forms es fs x y p.1 q.1 cut_x cut_y first.1 in
    (λ i. first.0 i ∷ rest.0 i, rest.1)

-- the same elements, with nothing after them
with_nothing : (forms : Forms) (es : List Element) (octets : List ℕ) → octets ≡ all_octets forms es → octets ≡ all_octets forms es ++ []
with_nothing forms es octets h = h ∙ sym (append-nil (all_octets forms es))

pub same_elements : (forms : Forms) (es fs : List Element) (octets : List ℕ) → AreElements forms es octets → AreElements forms fs octets → es ≡ fs
same_elements forms es fs octets h k = (one_split forms es fs [] [] h.each k.each (nothing_is_cut forms) (nothing_is_cut forms) (sym (with_nothing forms es octets h.spelling) ∙ with_nothing forms fs octets k.spelling)).0

pub whole_not_torn : (forms : Forms) (es fs : List Element) (rest octets : List ℕ) → AreElements forms es octets → AreTorn forms fs rest octets → ⊥
whole_not_torn forms es fs rest octets h k =
    let same = one_split forms es fs [] rest h.each k.each (nothing_is_cut forms) k.cut (sym (with_nothing forms es octets h.spelling) ∙ k.spelling) in
    let none : 0 ≡ length rest = ap length same.1 in
    let some = k.some in
    omega arith

pub same_tear : (forms : Forms) (es fs : List Element) (x y octets : List ℕ) → AreTorn forms es x octets → AreTorn forms fs y octets → length (all_octets forms es) ≡ length (all_octets forms fs)
same_tear forms es fs x y octets h k = ap (λ gs. length (all_octets forms gs)) (one_split forms es fs x y h.each k.each h.cut k.cut (sym h.spelling ∙ k.spelling)).0

-- one more element, whole
pub each_and_one : (forms : Forms) (es : List Element) (e : Element) → AllByRecursion (Fits forms) es → Fits forms e → AllByRecursion (Fits forms) (es ++ e ∷ [])
each_and_one forms [] e each p = (p, tt)
each_and_one forms (f ∷ es) e each p = (each.0, each_and_one forms es e each.1 p)

pub octets_and_one : (forms : Forms) (es : List Element) (e : Element) (octets before rest : List ℕ) → octets ≡ all_octets forms es ++ before → before ≡ element_octets forms e ++ rest → octets ≡ all_octets forms (es ++ e ∷ []) ++ rest
octets_and_one forms es e octets before rest is begins =
    is ∙ ap (λ t. all_octets forms es ++ t) begins ∙ sym (regroup (element_octets forms e) (all_octets forms es) (flat_map-append (element_octets forms) es (e ∷ [])))
  where
    regroup : (last front : List ℕ) → all_octets forms (es ++ e ∷ []) ≡ front ++ (last ++ []) → all_octets forms (es ++ e ∷ []) ++ rest ≡ front ++ (last ++ rest)
    regroup last front h = ap (λ t. t ++ rest) h ∙ ap (λ t. (front ++ t) ++ rest) (append-nil last) ∙ append_assoc front last rest

-- the elements have the lengths that their forms fix
abbrev pub AreFixed : Forms → List Element → Type 0
AreFixed forms es = AllByRecursion (λ e. IsFixedAs (forms e.0) e.1) es

-- what is written is read as these elements or not at all
pub same_written : (forms : Forms) (es fs : List Element) → AreFixed forms es → AllByRecursion (Fits forms) fs → all_octets forms es ≡ all_octets forms fs → es ≡ fs
same_written forms [] [] p q same = refl
same_written forms [] (f ∷ fs) p q same =
    let some = some_octet forms f (all_octets forms fs) in
    let none : 0 ≡ length (element_octets forms f ++ all_octets forms fs) = ap length same in absurd (omega arith)
same_written forms (e ∷ es) [] p q same =
    let some = some_octet forms e (all_octets forms es) in
    let none : length (element_octets forms e ++ all_octets forms es) ≡ 0 = ap length same in absurd (omega arith)
same_written forms (e ∷ es) (f ∷ fs) p q same =
    let first = one_writing forms e f (all_octets forms es) (all_octets forms fs) p.0 (fixed (forms f.0) f.1 q.0) same in
    let rest = same_written forms es fs p.1 q.1 first.1 in
    λ i. first.0 i ∷ rest i
