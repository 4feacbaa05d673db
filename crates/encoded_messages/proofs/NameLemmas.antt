-- Facts of the name and the fields of a text.
use Rattle.std.proofs.Common.{◌≡◌, ◌≢◌, ℕ, ◌+◌, ◌<◌, ◌≤◌, suc, get_or, ◌∷◌, ◌++◌, List, [], true, false, None, Some, Option, MatchOption, Bor, refl, sym, subst, ap, ◌∙◌, arith, length, take, drop, append-nil, append_assoc, ◌==◌, inl, inr}
use Rattle.std.specs.List.{onto_first, list_any, position_or_len, before_first, join_with_byte}
use Rattle.std.proofs.lemmas.Bool.{cases_Bool, ne_eqb}
use Rattle.std.proofs.lemmas.List.Splits.{slice_split-cons_yes, slice_split-cons_no, length-slice_split, join_with_byte-slice_split}
use Rattle.std.proofs.lemmas.List.{take_at, drop_at, append_cancel_left, take-append-drop}
use Rattle.std.proofs.lemmas.Str.Pattern.{NoCharPasses-char, drop_at_char, IsSplitOnceResult, split_parts}
use Rattle.std.specs.Str.{NoCharPasses}
use Rattle.std.specs.Str.Pattern.{RFindsChar}
use Rattle.encoded_messages.specs.Words.{words_of, Lacks}
use Rattle.encoded_messages.specs.Fields.{has_equals, name_of, fields_of}

some_words : (text : List ℕ) → 0 < length (words_of text)
some_words text = omega (arith, length-slice_split (λ b. b == 32) text)

onto_front : (b : ℕ) (xs ys : List (List ℕ)) → 0 < length xs → onto_first b (xs ++ ys) ≡ onto_first b xs ++ ys
onto_front b [] ys l = absurd (omega arith)
onto_front b (x ∷ xs) ys l = refl

-- the words before a blank and behind it
words_around : (name fields : List ℕ) → words_of (name ++ 32 ∷ fields) ≡ words_of name ++ words_of fields
words_around [] fields = refl
words_around (b ∷ name) fields = elim (cases_Bool (b == 32)) [
  | inl e ↦ slice_split-cons_yes (λ c. c == 32) b (name ++ 32 ∷ fields) e ∙ ap (λ ws. [] ∷ ws) (words_around name fields) ∙ ap (λ ws. ws ++ words_of fields) (sym (slice_split-cons_yes (λ c. c == 32) b name e))
  | inr e ↦ slice_split-cons_no (λ c. c == 32) b (name ++ 32 ∷ fields) e ∙ ap (onto_first b) (words_around name fields) ∙ onto_front b (words_of name) (words_of fields) (some_words name) ∙ ap (λ ws. ws ++ words_of fields) (sym (slice_split-cons_no (λ c. c == 32) b name e))
]

onto_plain : (b : ℕ) (ws : List (List ℕ)) → (b == 61) ≡ false → list_any has_equals ws ≡ false → list_any has_equals (onto_first b ws) ≡ false
onto_plain b [] e h = grind (arith, e, h)
onto_plain b (w ∷ ws) e h = grind (arith, e, h)

-- a text without `=` has no word with one
plain_words : (text : List ℕ) → Lacks 61 text → list_any has_equals (words_of text) ≡ false
plain_words [] h = refl
plain_words (b ∷ text) h =
    let other : (b == 61) ≡ false = grind (arith, h) in
    let more : Lacks 61 text = grind (arith, h) in
    let plain = plain_words text more in
    elim (cases_Bool (b == 32)) [
      | inl e ↦ ap (list_any has_equals) (slice_split-cons_yes (λ c. c == 32) b text e) ∙ plain
      | inr e ↦ ap (list_any has_equals) (slice_split-cons_no (λ c. c == 32) b text e) ∙ onto_plain b (words_of text) other plain
    ]

-- and the search passes it
passed : (xs ys : List (List ℕ)) → list_any has_equals xs ≡ false → position_or_len has_equals (xs ++ ys) ≡ length xs + position_or_len has_equals ys
passed [] ys h = omega arith
passed (x ∷ xs) ys h =
    let other : has_equals x ≡ false = grind (arith, h) in
    let more : list_any has_equals xs ≡ false = grind (arith, h) in
    grind (arith, other, passed xs ys more)

-- the first word has an `=`
abbrev StartsWithField : List (List ℕ) → Type 0
StartsWithField [] = ⊥
StartsWithField (w ∷ ws) = has_equals w ≡ true

onto_field : (b : ℕ) (ws : List (List ℕ)) → StartsWithField ws → StartsWithField (onto_first b ws)
onto_field b [] h = absurd h
onto_field b (w ∷ ws) h = grind (arith, h)

field_at_equals : (ws : List (List ℕ)) → StartsWithField (onto_first 61 ws)
field_at_equals [] = refl
field_at_equals (w ∷ ws) = refl

-- as it has where no blank stands before the first `=`
starts_with_field : (word rest : List ℕ) → Lacks 32 word → StartsWithField (words_of (word ++ 61 ∷ rest))
starts_with_field [] rest h = field_at_equals (words_of rest)
starts_with_field (b ∷ word) rest h =
    let other : (b == 32) ≡ false = grind (arith, h) in
    let more : Lacks 32 word = grind (arith, h) in
    subst StartsWithField (sym (slice_split-cons_no (λ c. c == 32) b (word ++ 61 ∷ rest) other)) (onto_field b (words_of (word ++ 61 ∷ rest)) (starts_with_field word rest more))

found_at_once : (ws : List (List ℕ)) → StartsWithField ws → position_or_len has_equals ws ≡ 0
found_at_once [] h = absurd h
found_at_once (w ∷ ws) h = grind (arith, h)

-- words without `=`, and others the first of which has one, if there are any
parted : (text : List ℕ) (xs ys : List (List ℕ)) → words_of text ≡ xs ++ ys → list_any has_equals xs ≡ false → position_or_len has_equals ys ≡ 0
    → (join_with_byte 32 xs ≡ name_of text) × (join_with_byte 32 ys ≡ fields_of text)
unfolding name_of fields_of
parted text xs ys split plain at =
    let place : length xs ≡ position_or_len has_equals (xs ++ ys) = omega (arith, passed xs ys plain, at) in (
      ap (join_with_byte 32) (sym (take_at xs ys (position_or_len has_equals (xs ++ ys)) place)) ∙ ap (λ ws. join_with_byte 32 (before_first has_equals ws)) (sym split),
      ap (join_with_byte 32) (sym (drop_at xs ys (position_or_len has_equals (xs ++ ys)) place)) ∙ ap (λ ws. join_with_byte 32 (drop (position_or_len has_equals ws) ws)) (sym split),
    )

-- a text without `=` is a name
pub name_alone : (text : List ℕ) → Lacks 61 text → (text ≡ name_of text) × ([] ≡ fields_of text)
name_alone text h =
    let both = parted text (words_of text) [] (sym (append-nil (words_of text))) (plain_words text h) refl in
    (sym (join_with_byte-slice_split 32 text) ∙ both.0, both.1)

-- one without a blank before its first `=` is fields
pub fields_alone : (text front rest : List ℕ) → text ≡ front ++ 61 ∷ rest → Lacks 32 front → ([] ≡ name_of text) × (text ≡ fields_of text)
fields_alone text front rest e h =
    let field : StartsWithField (words_of text) = subst (λ t. StartsWithField (words_of t)) (sym e) (starts_with_field front rest h) in
    let both = parted text [] (words_of text) refl refl (found_at_once (words_of text) field) in
    (both.0, sym (join_with_byte-slice_split 32 text) ∙ both.1)

lacks_front : (mark : ℕ) (xs ys : List ℕ) → Lacks mark (xs ++ ys) → Lacks mark xs
lacks_front mark [] ys h = refl
lacks_front mark (x ∷ xs) ys h =
    let other : (x == mark) ≡ false = grind (arith, h) in
    let more : Lacks mark (xs ++ ys) = grind (arith, h) in
    grind (arith, other, lacks_front mark xs ys more)

joined : (text front rest name word : List ℕ) → text ≡ front ++ 61 ∷ rest → front ≡ name ++ 32 ∷ word → text ≡ name ++ 32 ∷ (word ++ 61 ∷ rest)
joined text front rest name word e f = e ∙ ap (λ t. t ++ 61 ∷ rest) f ∙ append_assoc name (32 ∷ word) (61 ∷ rest)

-- any other is cut at the last blank before its first `=`
pub name_before : (text front rest name word fields : List ℕ) → text ≡ front ++ 61 ∷ rest → Lacks 61 front → front ≡ name ++ 32 ∷ word → Lacks 32 word → text ≡ name ++ 32 ∷ fields
    → (name ≡ name_of text) × (fields ≡ fields_of text)
name_before text front rest name word fields e h f g cut =
    let same : fields ≡ word ++ 61 ∷ rest = ap (drop 1) (append_cancel_left name (32 ∷ fields) (32 ∷ (word ++ 61 ∷ rest)) (sym cut ∙ joined text front rest name word e f)) in
    let field : StartsWithField (words_of fields) = subst (λ t. StartsWithField (words_of t)) (sym same) (starts_with_field word rest g) in
    let plain : Lacks 61 name = lacks_front 61 name (32 ∷ word) (subst (Lacks 61) f h) in
    let both = parted text (words_of name) (words_of fields) (ap words_of cut ∙ words_around name fields) (plain_words name plain) (found_at_once (words_of fields) field) in
    (sym (join_with_byte-slice_split 32 name) ∙ both.0, sym (join_with_byte-slice_split 32 fields) ∙ both.1)

-- and that blank stands behind the name
pub blank_behind : (text front rest name word : List ℕ) → text ≡ front ++ 61 ∷ rest → front ≡ name ++ 32 ∷ word → ((fields : List ℕ) → text ≢ name ++ 32 ∷ fields) → ⊥
blank_behind text front rest name word e f none = none (word ++ 61 ∷ rest) (joined text front rest name word e f)

-- what has no such byte at any place lacks it
pub lacks_from : (mark : ℕ) (xs : List ℕ) → ((i : ℕ) → i < length xs → get_or xs i 0 ≢ mark) → Lacks mark xs
lacks_from mark [] h = refl
lacks_from mark (x ∷ xs) h =
    let other : (x == mark) ≡ false = ne_eqb x mark (h 0 (omega arith)) in
    grind (arith, other, lacks_from mark xs (λ i l. h (suc i) (omega arith)))

-- how a text is cut at the last of its bytes that is this one
abbrev pub LastCut : ℕ → List ℕ → Option (Bor (List ℕ) × Bor (List ℕ)) → Type 0
LastCut mark text r = MatchOption r (Lacks mark text) (λ cut. (text ≡ cut.0.now ++ mark ∷ cut.1.now) × Lacks mark cut.1.now)

-- the clause of `rsplit_once` at a byte
abbrev pub IsRsplitOnceResult : ℕ → List ℕ → Option (Bor (List ℕ) × Bor (List ℕ)) → Type 0
IsRsplitOnceResult c bs r = MatchOption r (RFindsChar c bs None) (λ x. (i : ℕ) × (j : ℕ) × RFindsChar c bs (Some (i, j)) × (x.0.now ≡ take i bs) × (x.1.now ≡ drop j bs) × (i ≤ j) × (length x.0.now ≡ i) × (length x.1.now + j ≡ length bs))

pub last_cut : (mark : ℕ) (text : List ℕ) (r : Option (Bor (List ℕ) × Bor (List ℕ))) → IsRsplitOnceResult mark text r → mark < 128 → LastCut mark text r
last_cut mark text None h low = lacks_from mark text (λ i. NoCharPasses-char mark text i h low)
last_cut mark text (Some x) h low = (
  sym (take-append-drop h.0 text) ∙ (λ k. sym h.3 k ++ (drop_at_char mark text h.0 h.1 h.2.1 low ∙ ap (λ l. mark ∷ l) (sym h.4)) k),
  lacks_from mark x.1.now (λ i. NoCharPasses-char mark x.1.now i (subst (NoCharPasses (λ d. d == mark)) (sym h.4) h.2.0) low),
)

-- what stands behind a front and a blank
pub behind_front : (text front rest : List ℕ) (r : Option (Bor (List ℕ))) → text ≡ front ++ rest → MatchOption r ((more : List ℕ) → rest ≢ 32 ∷ more) (λ x. rest ≡ 32 ∷ x.now)
    → MatchOption r ((more : List ℕ) → text ≢ front ++ 32 ∷ more) (λ x. text ≡ front ++ 32 ∷ x.now)
behind_front text front rest None e none = λ more t. none more (append_cancel_left front rest (32 ∷ more) (sym e ∙ t))
behind_front text front rest (Some x) e some = e ∙ ap (λ l. front ++ l) some

-- how a text is cut at the first of its bytes that is this one
pub first_cut : (mark : ℕ) (text : List ℕ) (r : Option (Bor (List ℕ) × Bor (List ℕ))) → IsSplitOnceResult mark text r → mark < 128
    → MatchOption r (Lacks mark text) (λ cut. (text ≡ cut.0.now ++ mark ∷ cut.1.now) × Lacks mark cut.0.now)
first_cut mark text None h low = lacks_from mark text (split_parts mark text None h low)
first_cut mark text (Some x) h low = let parts = split_parts mark text (Some x) h low in (parts.0, lacks_from mark x.0.now parts.1)
