-- Facts of the words of a text, and of the fields among them.
use Rattle.std.proofs.Common.{◌≡◌, ◌≢◌, if◌then◌else◌, ℕ, ◌+◌, ◌<◌, ◌∷◌, List, [], Bool, true, false, Option, Some, None, refl, ap, ◌∙◌, arith, length, length-drop, nat_lt, option_map, ◌==◌, Bor, MatchOption, IfSome}
use Rattle.std.specs.Prelude.{bytes_eq}
use Rattle.std.specs.List.{list_any, slice_split, onto_first, position_or_len, before_first, after_first}
use Rattle.std.proofs.lemmas.List.Splits.{slice_split-cons_no, slice_split_first}
use Rattle.std.proofs.lemmas.Bool.Decides.{Decides-ltb}
use Rattle.encoded_messages.specs.Words.{cut_at, behind_blank, is_same}
use Rattle.encoded_messages.specs.Forms.{keys_of}
use Rattle.encoded_messages.specs.declared.form.FieldForm.{FieldForm}

-- how a text is cut at the first of its bytes that is such
abbrev pub Cut : (ℕ → Bool) → List ℕ → Option (Bor (List ℕ) × Bor (List ℕ)) → Type 0
Cut p text r = MatchOption r (position_or_len p text ≡ length text) (λ x. (position_or_len p text < length text) × (x.0.now ≡ before_first p text) × (x.1.now ≡ after_first p text))

-- an octet before a text of one part
longer_part : (mark b : ℕ) (text : List ℕ) → (b == mark) ≡ false → slice_split (λ c. c == mark) text ≡ text ∷ [] → slice_split (λ c. c == mark) (b ∷ text) ≡ (b ∷ text) ∷ []
longer_part mark b text other one = slice_split-cons_no (λ c. c == mark) b text other ∙ ap (onto_first b) one

-- a text without a mark is one part
uncut : (mark : ℕ) (text : List ℕ) → position_or_len (λ b. b == mark) text ≡ length text → slice_split (λ b. b == mark) text ≡ text ∷ []
uncut mark [] h = refl
uncut mark (b ∷ text) h =
    let other : (b == mark) ≡ false = grind (arith, h) in
    longer_part mark b text other (uncut mark text (grind (arith, h, other)))

-- a text is cut at its first mark
pub cut_parts : (mark : ℕ) (text : List ℕ) (r : Option (Bor (List ℕ) × Bor (List ℕ))) → Cut (λ b. b == mark) text r
    → MatchOption r (slice_split (λ b. b == mark) text ≡ text ∷ []) (λ x. slice_split (λ b. b == mark) text ≡ x.0.now ∷ slice_split (λ b. b == mark) x.1.now)
cut_parts mark text None h = uncut mark text h
cut_parts mark text (Some x) h = slice_split_first (λ b. b == mark) text 0 h.0 ∙ rw (h.1, h.2) refl

-- and what stands behind that is shorter
pub cut_less : (mark : ℕ) (text : List ℕ) (r : Option (Bor (List ℕ) × Bor (List ℕ))) → Cut (λ b. b == mark) text r
    → IfSome r (λ x. length x.1.now < length text)
cut_less mark text None h = tt
cut_less mark text (Some x) h =
    let place = position_or_len (λ b. b == mark) text in
    omega (arith, h.0, ap length h.2, length-drop (place + 1) text)

-- a text is cut at the first byte of a value
pub cut_first : (mark : ℕ) (text : List ℕ) (r : Option (Bor (List ℕ) × Bor (List ℕ))) → Cut (λ b. b == mark) text r
    → option_map (λ x. (x.0.now, x.1.now)) r ≡ cut_at mark text
cut_first mark text None h =
    let past : nat_lt (position_or_len (λ b. b == mark) text) (length text) ≡ false = grind (arith, h) in
    rw past refl
cut_first mark text (Some x) h =
    let within : nat_lt (position_or_len (λ b. b == mark) text) (length text) ≡ true = (Decides-ltb (position_or_len (λ b. b == mark) text) (length text)).1 h.0 in
    rw (within, h.1, h.2) refl

-- a text begins with a blank, or doesn't
no_blank : (byte : ℕ) (text : List ℕ) (is_blank : Bool) → (byte == 32) ≡ is_blank → ((rest : List ℕ) → byte ∷ text ≢ 32 ∷ rest) → None ≡ (if is_blank then Some text else None)
no_blank byte text true e none = absurd (none text (let same : byte ≡ 32 = grind (arith, e) in rw same refl))
no_blank byte text false e none = refl

pub blank_first : (text : List ℕ) (r : Option (Bor (List ℕ))) → MatchOption r ((rest : List ℕ) → text ≢ 32 ∷ rest) (λ x. text ≡ 32 ∷ x.now)
    → option_map (λ x. x.now) r ≡ behind_blank text
blank_first [] None none = refl
blank_first (byte ∷ text) None none = no_blank byte text (byte == 32) refl none
blank_first text (Some x) some = rw some refl

-- a field has a key, and the key is one of those of the fields
pub keys_any : (key : List ℕ) (forms : List FieldForm) → list_any (is_same key) (keys_of forms) ≡ list_any (λ form. bytes_eq form.0.now key) forms
keys_any key [] = refl
keys_any key (form ∷ forms) = rw (keys_any key forms) refl
