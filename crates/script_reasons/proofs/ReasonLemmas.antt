-- Facts of the first thing that is wrong with the words of a line.
use Rattle.std.proofs.Common.{◌≡◌, ℕ, ◌<◌, ◌≤◌, ◌-◌, ◌∷◌, List, [], Bool, true, false, Option, Some, None, refl, sym, ap, ◌∙◌, arith, length, get_or, drop, take}
use Rattle.std.proofs.Math.Seq.{take-length}
use Rattle.lab_script.specs.declared.forms.Slot.{Slot}
use Rattle.lab_script.specs.declared.forms.Slot.TheVariants.{Call}
use Rattle.lab_script.specs.declared.forms.Form.{Form}
use Rattle.script_reasons.specs.declared.reasons.Fault.TheVariants.{Word, Missing, Behind}
use Rattle.lab_script.specs.Words.{first_word, behind_word}
use Rattle.lab_script.specs.Forms.{fits, takes_rest, form_of}
use Rattle.script_reasons.specs.Reasons.{first_wrong, rest_reason, named_reason, text_reason}

-- By the length of the slots: nothing is left of the line,
pub nothing_missing : (form : Form) (slots : List Slot) → length slots < 1 → None ≡ first_wrong form slots None
unfolding first_wrong
nothing_missing form [] h = refl
nothing_missing form (slot ∷ slots) h = absurd (omega arith)

pub one_missing : (form : Form) (slots : List Slot) → 1 ≤ length slots → Some (Missing (get_or slots 0 Call) form, []) ≡ first_wrong form slots None
unfolding first_wrong
one_missing form [] h = absurd (omega arith)
one_missing form (slot ∷ slots) h = refl

-- or something is
pub one_behind : (form : Form) (slots : List Slot) (text word : List ℕ) → length slots < 1 → word ≡ first_word text
    → Some (Behind form, word) ≡ first_wrong form slots (Some text)
unfolding first_wrong
one_behind form [] text word h first = ap (λ w. Some (Behind form, w)) first
one_behind form (slot ∷ slots) text word h first = absurd (omega arith)

pub all_taken : (form : Form) (slots : List Slot) (text : List ℕ) → 1 ≤ length slots → takes_rest (get_or slots 0 Call) ≡ true
    → rest_reason form (get_or slots 0 Call) text ≡ first_wrong form slots (Some text)
unfolding first_wrong
all_taken form [] text h e = absurd (omega arith)
all_taken form (slot ∷ slots) text h e = rw e refl

pub one_fits : (form : Form) (slots : List Slot) (text word : List ℕ) (rest : Option (List ℕ)) → 1 ≤ length slots → takes_rest (get_or slots 0 Call) ≡ false
    → word ≡ first_word text → rest ≡ behind_word text → fits (get_or slots 0 Call) word ≡ true
    → first_wrong form (take (length slots - 1) (drop 1 slots)) rest ≡ first_wrong form slots (Some text)
unfolding first_wrong
one_fits form [] text word rest h e first behind fit = absurd (omega arith)
one_fits form (slot ∷ slots) text word rest h e first behind fit =
    let count : length (slot ∷ slots) - 1 ≡ length slots = omega arith in
    let left : take (length (slot ∷ slots) - 1) slots ≡ slots = ap (λ n. take n slots) count ∙ take-length slots in
    let fitting : fits slot (first_word text) ≡ true = ap (fits slot) (sym first) ∙ fit in
    ap (λ xs. first_wrong form xs rest) left ∙ ap (first_wrong form slots) behind ∙ rw (e, fitting) refl

pub one_wrong : (form : Form) (slots : List Slot) (text word : List ℕ) → 1 ≤ length slots → takes_rest (get_or slots 0 Call) ≡ false
    → word ≡ first_word text → fits (get_or slots 0 Call) word ≡ false → Some (Word (get_or slots 0 Call), word) ≡ first_wrong form slots (Some text)
unfolding first_wrong
one_wrong form [] text word h e first fit = absurd (omega arith)
one_wrong form (slot ∷ slots) text word h e first fit =
    let unfit : fits slot (first_word text) ≡ false = ap (fits slot) (sym first) ∙ fit in
    ap (λ w. Some (Word slot, w)) first ∙ rw (e, unfit) refl

-- what is wrong with a text, by its first word and what stands behind it
pub by_form : (has_peer is_peer : Bool) (text word : List ℕ) (rest : Option (List ℕ)) (form : Option Form) → word ≡ first_word text → rest ≡ behind_word text → form ≡ form_of word rest
    → named_reason has_peer is_peer word rest form ≡ text_reason has_peer is_peer text
unfolding text_reason
by_form has_peer is_peer text word rest form first behind is =
    ap (named_reason has_peer is_peer word rest) is ∙ (λ i. named_reason has_peer is_peer (first i) (behind i) (form_of (first i) (behind i)))
