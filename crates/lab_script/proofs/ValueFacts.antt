-- Facts of what is left of a line by its slots.
use Rattle.std.proofs.Common.{◌≡◌, ℕ, ◌<◌, ◌≤◌, ◌-◌, ◌∷◌, true, false, List, [], Option, Some, None, refl, sym, ap, ◌∙◌, arith, length, get_or, drop, take}
use Rattle.std.proofs.Math.Seq.{take-length}
use Rattle.lab_script.specs.declared.forms.Slot.{Slot}
use Rattle.lab_script.specs.declared.forms.Slot.TheVariants.{Call}
use Rattle.lab_script.specs.declared.values.Values.{Values}
use Rattle.lab_script.specs.Forms.{takes_rest}
use Rattle.lab_script.specs.Words.{first_word, behind_word}
use Rattle.lab_script.specs.Values.{put, filled}

-- By how many slots are left. No words are left:
pub none_missing : (slots : List Slot) (v : Values) (kept : List ℕ) → length slots < 1 → Some (v, kept) ≡ filled slots None v kept
unfolding filled
none_missing [] v kept h = refl
none_missing (slot ∷ slots) v kept h = absurd (omega arith)

pub one_missing : (slots : List Slot) (v : Values) (kept : List ℕ) → 1 ≤ length slots → None ≡ filled slots None v kept
unfolding filled
one_missing [] v kept h = absurd (omega arith)
one_missing (slot ∷ slots) v kept h = refl

-- words are left
pub one_behind : (slots : List Slot) (text : List ℕ) (v : Values) (kept : List ℕ) → length slots < 1 → None ≡ filled slots (Some text) v kept
unfolding filled
one_behind [] text v kept h = refl
one_behind (slot ∷ slots) text v kept h = absurd (omega arith)

-- the slots behind the first
behind_first : (slot : Slot) (slots : List Slot) → take (length (slot ∷ slots) - 1) slots ≡ slots
behind_first slot slots =
    let count : length (slot ∷ slots) - 1 ≡ length slots = omega arith in
    ap (λ n. take n slots) count ∙ take-length slots

-- of which the first takes all
pub all_taken : (slots : List Slot) (text : List ℕ) (v : Values) (kept : List ℕ) → 1 ≤ length slots → takes_rest (get_or slots 0 Call) ≡ true
    → filled (take (length slots - 1) (drop 1 slots)) None v text ≡ filled slots (Some text) v kept
unfolding filled
all_taken [] text v kept h e = absurd (omega arith)
all_taken (slot ∷ slots) text v kept h e = ap (λ left. filled left None v text) (behind_first slot slots) ∙ rw e refl

-- or one
pub one_put : (slots : List Slot) (text word : List ℕ) (rest : Option (List ℕ)) (v next : Values) (kept : List ℕ) → 1 ≤ length slots → takes_rest (get_or slots 0 Call) ≡ false
    → word ≡ first_word text → rest ≡ behind_word text → put (get_or slots 0 Call) word v ≡ Some next
    → filled (take (length slots - 1) (drop 1 slots)) rest next kept ≡ filled slots (Some text) v kept
unfolding filled
one_put [] text word rest v next kept h e first behind says = absurd (omega arith)
one_put (slot ∷ slots) text word rest v next kept h e first behind says =
    let said : put slot (first_word text) v ≡ Some next = ap (λ w. put slot w v) (sym first) ∙ says in
    ap (λ left. filled left rest next kept) (behind_first slot slots) ∙ ap (λ r. filled slots r next kept) behind ∙ rw (e, said) refl

pub one_unfit : (slots : List Slot) (text word : List ℕ) (v : Values) (kept : List ℕ) → 1 ≤ length slots → takes_rest (get_or slots 0 Call) ≡ false
    → word ≡ first_word text → put (get_or slots 0 Call) word v ≡ None → None ≡ filled slots (Some text) v kept
unfolding filled
one_unfit [] text word v kept h e first says = absurd (omega arith)
one_unfit (slot ∷ slots) text word v kept h e first says =
    let said : put slot (first_word text) v ≡ None = ap (λ w. put slot w v) (sym first) ∙ says in
    rw (e, said) refl
