-- Facts of the lines of a trace.
use Rattle.std.proofs.Common.{◌≡◌, ◌≢◌, ℕ, Bool, map, ◌+◌, ◌<◌, ◌≤◌, ◌==◌, suc, zero, List, [], ◌∷◌, ◌++◌, true, false, Option, Some, None, option_map, refl, sym, ap, ◌∙◌, arith, length, take, drop, nat_eq, Bor, MatchOption}
use Rattle.std.specs.List.{starts_with, position_from, slice_split}
use Rattle.std.specs.Str.Lines.{strip_carriage_return}
use Rattle.std.specs.Str.Pattern.{FindsText, FindsTextPrefix, LacksTextAt}
use Rattle.std.proofs.lemmas.List.{length-append}
use Rattle.std.proofs.lemmas.List.Prefix.{front_rest}
use Rattle.std.proofs.lemmas.Str.Pattern.{starts_text}
use Rattle.trace_entries.specs.Entries.{behind, cut_text, is_unreadable, first_unreadable}

-- a text begins with its own front
starts_own : (n rest : List ℕ) → starts_with nat_eq (n ++ rest) n ≡ true
starts_own [] rest = refl
starts_own (x ∷ n) rest = let same : (x == x) ≡ true = grind arith in rw same (starts_own n rest)

not_at_start : (n s : List ℕ) → ((rest : List ℕ) → s ≢ n ++ rest) → starts_with nat_eq s n ≡ false
not_at_start n s h = sym (starts_text false n s h)

cut_text-none : (n s : List ℕ) → ((i : ℕ) → i ≤ length s → LacksTextAt n s i) → cut_text n s ≡ None
cut_text-none n [] h = refl
cut_text-none n (b ∷ bs) h =
    rw (not_at_start n (b ∷ bs) (h 0 (omega arith)), cut_text-none n bs (λ i l. h (suc i) (omega arith))) refl

cut_text-first : (n s : List ℕ) (i : ℕ) (rest : List ℕ) → 0 < length n → ((k : ℕ) → k < i → LacksTextAt n s k) → drop i s ≡ n ++ rest → cut_text n s ≡ Some (take i s, rest)
cut_text-first n [] zero rest some lacks here = absurd (omega (arith, ap length here, length-append n rest))
cut_text-first n [] (suc i) rest some lacks here = absurd (omega (arith, ap length here, length-append n rest))
cut_text-first n (b ∷ bs) zero rest some lacks here =
    let starts : starts_with nat_eq (b ∷ bs) n ≡ true = ap (λ (t : List ℕ). starts_with nat_eq t n) here ∙ starts_own n rest in
    let behind : drop (length n) (b ∷ bs) ≡ rest = front_rest (b ∷ bs) n rest here in
    rw (starts, behind) refl
cut_text-first n (b ∷ bs) (suc i) rest some lacks here =
    rw (not_at_start n (b ∷ bs) (lacks 0 (omega arith)), cut_text-first n bs i rest some (λ k l. lacks (suc k) (omega arith)) here) refl

-- what `split_once` gives at a text is the cut
pub cut_by_text : (n text : List ℕ) (r : Option (Bor (List ℕ) × Bor (List ℕ))) → 0 < length n
    → MatchOption r (FindsText n text None) (λ x. (i : ℕ) × (j : ℕ) × FindsText n text (Some (i, j)) × (x.0.now ≡ take i text) × (x.1.now ≡ drop j text) × (i ≤ j) × (length x.0.now ≡ i) × (length x.1.now + j ≡ length text))
    → option_map {U = List ℕ × List ℕ} (λ (cut : Bor (List ℕ) × Bor (List ℕ)). (cut.0.now, cut.1.now)) r ≡ cut_text n text
cut_by_text n text None some h = sym (cut_text-none n text h)
cut_by_text n text (Some x) some h = rw (h.3, h.4) (sym (cut_text-first n text h.0 (drop h.1 text) some h.2.0 h.2.1.split))

-- what `strip_prefix` gives of a text is what stands behind the front
pub behind_by_strip : (n text : List ℕ) (r : Option (Bor (List ℕ)))
    → MatchOption r (FindsTextPrefix n text None) (λ x. (k : ℕ) × FindsTextPrefix n text (Some k) × (x.now ≡ drop k text) × (length x.now + k ≡ length text))
    → option_map {U = List ℕ} (λ (x : Bor (List ℕ)). x.now) r ≡ behind n text
behind_by_strip n text None h = rw (not_at_start n text h) refl
behind_by_strip n text (Some x) h =
    let starts : starts_with nat_eq text n ≡ true = sym (starts_text true n text (h.0, h.1, rw h.1.0 h.1.2)) in
    rw starts (ap (λ (t : List ℕ). Some t) (h.2 ∙ ap (λ (k : ℕ). drop k text) h.1.0))

position_from-suc : {X : Type 0} (p : X → Bool) (i : ℕ) (xs : List X) → position_from p (i + 1) xs ≡ option_map (λ n. n + 1) (position_from p i xs)
position_from-suc p i [] = refl
position_from-suc p i (x ∷ xs) = grind (arith, position_from-suc p (i + 1) xs)

position_from-map : {X Y : Type 0} (p : Y → Bool) (f : X → Y) (i : ℕ) (xs : List X) → position_from p i (map f xs) ≡ position_from (λ x. p (f x)) i xs
position_from-map p f i [] = refl
position_from-map p f i (x ∷ xs) = rw (position_from-map p f (i + 1) xs) refl

-- the number of the first line that can't be read is one more than its index
pub first_unreadable-position : (trace : List ℕ) (r : Option ℕ)
    → r ≡ position_from (λ line. is_unreadable (strip_carriage_return line)) 0 (slice_split (λ b. b == 10) trace)
    → option_map (λ n. n + 1) r ≡ first_unreadable trace
first_unreadable-position trace r e =
    let parts = slice_split (λ b. b == 10) trace in
    ap (option_map (λ n. n + 1)) e
    ∙ (sym (position_from-suc (λ line. is_unreadable (strip_carriage_return line)) 0 parts)
    ∙ sym (position_from-map is_unreadable strip_carriage_return 1 parts))
