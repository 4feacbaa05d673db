-- What octets count one by one is what the lines that they end count.
use Rattle.std.proofs.Common.{◌≡◌, ℕ, ◌+◌, ◌-◌, ◌^◌, ◌<◌, ◌≤◌, ◌==◌, ◌||◌, Bool, true, false, cond, nat_eq, min, List, [], ◌∷◌, ◌++◌, take, length, codes, refl, sym, ap, ◌∙◌, zero, suc, append_assoc, append-nil, zero-add, arith}
use Rattle.std.specs.List.{All, count_by, slice_split}
use Rattle.std.specs.Cmp.Lexicographic.{pointwise}
use Rattle.std.proofs.lemmas.List.{take-take}
use Rattle.std.proofs.lemmas.List.Elements.{All-push}
use Rattle.std.proofs.lemmas.List.Splits.{slice_split_none, slice_split_at, length-slice_split}
use Rattle.std.proofs.lemmas.List.Sums.{sum_by-cons}
use Rattle.screen_text.specs.declared.tally.Counted.{Counted}
use Rattle.screen_text.specs.declared.tally.Counted.TheVariants.{Lines, Scripts}
use Rattle.screen_text.specs.Lines.{is_counted, one_more, with_line, with_text, without_last, ended_lines, CountsLines}

-- a line feed
abbrev is_feed : ℕ → Bool
is_feed b = b == 10

-- the highest number
abbrev most : ℕ
most = 2 ^ 64 - 1

-- how many of a text's lines count
abbrev number_of : Counted → List ℕ → ℕ
number_of counted text = count_by (is_counted counted) (ended_lines text)

-- a line counts by its first seven octets
by_front : (counted : Counted) (line : List ℕ) → is_counted counted (take 7 line) ≡ is_counted counted line
by_front Lines line = refl
by_front Scripts line =
    ap (λ w. pointwise nat_eq (codes "ok ") w || pointwise nat_eq (codes "not ok ") (take 7 (take 7 line))) (take-take 3 7 line (omega arith))
    ∙ ap (λ w. pointwise nat_eq (codes "ok ") (take 3 line) || pointwise nat_eq (codes "not ok ") w) (take-take 7 7 line (omega arith))

-- what is kept of a text doesn't depend on how much of it was dropped before
pub take_front : (n : ℕ) (xs ys : List ℕ) → take n (take n xs ++ ys) ≡ take n (xs ++ ys)
take_front zero xs ys = refl
take_front (suc n) [] ys = refl
take_front (suc n) (x ∷ xs) ys = ap (λ w. x ∷ w) (take_front n xs ys)

without_last_cons : (x : List ℕ) (parts : List (List ℕ)) → 0 < length parts → without_last (x ∷ parts) ≡ x ∷ without_last parts
without_last_cons x [] some = absurd (omega arith)
without_last_cons x (y ∷ more) some = refl

-- a line without a line feed ends nothing
none_ended : (counted : Counted) (line : List ℕ) → All (λ b. is_feed b ≡ false) line → number_of counted (line ++ []) ≡ 0
none_ended counted line clear =
    ap (number_of counted) (append-nil line) ∙ ap (λ parts. count_by (is_counted counted) (without_last parts)) (slice_split_none is_feed line clear)

-- a line feed ends a line
one_ended : (counted : Counted) (line : List ℕ) (b : ℕ) (text : List ℕ) → All (λ b. is_feed b ≡ false) line → is_feed b ≡ true
    → number_of counted (line ++ b ∷ text) ≡ cond (is_counted counted line) 1 0 + number_of counted text
one_ended counted line b text clear feed =
    let some : 0 < length (slice_split is_feed text) = omega (arith, length-slice_split is_feed text) in
    ap (λ parts. count_by (is_counted counted) (without_last parts)) (slice_split_at is_feed line b text clear feed)
    ∙ ap (count_by (is_counted counted)) (without_last_cons line (slice_split is_feed text) some)
    ∙ sum_by-cons (λ x. cond (is_counted counted x) 1 0) line (ended_lines text)

-- the sum of what counted and what a text counts
add_one : (t : Bool) (n k : ℕ) → min (cond t (one_more n) n + k) most ≡ min (n + (cond t 1 0 + k)) most
add_one true n k = omega arith
add_one false n k = ap (λ w. min (n + w) most) (sym (zero-add k))

small : (t : Bool) (n : ℕ) → n ≤ most → cond t (one_more n) n ≤ most
small true n l = omega arith
small false n l = l

-- what a text gives from any stand on, of which no line feed has come since the last
abbrev Counts : Counted → List ℕ → Type 0
Counts counted text = (n : ℕ) (front : List ℕ) → n ≤ most → All (λ b. is_feed b ≡ false) front
    → (with_text counted (record { number = n; begun = take 7 front }) text).number ≡ min (n + number_of counted (front ++ text)) most

-- an octet before the text
before : (counted : Counted) (b : ℕ) (text : List ℕ) (t : Bool) → is_feed b ≡ t → Counts counted text → Counts counted (b ∷ text)
before counted b text true feed rest n front l clear =
    let one = one_ended counted front b text clear feed in
    let next = cond (is_counted counted front) (one_more n) n in
    ap (λ t. (with_text counted (cond t (with_line counted (record { number = n; begun = take 7 front })) (record { number = n; begun = take 7 (take 7 front ++ b ∷ []) })) text).number) feed
    ∙ ap (λ t. (with_text counted (record { number = cond t (one_more n) n; begun = [] }) text).number) (by_front counted front)
    ∙ rest next [] (small (is_counted counted front) n l) (λ k d l. absurd (omega arith))
    ∙ add_one (is_counted counted front) n (number_of counted text)
    ∙ ap (λ k. min (n + k) most) (sym one)
before counted b text false other rest n front l clear =
    ap (λ t. (with_text counted (cond t (with_line counted (record { number = n; begun = take 7 front })) (record { number = n; begun = take 7 (take 7 front ++ b ∷ []) })) text).number) other
    ∙ ap (λ w. (with_text counted (record { number = n; begun = w }) text).number) (take_front 7 front (b ∷ []))
    ∙ rest n (front ++ b ∷ []) l (All-push (λ b. is_feed b ≡ false) front b clear other)
    ∙ ap (λ w. min (n + number_of counted w) most) (append_assoc front (b ∷ []) text)

counts : (counted : Counted) (text : List ℕ) → Counts counted text
counts counted [] n front l clear = omega (arith, none_ended counted front clear)
counts counted (b ∷ text) n front l clear = before counted b text (is_feed b) refl (counts counted text) n front l clear

pub from_begin : CountsLines
from_begin counted text =
    counts counted text 0 [] (omega arith) (λ k d l. absurd (omega arith)) ∙ ap (λ w. min w most) (zero-add (number_of counted text))
