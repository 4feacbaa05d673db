-- Whether all lines of some octets are good: the first, and those behind it.
use Rattle.std.proofs.Common.{◌≡◌, ◌≢◌, inl, inr, ℕ, ◌+◌, ◌≤◌, true, false, List, [], ◌∷◌, Option, Some, None, IfSome, All, sym, ap, subst, ◌∙◌, arith, length, take_all}
use Rattle.std.proofs.lemmas.List.{drop_all}
use Rattle.std.proofs.lemmas.List.Elements.{All-nil, All-cons, All-head, All-tail}
use Rattle.std.proofs.lemmas.List.Splits.{slice_split_first, slice_split_none}
use Rattle.std.proofs.lemmas.Bool.{cases_Bool, true≢false}
use Rattle.std.specs.List.{list_any, position_or_len, slice_split}
use Rattle.std.specs.Io.KnownBytes.{IsAtEnd}
use Rattle.decoded_lines.specs.declared.reader.Found.TheVariants as found
use Rattle.decoded_lines.specs.Reading.{is_feed, longest_line, first_line, behind_line, Gives}
use Rattle.decoded_lines.proofs.ReadingLemmas.{place_within, place_none, none_passes}
use Rattle.explanations.specs.declared.link.LinkName.{LinkName}
use Rattle.decoded_lines.specs.declared.answers.Verdict.{Verdict}
use Rattle.decoded_lines.specs.declared.answers.Verdict.TheVariants as verdict
use Rattle.decoded_lines.specs.Answers.{IsGood, AreGood, Judges, IsAdded, IsCounted, CountsFirst}

-- the lines of octets: the first, and those behind it; or the first alone
pub split_first : (octets : List ℕ) → list_any is_feed octets ≡ true → slice_split is_feed octets ≡ first_line octets ∷ slice_split is_feed (behind_line octets)
split_first octets some = slice_split_first is_feed octets 0 (place_within is_feed octets some)

pub split_none : (octets : List ℕ) → list_any is_feed octets ≡ false → slice_split is_feed octets ≡ first_line octets ∷ []
split_none octets none =
    let all : first_line octets ≡ octets = take_all (position_or_len is_feed octets) octets (omega (arith, place_none is_feed octets none)) in
    slice_split_none is_feed octets (none_passes is_feed octets none) ∙ ap (λ line. line ∷ []) (sym all)

pub left_none : (octets : List ℕ) → list_any is_feed octets ≡ false → behind_line octets ≡ []
left_none octets none = drop_all (position_or_len is_feed octets + 1) octets (omega (arith, place_none is_feed octets none))

module _ (A : Type 0) (given : Option LinkName) where
  good_nothing : IsGood A given []
  good_nothing = (omega arith, λ blank. absurd (true≢false blank))

  -- no octets are good lines
  pub good_none : AreGood A given []
  good_none = All-cons (IsGood A given) [] [] good_nothing (All-nil (IsGood A given))

  pub good_parts : (octets : List ℕ) → AreGood A given octets → IsGood A given (first_line octets) × AreGood A given (behind_line octets)
  good_parts octets good = elim (cases_Bool (list_any is_feed octets)) [
    | inl some ↦
        let split = subst (All (IsGood A given)) (split_first octets some) good in
        (All-head (IsGood A given) (first_line octets) (slice_split is_feed (behind_line octets)) split, All-tail (IsGood A given) (first_line octets) (slice_split is_feed (behind_line octets)) split)
    | inr none ↦
        let split = subst (All (IsGood A given)) (split_none octets none) good in
        (All-head (IsGood A given) (first_line octets) [] split, subst (AreGood A given) (sym (left_none octets none)) good_none)
  ]

  pub good_whole : (octets : List ℕ) → IsGood A given (first_line octets) → AreGood A given (behind_line octets) → AreGood A given octets
  good_whole octets first rest = elim (cases_Bool (list_any is_feed octets)) [
    | inl some ↦ subst (All (IsGood A given)) (sym (split_first octets some)) (All-cons (IsGood A given) (first_line octets) (slice_split is_feed (behind_line octets)) first rest)
    | inr none ↦ subst (All (IsGood A given)) (sym (split_none octets none)) (All-cons (IsGood A given) (first_line octets) [] first (All-nil (IsGood A given)))
  ]

-- The lines that a reader had are good just where none was refused so far and those that it has left are.
abbrev pub Follows : (A : Type 0) → Option LinkName → Option (List ℕ) → Option (List ℕ) → ℕ → Type 0
Follows A given old new refused =
    IfSome old (λ octets. (left : List ℕ) × (new ≡ Some left) × (refused ≡ 0 → AreGood A given left → AreGood A given octets)
    × (AreGood A given octets → (refused ≡ 0) × AreGood A given left))

counted_on : (A : Type 0) (given : Option LinkName) (octets left : List ℕ) (before with_it : ℕ)
    → (before ≡ 0 → AreGood A given left → AreGood A given octets) → (AreGood A given octets → (before ≡ 0) × AreGood A given left)
    → IsCounted A given (first_line left) before with_it
    → (with_it ≡ 0 → AreGood A given (behind_line left) → AreGood A given octets)
    × (AreGood A given octets → (with_it ≡ 0) × AreGood A given (behind_line left))
counted_on A given octets left before with_it to from (inl (first, same)) = (
  λ none rest. to (sym same ∙ none) (good_whole A given left first rest),
  λ good. (same ∙ (from good).0, (good_parts A given left (from good).1).1),
)
counted_on A given octets left before with_it to from (inr (bad, some)) = (
  λ none rest. absurd (some none),
  λ good. absurd (bad (good_parts A given left (from good).1).0),
)

-- one line more was counted
pub follows_next : (A : Type 0) (given : Option LinkName) (old new next : Option (List ℕ)) (before with_it : ℕ) → Follows A given old new before
    → CountsFirst A given new next before with_it → Follows A given old next with_it
follows_next A given None new next before with_it follows counts = tt
follows_next A given (Some octets) None next before with_it (left, is, to, from) counts = absurd cc
follows_next A given (Some octets) (Some ys) next before with_it (left, is, to, from) (some, counted, behind) =
    let same : ys ≡ left = cc in
    let on = counted_on A given octets left before with_it to from (subst (λ (l : List ℕ). IsCounted A given (first_line l) before with_it) same counted) in
    (behind_line left, behind ∙ ap (λ l. Some (behind_line l)) same, on.0, on.1)

-- a line that isn't too long, as it was judged and counted
pub counted_of : (A : Type 0) (given : Option LinkName) (line : List ℕ) (v : Verdict) (before with_it : ℕ) → length line ≤ longest_line
    → Judges A given line v → IsAdded v before with_it → IsCounted A given line before with_it
counted_of A given line verdict.Blank before with_it short blank same = inl ((short, λ some. absurd (true≢false (sym blank ∙ some))), same)
counted_of A given line verdict.Message before with_it short (some, says) same = inl ((short, λ _. says), same)
counted_of A given line verdict.Refused before with_it short (some, none) more = inr (λ good. none (good.1 some), more)

-- the first line, as it was read
pub counts_line : (A : Type 0) (given : Option LinkName) (old new : Option (List ℕ)) (line : List ℕ) (before with_it : ℕ)
    → Gives found.Line old new line → IsCounted A given line before with_it → CountsFirst A given old new before with_it
counts_line A given None new line before with_it gives counted = tt
counts_line A given (Some octets) new line before with_it (some, short, is, left) counted =
    (some, subst (λ (l : List ℕ). IsCounted A given l before with_it) is counted, left)

-- no line is left
pub follows_end : (A : Type 0) (given : Option LinkName) (old new : Option (List ℕ)) (refused : ℕ) → Follows A given old new refused → IsAtEnd new
    → (refused ≡ 0 → IfSome old (AreGood A given)) × (refused ≢ 0 → IfSome old (λ octets. AreGood A given octets → ⊥))
follows_end A given None new refused follows end = (λ _. tt, λ _. tt)
follows_end A given (Some octets) None refused (left, is, to, from) end = absurd cc
follows_end A given (Some octets) (Some ys) refused (left, is, to, from) end =
    let nothing : left ≡ [] = cc in
    (λ none. to none (subst (AreGood A given) (sym nothing) (good_none A given)), λ some good. some (from good).0)
