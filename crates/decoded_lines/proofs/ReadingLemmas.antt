-- Lines of what a reader has left.
use Rattle.std.proofs.Common.{◌≡◌, ◌≢◌, inl, inr, ℕ, suc, ◌+◌, ◌-◌, ◌<◌, ◌≤◌, min, Bool, true, false, cond, List, [], ◌∷◌, ◌++◌, Option, Some, None, IfSome, All, refl, sym, ap, subst, ◌∙◌, append-nil, arith, length, take, drop, length-append, length-take, length-take-le, take_all, drop_at, nat_lt}
use Rattle.std.proofs.lemmas.List.{take-append-le, drop-drop, nil_from_length, take_min}
use Rattle.std.proofs.lemmas.List.Folds.{list_any-append}
use Rattle.std.proofs.lemmas.List.Elements.{All-nil, All-cons}
use Rattle.std.proofs.lemmas.Bool.{cases_Bool, true≢false, ltb-true, ltb-false}
use Rattle.std.proofs.lemmas.Bool.Decides.{Decides-ltb}
use Rattle.std.proofs.KnownBytes.{Consumes-kept, Consumes-trans, starts_with_rest}
use Rattle.std.specs.List.{list_any, position, position_or_len}
use Rattle.std.specs.Io.{StartsWith}
use Rattle.std.specs.Io.KnownBytes.{Consumes}
use Rattle.screen_text.proofs.LineCounts.{take_front}
use Rattle.decoded_lines.specs.Reading.{is_feed, longest_line, most_kept, kept, first_line, behind_line, found_of, Passes, Gives}
use Rattle.decoded_lines.specs.declared.reader.Found.TheVariants as found
use Rattle.decoded_lines.specs.declared.reader.Part.TheVariants as part

-- a number is below another, or not
is_below : (a b : ℕ) → a < b → nat_lt a b ≡ true
is_below a b h = (Decides-ltb a b).1 h

not_below : (a b : ℕ) → b ≤ a → nat_lt a b ≡ false
not_below a b h = elim (cases_Bool (nat_lt a b)) [ inl e ↦ absurd (omega (arith, ltb-true a b e, h)) | inr e ↦ e ]

-- where one passes, the first that does has a place
pub place_within : (f : ℕ → Bool) (xs : List ℕ) → list_any f xs ≡ true → position_or_len f xs < length xs
place_within f [] some = absurd (true≢false (sym some))
place_within f (x ∷ xs) some = elim (cases_Bool (f x)) [
  | inl e ↦ rw e (omega arith)
  | inr e ↦ let more : list_any f xs ≡ true = rw e at some in rw e (omega (arith, place_within f xs more))
]

-- behind those that don't pass, places are counted on
place_behind : (f : ℕ → Bool) (xs ys : List ℕ) → list_any f xs ≡ false → position_or_len f (xs ++ ys) ≡ length xs + position_or_len f ys
place_behind f [] ys none = omega arith
place_behind f (x ∷ xs) ys none = elim (cases_Bool (f x)) [
  | inl e ↦ absurd (true≢false (rw e at none))
  | inr e ↦ let more : list_any f xs ≡ false = rw e at none in rw e (omega (arith, place_behind f xs ys more))
]

-- where none passes, the place is behind all
pub place_none : (f : ℕ → Bool) (xs : List ℕ) → list_any f xs ≡ false → position_or_len f xs ≡ length xs
place_none f xs none = omega (arith, place_behind f xs [] none, ap (position_or_len f) (append-nil xs))

-- and each of them doesn't
pub none_passes : (f : ℕ → Bool) (xs : List ℕ) → list_any f xs ≡ false → All (λ x. f x ≡ false) xs
none_passes f [] none = All-nil (λ x. f x ≡ false)
none_passes f (x ∷ xs) none = elim (cases_Bool (f x)) [
  | inl e ↦ absurd (true≢false (rw e at none))
  | inr e ↦ let more : list_any f xs ≡ false = rw e at none in All-cons (λ x. f x ≡ false) x xs e (none_passes f xs more)
]

-- what follows one that passes changes no place
place_front : (f : ℕ → Bool) (xs ys : List ℕ) → list_any f xs ≡ true → position_or_len f (xs ++ ys) ≡ position_or_len f xs
place_front f [] ys some = absurd (true≢false (sym some))
place_front f (x ∷ xs) ys some = elim (cases_Bool (f x)) [
  | inl e ↦ rw e refl
  | inr e ↦ let more : list_any f xs ≡ true = rw e at some in rw e (ap (λ n. 1 + n) (place_front f xs ys more))
]

-- a place that was found
found_place : (f : ℕ → Bool) (xs : List ℕ) (place : ℕ) → position f xs ≡ Some place → (list_any f xs ≡ true) × (position_or_len f xs ≡ place)
found_place f xs place e = elim (cases_Bool (list_any f xs)) [
  | inl some ↦
      let within : nat_lt (position_or_len f xs) (length xs) ≡ true = is_below _ _ (place_within f xs some) in
      let is : Some (position_or_len f xs) ≡ Some place = ap (λ b. cond b (Some (position_or_len f xs)) None) (sym within) ∙ e in
      (some, cc)
  | inr none ↦
      let past : position_or_len f xs ≡ length xs = place_none f xs none in
      let without : nat_lt (position_or_len f xs) (length xs) ≡ false = not_below _ _ (omega (arith, past)) in
      let is : None ≡ Some place = ap (λ b. cond b (Some (position_or_len f xs)) None) (sym without) ∙ e in
      absurd cc
]

-- no place that was found
no_place : (f : ℕ → Bool) (xs : List ℕ) → position f xs ≡ None → list_any f xs ≡ false
no_place f xs e = elim (cases_Bool (list_any f xs)) [
  | inl some ↦
      let within : nat_lt (position_or_len f xs) (length xs) ≡ true = is_below _ _ (place_within f xs some) in
      let is : Some (position_or_len f xs) ≡ None = ap (λ b. cond b (Some (position_or_len f xs)) None) (sym within) ∙ e in
      absurd cc
  | inr none ↦ none
]

take_past : (xs ys : List ℕ) (n : ℕ) → take (length xs + n) (xs ++ ys) ≡ xs ++ take n ys
take_past [] ys n = ap (λ k. take k ys) (omega arith)
take_past (x ∷ xs) ys n =
    let next : length (x ∷ xs) + n ≡ suc (length xs + n) = omega arith in
    ap (λ k. take k (x ∷ xs ++ ys)) next ∙ ap (λ l. x ∷ l) (take_past xs ys n)

drop_past : (xs ys : List ℕ) (n : ℕ) → drop (length xs + n) (xs ++ ys) ≡ drop n ys
drop_past xs ys n = sym (drop-drop n (length xs) (xs ++ ys)) ∙ ap (drop n) (drop_at xs ys (length xs) refl)

-- octets that are no line feed stand in front of the first line
first_line-behind : (xs ys : List ℕ) → list_any is_feed xs ≡ false → first_line (xs ++ ys) ≡ xs ++ first_line ys
first_line-behind xs ys none = ap (λ n. take n (xs ++ ys)) (place_behind is_feed xs ys none) ∙ take_past xs ys (position_or_len is_feed ys)

behind_line-behind : (xs ys : List ℕ) → list_any is_feed xs ≡ false → behind_line (xs ++ ys) ≡ behind_line ys
behind_line-behind xs ys none =
    let place : position_or_len is_feed (xs ++ ys) + 1 ≡ length xs + (position_or_len is_feed ys + 1) = omega (arith, place_behind is_feed xs ys none) in
    ap (λ n. drop n (xs ++ ys)) place ∙ drop_past xs ys (position_or_len is_feed ys + 1)

-- what of a part there is room for is what of the whole is kept
pub keep_part : (m : ℕ) (xs ys : List ℕ) (n : ℕ) → length xs ≤ m → n ≡ min (length ys) (m - length xs) → xs ++ take n ys ≡ take m (xs ++ ys)
keep_part m xs ys n within is =
    let room = m - length xs in
    let whole : m ≡ length xs + room = omega (arith, within) in
    let same : n ≡ min room (length ys) = omega (arith, is) in
    ap (λ k. xs ++ take k ys) same ∙ ap (λ l. xs ++ l) (take_min room ys) ∙ sym (ap (λ k. take k (xs ++ ys)) whole ∙ take_past xs ys room)

-- a line feed that was found lies within
pub feed_within : (xs : List ℕ) (place : ℕ) → position is_feed xs ≡ Some place → place + 1 ≤ length xs
feed_within xs place found =
    let parts = found_place is_feed xs place found in
    omega (arith, place_within is_feed xs parts.0, parts.1)

-- the part up to the line feed was passed over
pub passes_whole : (old new : Option (List ℕ)) (shown before after : List ℕ) (place : ℕ)
    → position is_feed shown ≡ Some place → IfSome old (λ xs. StartsWith xs shown) → Consumes old new (take (place + 1) shown)
    → after ≡ kept before (take place shown) → Passes part.Whole old new before after
passes_whole None new shown before after place found front passed keeps = tt
passes_whole (Some xs) None shown before after place found front passed keeps = absurd passed
passes_whole (Some xs) (Some ys) shown before after place found front passed keeps =
    let split = starts_with_rest xs shown front in
    let rest = drop (length shown) xs in
    let some = (found_place is_feed shown place found).0 in
    let there = (found_place is_feed shown place found).1 in
    let within : place < length shown = omega (arith, place_within is_feed shown some, there) in
    let at : position_or_len is_feed xs ≡ place = ap (position_or_len is_feed) split ∙ place_front is_feed shown rest some ∙ there in
    let line : first_line xs ≡ take place shown =
    ap (λ n. take n xs) at ∙ ap (take place) split ∙ take-append-le place shown rest (omega arith) in
    let left : behind_line xs ≡ ys =
    ap (λ n. drop (n + 1) xs) at ∙ ap (drop (place + 1)) passed
    ∙ drop_at (take (place + 1) shown) ys (place + 1) (length-take-le (place + 1) shown (omega arith)) in
    let any : list_any is_feed xs ≡ true = ap (list_any is_feed) split ∙ list_any-append is_feed shown rest ∙ rw some refl in
    (any, keeps ∙ ap (kept before) (sym line), ap Some (sym left))

-- the part without a line feed was passed over
pub passes_open : (old new : Option (List ℕ)) (shown before after : List ℕ) (n : ℕ)
    → position is_feed shown ≡ None → length shown ≢ 0 → n ≡ length shown → Consumes old new (take n shown)
    → after ≡ kept before shown → Passes part.Open old new before after
passes_open old new shown before after n none some all passed keeps =
    (shown, no_place is_feed shown none, some, subst (Consumes old new) (take_all n shown (omega (arith, all))) passed, keeps)

-- what was read so far: octets without a line feed, of which the line keeps the front
abbrev pub IsRead : Option (List ℕ) → Option (List ℕ) → Bool → List ℕ → Type 0
IsRead old new is_begun line =
    (read : List ℕ) × (list_any is_feed read ≡ false) × Consumes old new read × (line ≡ take most_kept read) × (is_begun ≡ nat_lt 0 (length read))

pub read_again : (old new next : Option (List ℕ)) (is_begun : Bool) (line after : List ℕ) → IsRead old new is_begun line
    → Passes part.Again new next line after → IsRead old next is_begun after
read_again old new next is_begun line after (read, none, passed, keeps, begun) (same, stays) =
    (read, none, Consumes-kept old new next read passed same, stays ∙ keeps, begun)

pub read_more : (old new next : Option (List ℕ)) (is_begun : Bool) (line after : List ℕ) → IsRead old new is_begun line
    → Passes part.Open new next line after → IsRead old next true after
read_more old new next is_begun line after (read, none, passed, keeps, begun) (more, no_feed, some, moved, grown) =
    let long : 0 < length (read ++ more) = omega (arith, length-append read more) in (
      read ++ more,
      list_any-append is_feed read more ∙ rw (none, no_feed) refl,
      Consumes-trans old new next read more passed moved,
      grown ∙ ap (λ l. take most_kept (l ++ more)) keeps ∙ take_front most_kept read more,
      sym (is_below 0 (length (read ++ more)) long),
    )

-- a line that was read to its end is the first
gives_line : (xs next : List ℕ) (after : List ℕ) → xs ≢ [] → after ≡ take most_kept (first_line xs) → next ≡ behind_line xs
    → Gives (found_of (length after)) (Some xs) (Some next) after
gives_line xs next after some keeps left =
    let long = length-take most_kept (first_line xs) in
    let same = ap length keeps in
    elim (cases_Bool (nat_lt longest_line (length after))) [
      | inl e ↦
          let more : longest_line < length after = ltb-true longest_line (length after) e in
          rw e (omega (arith, more, long, same), keeps, ap Some left)
      | inr e ↦
          let few : length after ≤ longest_line = ltb-false longest_line (length after) e in
          let all : length (first_line xs) ≤ longest_line = omega (arith, few, long, same) in
          rw e (some, all, keeps ∙ take_all most_kept (first_line xs) (omega arith), ap Some left)
    ]

-- nothing is said of a reader whose octets aren't known
gives_unknown : (count : ℕ) (next : Option (List ℕ)) (after : List ℕ) → Gives (found_of count) None next after
gives_unknown count next after = elim (cases_Bool (nat_lt longest_line count)) [ inl e ↦ rw e tt | inr e ↦ rw e tt ]

not_nil : (xs : List ℕ) → length xs ≢ 0 → xs ≢ []
not_nil xs some e = some (ap length e)

pub gives_whole : (old new next : Option (List ℕ)) (is_begun : Bool) (line after : List ℕ) → IsRead old new is_begun line
    → Passes part.Whole new next line after → Gives (found_of (length after)) old next after
gives_whole None new next is_begun line after read whole = gives_unknown (length after) next after
gives_whole (Some xs) None next is_begun line after (read, none, passed, keeps, begun) whole = absurd passed
gives_whole (Some xs) (Some ys) next is_begun line after (read, none, passed, keeps, begun) (any, grown, left) =
    let first : first_line xs ≡ read ++ first_line ys = ap first_line passed ∙ first_line-behind read ys none in
    let behind : behind_line ys ≡ behind_line xs = sym (ap behind_line passed ∙ behind_line-behind read ys none) in
    let some : length xs ≢ 0 = λ e. absurd (omega (arith, ap length passed, length-append read ys, place_within is_feed ys any)) in
    let whole : after ≡ take most_kept (first_line xs) =
    grown ∙ ap (λ l. take most_kept (l ++ first_line ys)) keeps ∙ take_front most_kept read (first_line ys) ∙ ap (take most_kept) (sym first) in
    subst (λ (o : Option (List ℕ)). Gives (found_of (length after)) (Some xs) o after) (sym left)
    (gives_line xs (behind_line ys) after (not_nil xs some) whole behind)

pub gives_last : (old new next : Option (List ℕ)) (is_begun : Bool) (line after : List ℕ) → is_begun ≡ true → IsRead old new is_begun line
    → Passes part.End new next line after → Gives (found_of (length after)) old next after
gives_last None new next is_begun line after begins read end = gives_unknown (length after) next after
gives_last (Some xs) None next is_begun line after begins (read, none, passed, keeps, begun) end = absurd passed
gives_last (Some xs) (Some ys) None is_begun line after begins (read, none, passed, keeps, begun) (end, same, stays) = absurd same
gives_last (Some xs) (Some ys) (Some zs) is_begun line after begins (read, none, passed, keeps, begun) (end, same, stays) =
    let is : xs ≡ read ++ [] = passed ∙ ap (λ l. read ++ l) end in
    let first : first_line xs ≡ read = ap first_line is ∙ first_line-behind read [] none ∙ append-nil read in
    let behind : zs ≡ behind_line xs = same ∙ end ∙ sym (ap behind_line is ∙ behind_line-behind read [] none) in
    let has : nat_lt 0 (length read) ≡ true = sym begun ∙ begins in
    let more : 0 < length read = ltb-true 0 (length read) has in
    let some : length xs ≢ 0 = λ e. absurd (omega (arith, ap length is, length-append read [], more)) in
    gives_line xs zs after (not_nil xs some) (stays ∙ keeps ∙ ap (take most_kept) (sym first)) behind

pub gives_end : (old new next : Option (List ℕ)) (is_begun : Bool) (line after : List ℕ) → is_begun ≡ false → IsRead old new is_begun line
    → Passes part.End new next line after → Gives found.End old next after
gives_end None new next is_begun line after no_line read end = tt
gives_end (Some xs) None next is_begun line after no_line (read, none, passed, keeps, begun) end = absurd passed
gives_end (Some xs) (Some ys) next is_begun line after no_line (read, none, passed, keeps, begun) (end, same, stays) =
    let begins : nat_lt 0 (length read) ≡ false = sym begun ∙ no_line in
    let empty : length read ≡ 0 = omega (arith, ltb-false 0 (length read) begins) in
    passed ∙ ap (λ l. l ++ ys) (nil_from_length read empty) ∙ end
