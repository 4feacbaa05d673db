-- What the entries of windows answer.
use Rattle.std.proofs.Common.{◌≡◌, ◌≢◌, ℕ, zero, suc, ◌≤◌, ltb, eqb, Bool, true, false, cond, not, List, [], ◌∷◌, ◌++◌, length, filter, Option, Some, None, slice_get, set, get_or, refl, sym, ◌∙◌, ap, arith}
use Rattle.std.proofs.lemmas.Bool.Decides.{nat_tests}
use Rattle.std.proofs.lemmas.Bool.{eq-eqb}
use Rattle.std.proofs.lemmas.Option.{same_Some, none-some, slice_get_past, slice_get-get_or}
use Rattle.std.proofs.lemmas.List.Elements.{All-get_or, All-filter}
use Rattle.std.proofs.lemmas.List.Folds.{find_at, find-append, find-set}
use Rattle.std.proofs.lemmas.List.Quantifiers.{position-Some}
use Rattle.std.specs.List.{find, position, position_or_len}
use Rattle.std.specs.Option.{option_map_or, option_or}
use Rattle.rr_elements.specs.MeasResults.{Results}
use Rattle.measurements.specs.Reports.{Reports, no_reports, last_valid}
use Rattle.ho_procedure.specs.Windows.{Entry, AreKept, IsNoted, is_of, reports_in, reports_with}

-- where a search finds a place, and where it finds none
place_of : (b : Bool) (n i : ℕ) → cond b (Some n) None ≡ Some i → n ≡ i
place_of true n i h = same_Some n i h
place_of false n i h = absurd (none-some i h)

first_place : {X : Type 0} (p : X → Bool) (xs : List X) (i : ℕ) → position p xs ≡ Some i → position_or_len p xs ≡ i
first_place p xs i h = place_of (ltb (position_or_len p xs) (length xs)) (position_or_len p xs) i h

found_at : {X : Type 0} (p : X → Bool) (xs : List X) (i : ℕ) (d : X) → position p xs ≡ Some i → find p xs ≡ Some (get_or xs i d)
found_at p xs i d h = find_at p xs ∙ ap (slice_get xs) (first_place p xs i h) ∙ slice_get-get_or xs i d (position-Some p xs i d h).0

past : (b : Bool) (n len : ℕ) → ltb n len ≡ b → cond b (Some n) None ≡ None → len ≤ n
past true n len e h = absurd (none-some n (sym h))
past false n len e h = grind (arith, nat_tests)

not_found : {X : Type 0} (p : X → Bool) (xs : List X) → position p xs ≡ None → find p xs ≡ None
not_found p xs h = find_at p xs ∙ slice_get_past xs (position_or_len p xs) (past (ltb (position_or_len p xs) (length xs)) (position_or_len p xs) (length xs) refl h)

-- the reports of what was found
abbrev answer : ℕ → Option Entry → Reports
answer width o = option_map_or (λ e. e.1) o (no_reports width)

pub reports_there : (width : ℕ) (xs : List Entry) (call i : ℕ) (d : Entry) → position (is_of call) xs ≡ Some i → (get_or xs i d).1 ≡ reports_in width xs call
reports_there width xs call i d h = sym (ap (answer width) (found_at (is_of call) xs i d h))

pub none_there : (width : ℕ) (xs : List Entry) (call : ℕ) → position (is_of call) xs ≡ None → reports_in width xs call ≡ no_reports width
none_there width xs call h = ap (answer width) (not_found (is_of call) xs h)

-- a call is not another one
apart : (call other n : ℕ) → other ≢ call → eqb n other ≡ true → eqb n call ≡ false
apart call other n h e = by (eqb n call) refl
  where
    by : (b : Bool) → eqb n call ≡ b → b ≡ false
    by true f =
        let one : n ≡ other = grind (arith, nat_tests) in
        let two : n ≡ call = grind (arith, nat_tests) in
        absurd (h (sym one ∙ two))
    by false f = refl

other_call : (call other : ℕ) → other ≢ call → eqb call other ≡ false
other_call call other h = by (eqb call other) refl
  where
    by : (b : Bool) → eqb call other ≡ b → b ≡ false
    by true f =
        let one : call ≡ other = grind (arith, nat_tests) in
        absurd (h (sym one))
    by false f = refl

-- an entry behind the others
pub pushed_same : (width : ℕ) (xs : List Entry) (call : ℕ) (w : Reports) → position (is_of call) xs ≡ None → reports_in width (xs ++ (call, w) ∷ []) call ≡ w
pushed_same width xs call w h =
    ap (answer width)
    (find-append (is_of call) xs ((call, w) ∷ []) ∙ ap (λ o. option_or o (find (is_of call) ((call, w) ∷ []))) (not_found (is_of call) xs h) ∙ ap (λ b. cond b (Some (call, w)) None) (eq-eqb call call refl))

keeps : (o : Option Entry) → option_or o None ≡ o
keeps None = refl
keeps (Some e) = refl

pub pushed_other : (width : ℕ) (xs : List Entry) (call : ℕ) (w : Reports) (other : ℕ) → other ≢ call → reports_in width (xs ++ (call, w) ∷ []) other ≡ reports_in width xs other
pushed_other width xs call w other h =
    ap (answer width)
    (find-append (is_of other) xs ((call, w) ∷ []) ∙ ap (λ b. option_or (find (is_of other) xs) (cond b (Some (call, w)) None)) (other_call call other h) ∙ keeps (find (is_of other) xs))

-- entries that are dropped
none_left : {X : Type 0} (p : X → Bool) (xs : List X) → find p (filter (λ x. not (p x)) xs) ≡ None
none_left p [] = refl
none_left p (x ∷ xs) = by (p x) refl (none_left p xs)
  where
    by : (b : Bool) → p x ≡ b → find p (filter (λ x. not (p x)) xs) ≡ None → find p (cond (not b) (x ∷ filter (λ x. not (p x)) xs) (filter (λ x. not (p x)) xs)) ≡ None
    by true e rest = rest
    by false e rest = ap (λ b. cond b (Some x) (find p (filter (λ x. not (p x)) xs))) e ∙ rest

others_left : {X : Type 0} (p q : X → Bool) → ((x : X) → q x ≡ true → p x ≡ false) → (xs : List X) → find q (filter (λ x. not (p x)) xs) ≡ find q xs
others_left p q h [] = refl
others_left p q h (x ∷ xs) = by (p x) (q x) refl refl (others_left p q h xs)
  where
    by : (b c : Bool) → p x ≡ b → q x ≡ c → find q (filter (λ x. not (p x)) xs) ≡ find q xs → find q (cond (not b) (x ∷ filter (λ x. not (p x)) xs) (filter (λ x. not (p x)) xs)) ≡ cond c (Some x) (find q xs)
    by true true e f rest = let never = h x f in absurd cc
    by true false e f rest = rest
    by false true e f rest = ap (λ c. cond c (Some x) (find q (filter (λ x. not (p x)) xs))) f
    by false false e f rest = ap (λ c. cond c (Some x) (find q (filter (λ x. not (p x)) xs))) f ∙ rest

pub dropped_same : (width : ℕ) (xs : List Entry) (call : ℕ) → reports_in width (filter (λ e. not (is_of call e)) xs) call ≡ no_reports width
dropped_same width xs call = ap (answer width) (none_left (is_of call) xs)

pub dropped_other : (width : ℕ) (xs : List Entry) (call other : ℕ) → other ≢ call → reports_in width (filter (λ e. not (is_of call e)) xs) other ≡ reports_in width xs other
dropped_other width xs call other h = ap (answer width) (others_left (is_of call) (is_of other) (λ e f. apart call other e.0 h f) xs)

pub kept_left : (width : ℕ) (xs : List Entry) (p : Entry → Bool) → AreKept xs width → AreKept (filter p xs) width
kept_left width xs p h = record {
  wide = All-filter p (λ e. e.1.width ≡ width) xs h.wide;
  some = h.some;
  most = h.most;
}

-- a report is added to the entry at a place
set_other : {X : Type 0} (q : X → Bool) (xs : List X) (i : ℕ) (y d : X) → q (get_or xs i d) ≡ false → q y ≡ false → find q (set xs i y) ≡ find q xs
set_other q [] i y d h k = refl
set_other q (x ∷ xs) zero y d h k = ap (λ b. cond b (Some y) (find q xs)) k ∙ sym (ap (λ b. cond b (Some x) (find q xs)) h)
set_other q (x ∷ xs) (suc i) y d h k = ap (λ o. cond (q x) (Some x) o) (set_other q xs i y d h k)

pub noted_same : (width : ℕ) (old new : List Entry) (place call : ℕ) (r : Results) → AreKept old width → position (is_of call) old ≡ Some place → IsNoted place r old new → (reports_in width new call).reports ≡ last_valid width ((reports_in width old call).reports ++ r ∷ [])
noted_same width old new place call r kept at noted =
    let d : Entry = (0, no_reports width) in
    let e : Entry = get_or old place d in
    let there = position-Some (is_of call) old place d at in
    let now : find (is_of call) new ≡ Some (e.0, reports_with r e.1) = ap (find (is_of call)) (noted d) ∙ find-set (is_of call) old place (e.0, reports_with r e.1) (sym (first_place (is_of call) old place at)) there.0 there.1 in
    let before : e.1 ≡ reports_in width old call = reports_there width old call place d at in
    let wide : e.1.width ≡ width = All-get_or (λ e. e.1.width ≡ width) old place d there.0 kept.wide in
    ap (λ o. (answer width o).reports) now ∙ ap (λ n. last_valid n (e.1.reports ++ r ∷ [])) wide ∙ ap (λ w. last_valid width (w.reports ++ r ∷ [])) before

pub noted_other : (width : ℕ) (old new : List Entry) (place call other : ℕ) (r : Results) → position (is_of call) old ≡ Some place → IsNoted place r old new → other ≢ call → reports_in width new other ≡ reports_in width old other
noted_other width old new place call other r at noted h =
    let d : Entry = (0, no_reports width) in
    let e : Entry = get_or old place d in
    let there = position-Some (is_of call) old place d at in
    let not_it : eqb e.0 other ≡ false = other_of e.0 there.1 in
    ap (answer width) (ap (find (is_of other)) (noted d) ∙ set_other (is_of other) old place (e.0, reports_with r e.1) d not_it not_it)
  where
    other_of : (n : ℕ) → eqb n call ≡ true → eqb n other ≡ false
    other_of n e = apart other call n (λ same. h (sym same)) e
