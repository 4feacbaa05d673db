-- Facts of the lines of a script.
use Rattle.std.proofs.Common.{◌||◌, ◌≡◌, ◌≢◌, ℕ, ◌+◌, ◌-◌, ◌<◌, ◌∷◌, ◌++◌, List, [], Bool, true, false, cond, nat_lt, Option, Some, None, refl, sym, ap, ◌∙◌, arith, rules, length, take, get_or, is_some, option_map, map, length-append, unwrap_or, suc, zero, ◌==◌, Bor, MatchOption}
use Rattle.std.specs.List.{filter_map, list_any, position_from, enumerate_from, slice_split, cons_option}
use Rattle.std.specs.Str.Lines.{strip_carriage_return}
use Rattle.std.proofs.lemmas.List.{map-append, get_or-map, length-map}
use Rattle.std.proofs.lemmas.List.Elements.{filter_map-append}
use Rattle.std.proofs.Math.Seq.{take-suc, take-length, take-append_seam, get_or-append_seam}
use Rattle.lab_script.specs.declared.script.Given.{Given}
use Rattle.lab_script.specs.declared.script.Item.{Item}
use Rattle.lab_script.specs.Sides.{side_of}
use Rattle.lab_script.specs.Script.{is_sim, is_unreadable, attaches_sim, first_unreadable, lines_of, given_by, item_of, items_of}

-- what a line says makes an item
pub some_item : (A : Type 0) (line : List ℕ) → is_some (given_by {A = A} line) ≡ true → is_some (item_of {A = A} line) ≡ true
some_item A line s = by_given (given_by {A = A} line) s
  where
    by_given : (g : Option (Given A)) → is_some g ≡ true → is_some (option_map {U = Item A} (λ given. record { side = side_of line; given = given }) g) ≡ true
    by_given (Some x) s = refl
    by_given None s = absurd (search rules)

pub strip_carriage_return-append : (front : List ℕ) → strip_carriage_return (front ++ (13 ∷ [])) ≡ front
strip_carriage_return-append front =
    let len : length (front ++ (13 ∷ [])) - 1 ≡ length front = omega (arith, length-append front (13 ∷ [])) in
    rw (len, get_or-append_seam front 13 [] 0, take-append_seam front (13 ∷ [])) refl

pub strip_carriage_return-none : (bs : List ℕ) → ((front : List ℕ) → bs ≢ front ++ (13 ∷ [])) → strip_carriage_return bs ≡ bs
strip_carriage_return-none [] h = refl
strip_carriage_return-none (b ∷ bs) h =
    let len : length (b ∷ bs) - 1 ≡ length bs = omega arith in
    let whole = take-suc (b ∷ bs) (length bs) 0 (omega arith) in
    let last : get_or (b ∷ bs) (length bs) 0 ≢ 13 = λ e. h (take (length bs) (b ∷ bs)) (sym (take-length (b ∷ bs)) ∙ (whole ∙ ap (λ (x : ℕ). take (length bs) (b ∷ bs) ++ (x ∷ [])) e)) in
    rw len (grind (arith, last))

-- what `strip_suffix` and `unwrap_or` give
pub stripped : (line : Bor (List ℕ)) (r : Option (Bor (List ℕ)))
    → MatchOption r ((front : List ℕ) → line.now ≢ front ++ (13 ∷ [])) (λ x. line.now ≡ x.now ++ (13 ∷ []))
    → (unwrap_or r line).now ≡ strip_carriage_return line.now
stripped line None h = sym (strip_carriage_return-none line.now h)
stripped line (Some x) h = rw h (sym (strip_carriage_return-append x.now))

-- the places of a list that is counted from one later, and of one whose items are made from others
pub position_from-suc : {X : Type 0} (p : X → Bool) (i : ℕ) (xs : List X) → position_from p (i + 1) xs ≡ option_map (λ n. n + 1) (position_from p i xs)
position_from-suc p i [] = refl
position_from-suc p i (x ∷ xs) = grind (arith, position_from-suc p (i + 1) xs)

pub position_from-map : {X Y : Type 0} (p : Y → Bool) (f : X → Y) (i : ℕ) (xs : List X) → position_from p i (map f xs) ≡ position_from (λ x. p (f x)) i xs
position_from-map p f i [] = refl
position_from-map p f i (x ∷ xs) = rw (position_from-map p f (i + 1) xs) refl

enumerate_from-map : {X Y : Type 0} (f : X → Y) (n : ℕ) (xs : List X) → enumerate_from n (map f xs) ≡ map (λ (at : ℕ × X). (at.0, f at.1)) (enumerate_from n xs)
enumerate_from-map f n [] = refl
enumerate_from-map f n (x ∷ xs) = ap (λ ys. (n, f x) ∷ ys) (enumerate_from-map f (n + 1) xs)

-- a place stands behind another, if that is there
abbrev pub is_behind : Option ℕ → ℕ → Bool
is_behind first place = unwrap_or (option_map (λ k. nat_lt k place) first) false

none_before : (first : Option ℕ) → is_behind first 0 ≡ false
none_before None = refl
none_before (Some k) = grind arith

one_on : (first : Option ℕ) (place : ℕ) → is_behind (option_map (λ n. n + 1) first) (suc place) ≡ is_behind first place
one_on None place = refl
one_on (Some k) place = grind arith

-- a place stands behind the first that passes just where one before it passes
behind_first : {X : Type 0} (t : X → Bool) (xs : List X) (place : ℕ) → is_behind (position_from t 0 xs) place ≡ list_any t (take place xs)
behind_first t [] zero = refl
behind_first t [] (suc place) = refl
behind_first t (x ∷ xs) zero = none_before (position_from t 0 (x ∷ xs))
behind_first t (x ∷ xs) (suc place) = by_first (t x) (behind_first t xs place)
  where
    by_first : (b : Bool) → is_behind (position_from t 0 xs) place ≡ list_any t (take place xs) → is_behind (cond b (Some 0) (position_from t (0 + 1) xs)) (suc place) ≡ (b || list_any t (take place xs))
    by_first true h = grind arith
    by_first false h = ap (λ first. is_behind first (suc place)) (position_from-suc t 0 xs) ∙ (one_on (position_from t 0 xs) place ∙ h)

-- the number of the first line that can't be read is one more than its place, where the first that attaches the simulators is known
pub first_unreadable-place : (has_peer : Bool) (text : List ℕ) (sim r : Option ℕ)
    → sim ≡ position_from is_sim 0 (lines_of text)
    → r ≡ position_from (λ (at : ℕ × List ℕ). is_unreadable has_peer (is_behind sim at.0) (strip_carriage_return at.1)) 0 (enumerate_from 0 (slice_split (λ b. b == 10) text))
    → option_map (λ n. n + 1) r ≡ first_unreadable has_peer text
first_unreadable-place has_peer text sim r s e =
    let parts = slice_split (λ b. b == 10) text in
    let test : ℕ × List ℕ → Bool = λ at. is_unreadable has_peer (is_behind sim at.0) at.1 in
    let strip : ℕ × List ℕ → ℕ × List ℕ = λ at. (at.0, strip_carriage_return at.1) in
    let attached : is_behind sim ≡ (λ place. attaches_sim (take place (lines_of text))) = λ k place. (ap (λ first. is_behind first place) s ∙ behind_first is_sim (lines_of text) place) k in
    ap (option_map (λ n. n + 1)) e
    ∙ (sym (position_from-suc (λ at. test (strip at)) 0 (enumerate_from 0 parts))
    ∙ (sym (position_from-map test strip 1 (enumerate_from 0 parts))
    ∙ (ap (position_from test 1) (sym (enumerate_from-map strip_carriage_return 0 parts))
    ∙ ap (λ (has_sim : ℕ → Bool). position_from (λ (at : ℕ × List ℕ). is_unreadable has_peer (has_sim at.0) at.1) 1 (enumerate_from 0 (lines_of text))) attached)))

-- where the first line of a kind stands
pub first_place : (p : List ℕ → Bool) (text : List ℕ) (r : Option ℕ)
    → r ≡ position_from (λ line. p (strip_carriage_return line)) 0 (slice_split (λ b. b == 10) text)
    → r ≡ position_from p 0 (lines_of text)
first_place p text r e = e ∙ sym (position_from-map p strip_carriage_return 0 (slice_split (λ b. b == 10) text))

-- where one item gives something, the list isn't empty
pub filter_map-some : {X Y : Type 0} (h : X → Option Y) (xs : List X) (k : ℕ) (d : X) → k < length xs → is_some (h (get_or xs k d)) ≡ true → filter_map h xs ≢ []
filter_map-some h [] k d l s = absurd (omega arith)
filter_map-some h (x ∷ xs) zero d l s = some_first (h x) s
  where
    some_first : (o : Option _) → is_some o ≡ true → cons_option o (filter_map h xs) ≢ []
    some_first (Some y) s = λ e. let none : suc (length (filter_map h xs)) ≡ 0 = ap length e in absurd (omega arith)
    some_first None s = absurd (search rules)
filter_map-some h (x ∷ xs) (suc k) d l s = more (h x) (filter_map-some h xs k d (omega arith) s)
  where
    more : (o : Option _) → filter_map h xs ≢ [] → cons_option o (filter_map h xs) ≢ []
    more (Some y) n = λ e. let none : suc (length (filter_map h xs)) ≡ 0 = ap length e in absurd (omega arith)
    more None n = n

-- what the lines so far give, and one line more
pub items-more : {A : Type 0} (lines : List (Bor (List ℕ))) (line : Bor (List ℕ))
    → filter_map (item_of {A = A}) (map strip_carriage_return (map (λ x. x.now) (lines ++ line ∷ [])))
    ≡ filter_map (item_of {A = A}) (map strip_carriage_return (map (λ x. x.now) lines)) ++ filter_map (item_of {A = A}) (strip_carriage_return line.now ∷ [])
items-more {A = A} lines line =
    let texts = map-append (λ (x : Bor (List ℕ)). x.now) lines (line ∷ []) in
    rw (texts, map-append strip_carriage_return (map (λ (x : Bor (List ℕ)). x.now) lines) (line.now ∷ []))
    (filter_map-append (item_of {A = A}) (map strip_carriage_return (map (λ (x : Bor (List ℕ)). x.now) lines)) (strip_carriage_return line.now ∷ []))

-- a line that gives something is one of the text's
pub items_of-some : {A : Type 0} (text line : List ℕ) (k : ℕ) → k < length (slice_split (λ b. b == 10) text)
    → line ≡ get_or (slice_split (λ b. b == 10) text) k line → is_some (item_of {A = A} (strip_carriage_return line)) ≡ true
    → items_of {A = A} text ≢ []
items_of-some {A = A} text line k l e s =
    let parts = slice_split (λ b. b == 10) text in
    let stripped_line : get_or (map strip_carriage_return parts) k (strip_carriage_return line) ≡ strip_carriage_return line =
    get_or-map strip_carriage_return parts k line (strip_carriage_return line) l ∙ ap strip_carriage_return (sym e) in
    filter_map-some (item_of {A = A}) (map strip_carriage_return parts) k (strip_carriage_return line) (omega (arith, length-map parts strip_carriage_return))
    (ap (λ (x : List ℕ). is_some (item_of {A = A} x)) stripped_line ∙ s)
