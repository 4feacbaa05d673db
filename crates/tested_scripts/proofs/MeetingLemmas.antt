-- Facts of the places to which lines lead.
use Rattle.std.proofs.Common.{◌≡◌, ◌≢◌, ◌⊎◌, inl, inr, ◌↔◌, ℕ, zero, suc, ◌+◌, ◌<◌, ◌≤◌, Bool, true, false, if◌then◌else◌, rules, List, [], ◌∷◌, ◌++◌, Option, Some, None, refl, sym, ap, subst, ◌∙◌, arith, length, take, drop, get_or, add-one, filter_map, min, max, nat_lt, Result, Ok, Err, IfOk, take_all, map, zip, Bor}
use Rattle.std.proofs.lemmas.List.{get_or_default}
use Rattle.std.proofs.lemmas.Bool.{cases_Bool, ltb-true, ltb-false}
use Rattle.std.specs.List.{Contains, cons_option, slice_get, list_any}
use Rattle.std.proofs.lemmas.List.Elements.{Contains-append_left, Contains-append_right, Contains-append_cases}
use Rattle.std.proofs.Math.Seq.{take-suc, take-nil}
use Rattle.std.proofs.lemmas.List.Elements.{filter_map-append}
use Rattle.tested_scripts.specs.Lines.{texts_of, expected_in, is_any}
use Rattle.tested_scripts.specs.declared.compare.CameLine.{CameLine}
use Rattle.tested_scripts.specs.Meeting.{Said, said_of, Takes, Reaches, AreNext, is_at, behind, is_echo, echo_or, begins_with_echo}

pub contains_one : (x y : ℕ) → Contains (x ∷ []) y → x ≡ y
contains_one x y (zero, l, e) = e
contains_one x y (suc k, l, e) = absurd (omega (arith, l))

pub one_contains : (x : ℕ) → Contains (x ∷ []) x
one_contains x = (0, omega arith, refl)

-- one place more
pub contains_more : (xs : List ℕ) (x y : ℕ) → Contains (xs ++ x ∷ []) y → Contains xs y ⊎ (x ≡ y)
contains_more xs x y h = elim (Contains-append_cases xs (x ∷ []) y h) [
  | inl e ↦ inl e
  | inr e ↦ inr (contains_one x y e)
]

-- the lines so far, and one more
pub reaches_more : (came : List Said) (lines : List (List ℕ)) (line : List ℕ) (from between to : ℕ)
    → Reaches came lines from between → Takes came (expected_in line) between to → Reaches came (lines ++ line ∷ []) from to
reaches_more came [] line from between to r t = (to, subst (λ (x : ℕ). Takes came (expected_in line) x to) r t, refl)
reaches_more came (l ∷ ls) line from between to r t = (r.0, r.1, reaches_more came ls line r.0 between to r.2 t)

pub reaches_back : (came : List Said) (lines : List (List ℕ)) (line : List ℕ) (from to : ℕ)
    → Reaches came (lines ++ line ∷ []) from to → (between : ℕ) × Reaches came lines from between × Takes came (expected_in line) between to
reaches_back came [] line from to r = (from, refl, subst (λ (x : ℕ). Takes came (expected_in line) from x) (sym r.2) r.1)
reaches_back came (l ∷ ls) line from to r =
    let more = reaches_back came ls line r.0 to r.2 in
    (more.0, (r.0, r.1, more.1), more.2)

-- the lines so far, and the next
pub take_more : (lines : List (List ℕ)) (i : ℕ) (line : List ℕ) → slice_get lines i ≡ Some line → take (suc i) lines ≡ take i lines ++ (line ∷ [])
take_more [] i line e = absurd (search (rules, e))
take_more (l ∷ ls) zero line e = search (rules, e)
take_more (l ∷ ls) (suc i) line e = ap (λ (more : List (List ℕ)). l ∷ more) (take_more ls i line e)

-- the places to which the lines so far lead, and those to which the next does
pub next_led : (came : List Said) (lines : List (List ℕ)) (start : ℕ) (i : ℕ) (line : List ℕ) (places next : List ℕ) → slice_get lines i ≡ Some line
    → ((p : ℕ) → Contains places p ↔ Reaches came (take i lines) start p) → AreNext came (expected_in line) places next
    → (p : ℕ) → Contains next p ↔ Reaches came (take (i + 1) lines) start p
next_led came lines start i line places next there led are_next p =
    let more : take (i + 1) lines ≡ take i lines ++ (line ∷ []) = rw add-one (take_more lines i line there) in (
      λ h.
          let from = (are_next p).0 h in
          subst (λ (ls : List (List ℕ)). Reaches came ls start p) (sym more)
          (reaches_more came (take i lines) line start from.0 p ((led from.0).0 from.1) from.2),
      λ r.
          let back = reaches_back came (take i lines) line start p (subst (λ (ls : List (List ℕ)). Reaches came ls start p) more r) in
          (are_next p).1 (back.0, (led back.0).1 back.1, back.2),
    )

-- the lower of the least so far and of the next place is one of the places, and none so far is less
pub least_one : (places : List ℕ) (i least lower : ℕ) → i < length places → Contains places least → lower ≡ min least (get_or places i 0) → Contains places lower
least_one places i least lower within one e =
    let next = get_or places i 0 in
    elim (cases_Bool (nat_lt next least)) [
      | inl t ↦
          let is : lower ≡ next = omega (arith, e, ltb-true next least t) in
          subst (Contains places) (sym is) (i, within, get_or_default places i next 0 within)
      | inr t ↦
          let is : lower ≡ least = omega (arith, e, ltb-false next least t) in
          subst (Contains places) (sym is) one
    ]

pub least_all : (places : List ℕ) (i least lower : ℕ) → i < length places → ((k d : ℕ) → k < i → least ≤ get_or places k d) → lower ≡ min least (get_or places i 0)
    → (k d : ℕ) → k < i + 1 → lower ≤ get_or places k d
least_all places i least lower within all e k d h =
    elim (cases_Bool (nat_lt k i)) [
      | inl t ↦ omega (arith, e, all k d (ltb-true k i t))
      | inr t ↦
          let same : k ≡ i = omega (arith, h, ltb-false k i t) in
          let is : get_or places k d ≡ get_or places i 0 = ap (λ (n : ℕ). get_or places n d) same ∙ get_or_default places i d 0 within in
          omega (arith, e, is)
    ]

-- the greater of one more place and the greatest so far is the greatest
pub greatest_one : (places : List ℕ) (i greatest greater : ℕ) → i < length places → Contains places greatest → greater ≡ max greatest (get_or places i 0) → Contains places greater
greatest_one places i greatest greater within one e =
    let next = get_or places i 0 in
    elim (cases_Bool (nat_lt greatest next)) [
      | inl t ↦
          let is : greater ≡ next = omega (arith, e, ltb-true greatest next t) in
          subst (Contains places) (sym is) (i, within, get_or_default places i next 0 within)
      | inr t ↦
          let is : greater ≡ greatest = omega (arith, e, ltb-false greatest next t) in
          subst (Contains places) (sym is) one
    ]

pub greatest_all : (places : List ℕ) (i greatest greater : ℕ) → i < length places → ((k d : ℕ) → k < i → get_or places k d ≤ greatest) → greater ≡ max greatest (get_or places i 0)
    → (k d : ℕ) → k < i + 1 → get_or places k d ≤ greater
greatest_all places i greatest greater within all e k d h =
    elim (cases_Bool (nat_lt k i)) [
      | inl t ↦ omega (arith, e, all k d (ltb-true k i t))
      | inr t ↦
          let same : k ≡ i = omega (arith, h, ltb-false k i t) in
          let is : get_or places k d ≡ get_or places i 0 = ap (λ (n : ℕ). get_or places n d) same ∙ get_or_default places i d 0 within in
          omega (arith, e, is)
    ]

-- what stands behind a place
pub behind_at : (came : List Said) (text : List ℕ) (from to : ℕ) → behind came text from ≡ Some to → (is_at came from text ≡ true) × (to ≡ from + 1)
behind_at came text from to h = by_test (is_at came from text) refl h
  where
    by_test : (b : Bool) → is_at came from text ≡ b → (if b then Some (from + 1) else None) ≡ Some to → (is_at came from text ≡ true) × (to ≡ from + 1)
    by_test true at e = (at, search (rules, e))
    by_test false at e = absurd (search (rules, e))

-- what a filter gives of a list
pub gives_some : (f : ℕ → Option ℕ) (xs : List ℕ) (y : ℕ) → Contains (filter_map f xs) y → (x : ℕ) × Contains xs x × (f x ≡ Some y)
gives_some f [] y (k, l, e) = absurd (omega (arith, l))
gives_some f (x ∷ xs) y h = by_first (f x) refl (gives_some f xs y) h
  where
    by_first : (o : Option ℕ) → f x ≡ o → (Contains (filter_map f xs) y → (z : ℕ) × Contains xs z × (f z ≡ Some y))
        → Contains (cons_option o (filter_map f xs)) y → (z : ℕ) × Contains (x ∷ xs) z × (f z ≡ Some y)
    by_first (Some w) e given h = elim (Contains-append_cases (w ∷ []) (filter_map f xs) y h) [
      | inl first ↦ (x, Contains-append_left (x ∷ []) xs x (one_contains x), e ∙ ap Some (contains_one w y first))
      | inr rest ↦ let more = given rest in (more.0, Contains-append_right (x ∷ []) xs more.0 more.1, more.2)
    ]
    by_first None e given h = let more = given h in (more.0, Contains-append_right (x ∷ []) xs more.0 more.1, more.2)

pub some_given : (f : ℕ → Option ℕ) (xs : List ℕ) (x y : ℕ) → Contains xs x → f x ≡ Some y → Contains (filter_map f xs) y
some_given f [] x y (k, l, e) given = absurd (omega (arith, l))
some_given f (w ∷ xs) x y h given = elim (Contains-append_cases (w ∷ []) xs x h) [
  | inl first ↦
      let is : f w ≡ Some y = ap f (contains_one w x first) ∙ given in
      subst (λ (o : Option ℕ). Contains (cons_option o (filter_map f xs)) y) (sym is) (Contains-append_left (y ∷ []) (filter_map f xs) y (one_contains y))
  | inr rest ↦ by_first (f w) (some_given f xs x y rest given)
]
  where
    by_first : (o : Option ℕ) → Contains (filter_map f xs) y → Contains (cons_option o (filter_map f xs)) y
    by_first (Some z) h = Contains-append_right (z ∷ []) (filter_map f xs) y h
    by_first None h = h

-- To these places lead: one that expects a line, one that expects any, one that expects nothing.
pub text_next : (came : List Said) (text : List ℕ) (places found : List ℕ) → is_any text ≡ false → found ≡ filter_map (behind came text) places → AreNext came (Some text) places found
text_next came text places found is e to = (
  λ h.
      let given = gives_some (behind came text) places to (subst (λ (xs : List ℕ). Contains xs to) e h) in
      let at = behind_at came text given.0 to given.2 in
      (given.0, given.1, inr (is, at.0, at.1)),
  λ (from, one, takes). subst (λ (xs : List ℕ). Contains xs to) (sym e) (by_takes from one takes),
)
  where
    by_takes : (from : ℕ) → Contains places from → Takes came (Some text) from to → Contains (filter_map (behind came text) places) to
    by_takes from one (inl (any, _, _)) = absurd (search (rules, any, is))
    by_takes from one (inr (_, at, next)) =
        some_given (behind came text) places from to one (rw at (ap Some (sym next)))

pub any_next : (came : List Said) (text : List ℕ) (places found : List ℕ) (first : ℕ) → is_any text ≡ true → Contains places first
    → ((k d : ℕ) → k < length places → first ≤ get_or places k d) → ((p : ℕ) → Contains found p ↔ ((first ≤ p) × (p ≤ length came))) → AreNext came (Some text) places found
any_next came text places found first is one least all to = (
  λ h. let within = (all to).0 h in (first, one, inl (is, within.0, within.1)),
  λ (from, (k, l, e), takes). (all to).1 (by_takes from (omega (arith, least k from l, e)) takes),
)
  where
    by_takes : (from : ℕ) → first ≤ from → Takes came (Some text) from to → (first ≤ to) × (to ≤ length came)
    by_takes from low (inl (_, above, within)) = (omega (arith, low, above), within)
    by_takes from low (inr (any, _, _)) = absurd (search (rules, any, is))

-- the places from a start on, and one more
pub range_more : (xs : List ℕ) (start place : ℕ) → start ≤ place → ((p : ℕ) → Contains xs p ↔ ((start ≤ p) × (p < place)))
    → (p : ℕ) → Contains (xs ++ place ∷ []) p ↔ ((start ≤ p) × (p < place + 1))
range_more xs start place low all p = (
  λ h. elim (contains_more xs place p h) [
    | inl e ↦ let w = (all p).0 e in (w.0, omega (arith, w.1))
    | inr e ↦ (omega (arith, low, e), omega (arith, e))
  ],
  λ (above, below). elim (cases_Bool (nat_lt p place)) [
    | inl t ↦ Contains-append_left xs (place ∷ []) p ((all p).1 (above, ltb-true p place t))
    | inr t ↦
        let same : place ≡ p = omega (arith, below, ltb-false p place t) in
        subst (Contains (xs ++ place ∷ [])) same (Contains-append_right xs (place ∷ []) place (one_contains place))
  ],
)

pub range_all : (xs : List ℕ) (first start place count : ℕ) → start ≡ min first (count + 1) → count + 1 ≤ place → place ≤ count + 1
    → ((p : ℕ) → Contains xs p ↔ ((start ≤ p) × (p < place))) → (p : ℕ) → Contains xs p ↔ ((first ≤ p) × (p ≤ count))
range_all xs first start place count e low high all p = (
  λ h. let w = (all p).0 h in (omega (arith, e, high, w.0, w.1), omega (arith, high, w.1)),
  λ (above, below). (all p).1 (omega (arith, e, above), omega (arith, low, below)),
)

-- what is found behind the places is next, unless memory is refused
pub if_text : {T E : Type 0} (items : T → List ℕ) (r : Result T E) (came : List Said) (text : List ℕ) (places : List ℕ) → is_any text ≡ false
    → IfOk r (λ found. items found ≡ filter_map (behind came text) places) → IfOk r (λ found. AreNext came (Some text) places (items found))
if_text items (Ok found) came text places is e = text_next came text places (items found) is e
if_text items (Err fault) came text places is e = e

pub if_any : {T E : Type 0} (items : T → List ℕ) (r : Result T E) (came : List Said) (text : List ℕ) (places : List ℕ) (first : ℕ) → is_any text ≡ true
    → Contains places first → ((k d : ℕ) → k < length places → first ≤ get_or places k d)
    → IfOk r (λ found. (p : ℕ) → Contains (items found) p ↔ ((first ≤ p) × (p ≤ length came))) → IfOk r (λ found. AreNext came (Some text) places (items found))
if_any items (Ok found) came text places first is one least all = any_next came text places (items found) first is one least all
if_any items (Err fault) came text places first is one least all = all

-- some lines lead as far as their front does
pub reaches_front : (came : List Said) (lines : List (List ℕ)) (n from to : ℕ) → Reaches came lines from to → (p : ℕ) × Reaches came (take n lines) from p
reaches_front came [] n from to r = (from, subst (λ (ls : List (List ℕ)). Reaches came ls from from) (sym (take-nil n)) refl)
reaches_front came (line ∷ lines) zero from to r = (from, refl)
reaches_front came (line ∷ lines) (suc n) from to r =
    let more = reaches_front came lines n r.0 to r.2 in
    (more.0, (r.0, r.1, more.1))

-- where the next line leads nowhere, its front isn't met, nor are all lines
pub lost : (came : List Said) (lines : List (List ℕ)) (start : ℕ) (i : ℕ) (line : List ℕ) (places next : List ℕ) → slice_get lines i ≡ Some line
    → ((p : ℕ) → Contains places p ↔ Reaches came (take i lines) start p) → AreNext came (expected_in line) places next → next ≡ []
    → (to : ℕ) → Reaches came (take (i + 1) lines) start to → ⊥
lost came lines start i line places next there led are_next none to r =
    let h = subst (λ (xs : List ℕ). Contains xs to) none ((next_led came lines start i line places next there led are_next to).1 r) in
    omega (arith, h.1)

pub lost_all : (came : List Said) (lines : List (List ℕ)) (start : ℕ) (i : ℕ) → ((to : ℕ) → Reaches came (take (i + 1) lines) start to → ⊥) → (to : ℕ) → Reaches came lines start to → ⊥
lost_all came lines start i none to r = let front = reaches_front came lines (i + 1) start to r in none front.0 front.1

-- none of the places to which lines lead is further behind
pub none_further : (came : List Said) (lines : List (List ℕ)) (start : ℕ) (i : ℕ) (places : List ℕ) (furthest : ℕ) → ((p : ℕ) → Contains places p ↔ Reaches came (take i lines) start p)
    → ((k d : ℕ) → k < length places → get_or places k d ≤ furthest) → (to : ℕ) → Reaches came (take i lines) start to → to ≤ furthest
none_further came lines start i places furthest led all to r =
    let one = (led to).1 r in
    subst (λ (p : ℕ). p ≤ furthest) one.2 (all one.0 to one.1)

-- where no line is left
pub led_all : (came : List Said) (lines : List (List ℕ)) (start : ℕ) (i : ℕ) (places : List ℕ) → length lines ≤ i → ((p : ℕ) → Contains places p ↔ Reaches came (take i lines) start p)
    → (p : ℕ) → Contains places p ↔ Reaches came lines start p
led_all came lines start i places all led = subst (λ (ls : List (List ℕ)). (p : ℕ) → Contains places p ↔ Reaches came ls start p) (take_all i lines all) led

-- the places so far, and what one more gives
pub filter_more : (f : ℕ → Option ℕ) (xs : List ℕ) (i : ℕ) → i < length xs → filter_map f (take (i + 1) xs) ≡ filter_map f (take i xs) ++ filter_map f (get_or xs i 0 ∷ [])
filter_more f xs i within = rw (add-one, take-suc xs i 0 within) (filter_map-append f (take i xs) (get_or xs i 0 ∷ []))

pub none_so_far : (xs : List ℕ) (i x : ℕ) → ((k d : ℕ) → k < i → get_or xs k d ≢ x) → length xs ≤ i → Contains xs x → ⊥
none_so_far xs i x none all (k, l, e) = none k x (omega (arith, l, all)) e

pub none_more : (xs : List ℕ) (i x : ℕ) → i < length xs → ((k d : ℕ) → k < i → get_or xs k d ≢ x) → get_or xs i 0 ≢ x → (k d : ℕ) → k < i + 1 → get_or xs k d ≢ x
none_more xs i x within none other k d h e = elim (cases_Bool (nat_lt k i)) [
  | inl t ↦ none k d (ltb-true k i t) e
  | inr t ↦
      let same : k ≡ i = omega (arith, h, ltb-false k i t) in
      other (sym (get_or_default xs i d 0 within) ∙ (sym (ap (λ (n : ℕ). get_or xs n d) same) ∙ e))
]

-- no place yet
pub range_none : (start place : ℕ) → place ≤ start → (p : ℕ) → Contains [] p ↔ ((start ≤ p) × (p < place))
range_none start place low p = (
  λ (k, l, e). absurd (omega (arith, l)),
  λ (above, below). absurd (omega (arith, low, above, below)),
)

-- whether one of the lines that came passes a test
pub any_said : (test : Said → Bool) (came : List CameLine) → list_any (λ (line : CameLine). test (line.text.now, line.words.now)) came ≡ list_any test (said_of came)
any_said test [] = refl
any_said test (line ∷ came) = rw (any_said test came) refl

-- behind a line that expects nothing the others say whether the echo is there
pub echo_next : (lines : List (Bor (List ℕ))) (i : ℕ) (d : Bor (List ℕ)) → i < length lines → expected_in (get_or lines i d).now ≡ None
    → begins_with_echo (drop i (texts_of lines)) ≡ begins_with_echo (drop (suc i) (texts_of lines))
echo_next [] i d l e = absurd (omega (arith, l))
echo_next (line ∷ lines) zero d l e = ap (λ (o : Option (List ℕ)). echo_or o (begins_with_echo (texts_of lines))) e
echo_next (line ∷ lines) (suc i) d l e = echo_next lines i d (omega (arith, l)) e

-- one that expects something says so itself
pub echo_here : (lines : List (Bor (List ℕ))) (i : ℕ) (d : Bor (List ℕ)) (text : List ℕ) → i < length lines → expected_in (get_or lines i d).now ≡ Some text
    → begins_with_echo (drop i (texts_of lines)) ≡ is_echo text
echo_here [] i d text l e = absurd (omega (arith, l))
echo_here (line ∷ lines) zero d text l e = ap (λ (o : Option (List ℕ)). echo_or o (begins_with_echo (texts_of lines))) e
echo_here (line ∷ lines) (suc i) d text l e = echo_here lines i d text (omega (arith, l)) e

-- where none is left, none is expected
pub echo_none : (lines : List (Bor (List ℕ))) (i : ℕ) → length lines ≤ i → begins_with_echo (drop i (texts_of lines)) ≡ true
echo_none [] zero l = refl
echo_none [] (suc i) l = refl
echo_none (line ∷ lines) zero l = absurd (omega (arith, l))
echo_none (line ∷ lines) (suc i) l = echo_none lines i (omega (arith, l))

-- a line with its words
abbrev pub came_line : Bor (List ℕ) × Bor (List ℕ) → CameLine
came_line two = record { text = two.0; words = two.1 }

pub said_paired : (lines words : List (Bor (List ℕ))) → said_of (map came_line (zip lines words)) ≡ zip (texts_of lines) (texts_of words)
said_paired [] words = refl
said_paired (line ∷ lines) [] = refl
said_paired (line ∷ lines) (word ∷ words) = rw (said_paired lines words) refl

-- what is made of lines and their words is those pairs, unless memory is refused
pub if_paired : {T E : Type 0} (items : T → List CameLine) (r : Result T E) (lines words : List (Bor (List ℕ)))
    → IfOk r (λ came. items came ≡ map came_line (zip lines words)) → IfOk r (λ came. said_of (items came) ≡ zip (texts_of lines) (texts_of words))
if_paired items (Ok came) lines words e = ap (λ (xs : List CameLine). said_of xs) e ∙ said_paired lines words
if_paired items (Err fault) lines words e = e
