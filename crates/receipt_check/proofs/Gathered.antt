-- One receipt more, and one list of receipts more.
use Rattle.std.proofs.Common.{◌≡◌, ◌≢◌, ℕ, ◌+◌, ◌-◌, ◌<◌, ◌≤◌, ◌==◌, Bool, true, false, List, [], ◌∷◌, ◌++◌, length, get_or, set, take, drop, refl, ap, sym, ◌∙◌, subst, inl, inr, arith, below_more, ⊎_elim, length-append, length-set, get_or-set_other, get_or-set_same}
use Rattle.std.specs.List.{flat_map}
use Rattle.std.proofs.lemmas.Grind.{flat_map-append}
use Rattle.std.proofs.lemmas.List.{append-nil, get_or_append_left, get_or-append_right, get_or-append-add, get_or_default, nil_from_length, take_all, take_more, take-append-drop}
use Rattle.std.proofs.lemmas.List.Folds.{length-flat_map-take, list_any_more}
use Rattle.std.proofs.lemmas.Bool.{cases_eq, cases_lt}
use Rattle.std.proofs.lemmas.Option.{slice_get_within}
use Rattle.radio_book.specs.declared.event.Event.{Event}
use Rattle.radio_book.specs.declared.event.Reply.{Reply}
use Rattle.std.proofs.lemmas.Bool.Decides.{nat_tests}
use Rattle.radio_desk.specs.Receipts.{Receipt}
use Rattle.receipt_check.specs.Gathering.{AreFresh, FirstWrong, StandsAt, has_place}

pub fresh_more : (all : List Receipt) (i : ℕ) (e : Receipt) → i < length all → AreFresh all i → has_place (get_or all i e).place (take i all) ≡ false → AreFresh all (i + 1)
fresh_more all i e lt old here k d below =
    below_more (λ k. (d : Receipt) → has_place (get_or all k d).place (take k all) ≡ false) i (λ k below d. old k d below) (λ d. rw (get_or_default all i d e lt) here) k below d

pub seen_more : (all : List Receipt) (i : ℕ) (e : Receipt) (seen : List Bool) → i < length all → (get_or all i e).place < length seen
    → ((k : ℕ) → k < length seen → get_or seen k false ≡ has_place k (take i all))
    → (k : ℕ) → k < length (set seen (get_or all i e).place true) → get_or (set seen (get_or all i e).place true) k false ≡ has_place k (take (i + 1) all)
seen_more all i e seen lt within old k below =
    let p : ℕ = (get_or all i e).place in
    let in_seen : k < length seen = omega (arith, length-set seen p true) in
    let more = list_any_more (λ (r : Receipt). r.place == k) all i e lt in
    let same : get_or (set seen p true) p false ≡ true = get_or-set_same seen p true false within in
    rw more
    (⊎_elim (λ (is : p ≡ k). grind (arith, nat_tests, same, is)) (λ (other : p ≡ k → ⊥). let apart : k ≢ p = λ q. other (sym q) in grind (arith, nat_tests, get_or-set_other seen p k true false apart, old k in_seen, other))
    (cases_eq p k))

pub place_within : (history : List (Event × Reply)) (all : List Receipt) (i : ℕ) (e : Receipt) (seen : List Bool) → StandsAt history all (length all) → i < length all → length seen ≡ length history → (get_or all i e).place < length seen
place_within history all i e seen stand lt long =
    let r = get_or all i e in
    let within : r.place < length history = slice_get_within history r.place (r.event, r.reply) (stand i e lt) in
    omega arith

pub fresh_here : (all : List Receipt) (i : ℕ) (e : Receipt) (seen : List Bool) (b x : Bool) → (get_or all i e).place < length seen → ((k : ℕ) → k < length seen → get_or seen k false ≡ has_place k (take i all))
    → b ≡ false → b ≡ get_or seen (get_or all i e).place x → has_place (get_or all i e).place (take i all) ≡ false
fresh_here all i e seen b x within old f at =
    let p = (get_or all i e).place in
    sym (old p within) ∙ (get_or_default seen p false x within ∙ (sym at ∙ f))

-- receipts in two parts
module _ (history : List (Event × Reply)) (a b : List Receipt) where
  pub stands_both : StandsAt history a (length a) → StandsAt history b (length b) → StandsAt history (a ++ b) (length (a ++ b))
  stands_both first second k d lt = elim (cases_lt k (length a)) [
    | inl before ↦ rw (get_or_append_left a b d k before) (first k d before)
    | inr behind ↦ rw (get_or-append_right a b (length a) k d refl behind) (second (k - length a) d (omega (arith, length-append a b)))
  ]

  pub wrong_before : (r : Receipt) → FirstWrong history a r → FirstWrong history (a ++ b) r
  wrong_before r w = (
    w.0,
    omega (arith, w.1, length-append a b),
    λ k d lt. let below : k < length a = omega (arith, w.1) in rw (get_or_append_left a b d k below) (w.2 k d lt),
    λ d. get_or_append_left a b d w.0 w.1 ∙ w.3 d,
    w.4,
  )

  pub wrong_behind : (r : Receipt) → StandsAt history a (length a) → FirstWrong history b r → FirstWrong history (a ++ b) r
  wrong_behind r first w = (
    length a + w.0,
    omega (arith, w.1, length-append a b),
    λ k d lt. elim (cases_lt k (length a)) [
      | inl before ↦ rw (get_or_append_left a b d k before) (first k d before)
      | inr behind ↦ rw (get_or-append_right a b (length a) k d refl behind) (w.2 (k - length a) d (omega (arith, lt)))
    ],
    λ d. get_or-append-add a b w.0 d ∙ w.3 d,
    w.4,
  )

-- receipts list by list
module _ {X : Type 0} (f : X → List Receipt) (history : List (Event × Reply)) (xs : List X) (i : ℕ) (e : X) where
  flat_to : i < length xs → flat_map f (take (i + 1) xs) ≡ flat_map f (take i xs) ++ f (get_or xs i e)
  flat_to lt = ap (flat_map f) (take_more xs i e lt) ∙ (flat_map-append f (take i xs) (get_or xs i e ∷ []) ∙ ap (λ l. flat_map f (take i xs) ++ l) (append-nil (f (get_or xs i e))))

  flat_past : flat_map f (take (i + 1) xs) ++ flat_map f (drop (i + 1) xs) ≡ flat_map f xs
  flat_past = sym (flat_map-append f (take (i + 1) xs) (drop (i + 1) xs)) ∙ ap (flat_map f) (take-append-drop (i + 1) xs)

  pub stand_more : i < length xs → StandsAt history (flat_map f (take i xs)) (length (flat_map f (take i xs))) → StandsAt history (f (get_or xs i e)) (length (f (get_or xs i e)))
      → StandsAt history (flat_map f (take (i + 1) xs)) (length (flat_map f (take (i + 1) xs)))
  stand_more lt first second = rw (flat_to lt) (stands_both history (flat_map f (take i xs)) (f (get_or xs i e)) first second)

  pub wrong_among : (r : Receipt) → i < length xs → StandsAt history (flat_map f (take i xs)) (length (flat_map f (take i xs))) → FirstWrong history (f (get_or xs i e)) r → FirstWrong history (flat_map f xs) r
  wrong_among r lt first w =
      let here : FirstWrong history (flat_map f (take (i + 1) xs)) r = rw (flat_to lt) (wrong_behind history (flat_map f (take i xs)) (f (get_or xs i e)) r first w) in
      subst (λ (l : List Receipt). FirstWrong history l r) flat_past (wrong_before history (flat_map f (take (i + 1) xs)) (flat_map f (drop (i + 1) xs)) r here)

-- where those of one list aren't none, those of all aren't
pub some_among : {X : Type 0} (f : X → List Receipt) (xs : List X) (i : ℕ) (e : X) → i < length xs → f (get_or xs i e) ≢ [] → flat_map f xs ≢ []
some_among f xs i e lt some = λ none.
    let no_length : length (flat_map f xs) ≡ 0 = ap length none in
    some (nil_from_length (f (get_or xs i e)) (omega (arith, length-flat_map-take f xs i e lt, no_length)))

-- where there is a receipt, and it stands in the history, that isn't empty
pub some_entry : (history : List (Event × Reply)) (all : List Receipt) → StandsAt history all (length all) → all ≢ [] → history ≢ []
some_entry history [] stand some = λ none. some refl
some_entry history (r ∷ rs) stand some = λ none.
    let within : r.place < length history = slice_get_within history r.place (r.event, r.reply) (stand 0 r (omega arith)) in
    let no_length : length history ≡ 0 = ap length none in
    omega (arith, within, no_length)

-- those of all lists
pub stand_all : {X : Type 0} (f : X → List Receipt) (history : List (Event × Reply)) (xs : List X) (i : ℕ) → length xs ≤ i → StandsAt history (flat_map f (take i xs)) (length (flat_map f (take i xs))) → StandsAt history (flat_map f xs) (length (flat_map f xs))
stand_all {X = X} f history xs i past stand = subst (λ (l : List X). StandsAt history (flat_map f l) (length (flat_map f l))) (take_all i xs past) stand
