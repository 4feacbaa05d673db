-- The steps that remain without all settled attempts, and those that are held, are those that a walk finds which follows the attempts.
use Rattle.std.proofs.Common.{◌≡◌, ◌⊎◌, inl, inr, Bool, true, false, not, cond, ◌&&◌, ◌==◌, if◌then◌else◌, is_none, List, [], ◌∷◌, ◌++◌, map, Option, Some, None, refl, sym, ◌∙◌, ap, subst}
use Rattle.std.specs.Prelude.{All, Contains, filter}
use Rattle.std.specs.List.{list_any, list_all}
use Rattle.std.specs.Option.{option_to_list}
use Rattle.std.proofs.lemmas.Bool.{and_parts, and_from, or_left, or_right, eq-eqb}
use Rattle.std.proofs.lemmas.List.Elements.{All-head, All-tail, All-nil, All-cons, All-append, All-filter, All-map, All-contains, All-weaker}
use Rattle.std.proofs.lemmas.List.Folds.{list_any_at, Any-from_list_any}
use Rattle.radio_book.specs.declared.undone.StepAt.{StepAt}
use Rattle.radio_book.specs.declared.following.Phase.{Phase}
use Rattle.radio_book.specs.declared.following.Phase.TheVariants.{Open, Awaiting, Settled, Completed}
use Rattle.radio_book.specs.declared.following.Followed.{Followed}
use Rattle.radio_book.specs.Undone.{Undone, others, held_refusals}
use Rattle.radio_book.specs.Following.{stays, stays_in, holds, refused_in, after, phase_after, begun, is_over, is_over_in, settling, settling_in, followed_on, remains, is_held_by, remaining_from, all_held_from}
use Rattle.radio_book.specs.Together.{stands_in}
use Rattle.radio_book.proofs.Frame.{same_some}
use Rattle.radio_book.proofs.Standing.{Follows, OpensNow, Waits, follows_settles}

-- TESTS

same_test : (x y : Bool) → (x ≡ true → y ≡ true) → (y ≡ true → x ≡ true) → x ≡ y
same_test true y forth back = sym (forth refl)
same_test false true forth back = back refl
same_test false false forth back = refl

all_pass : {X : Type 0} (test : X → Bool) (xs : List X) → All (λ x. test x ≡ true) xs → list_all test xs ≡ true
all_pass test [] all = refl
all_pass test (x ∷ xs) all = and_from (test x) (list_all test xs) (All-head (λ x. test x ≡ true) x xs all) (all_pass test xs (All-tail (λ x. test x ≡ true) x xs all))

each_passes : {X : Type 0} (test : X → Bool) (xs : List X) → list_all test xs ≡ true → All (λ x. test x ≡ true) xs
each_passes test [] all = All-nil (λ x. test x ≡ true)
each_passes test (x ∷ xs) all =
    let both = and_parts (test x) (list_all test xs) all in
    All-cons (λ x. test x ≡ true) x xs both.0 (each_passes test xs both.1)

-- an element that passes is found, and what is found is an element
any_there : {X : Type 0} (test : X → Bool) (xs : List X) (x : X) → Contains xs x → test x ≡ true → list_any test xs ≡ true
any_there test xs x (k, less, at) passes = list_any_at test xs k x less (ap test at ∙ passes)

any_found : {X : Type 0} (test : X → Bool) (xs : List X) → list_any test xs ≡ true → (x : X) × Contains xs x × (test x ≡ true)
any_found test xs some = let found = Any-from_list_any test xs some in (found.1, (found.0, found.2, found.3), found.4)

-- ATTEMPTS IN A LIST

abbrev pub Has : List Followed → Followed → Type 0
Has [] p = ⊥
Has (q ∷ ps) p = (q ≡ p) ⊎ Has ps p

has_more : (b : Bool) (q : Followed) (ps : List Followed) (p : Followed) → Has ps p → Has (cond b (q ∷ ps) ps) p
has_more true q ps p has = inr has
has_more false q ps p has = has

has_filter : (test : Followed → Bool) (ps : List Followed) (p : Followed) → Has ps p → test p ≡ true → Has (filter test ps) p
has_filter test [] p has passes = absurd has
has_filter test (q ∷ ps) p (inl same) passes = subst (λ b. Has (cond b (q ∷ filter test ps) (filter test ps)) p) (sym (ap test same ∙ passes)) (inl same)
has_filter test (q ∷ ps) p (inr has) passes = has_more (test q) q (filter test ps) p (has_filter test ps p has passes)

has_map : (f : Followed → Followed) (ps : List Followed) (p : Followed) → Has ps p → Has (map f ps) (f p)
has_map f [] p has = absurd has
has_map f (q ∷ ps) p (inl same) = inl (ap f same)
has_map f (q ∷ ps) p (inr has) = inr (has_map f ps p has)

has_left : (ps qs : List Followed) (p : Followed) → Has ps p → Has (ps ++ qs) p
has_left [] qs p has = absurd has
has_left (q ∷ ps) qs p (inl same) = inl same
has_left (q ∷ ps) qs p (inr has) = inr (has_left ps qs p has)

has_last : (ps : List Followed) (p : Followed) → Has (ps ++ (p ∷ [])) p
has_last [] p = inl refl
has_last (q ∷ ps) p = inr (has_last ps p)

has_all : (P : Followed → Type 0) (ps : List Followed) (p : Followed) → All P ps → Has ps p → P p
has_all P [] p all has = absurd has
has_all P (q ∷ ps) p all (inl same) = subst P same (All-head P q ps all)
has_all P (q ∷ ps) p all (inr has) = has_all P ps p (All-tail P q ps all) has

has_any : (test : Followed → Bool) (ps : List Followed) (p : Followed) → Has ps p → test p ≡ true → list_any test ps ≡ true
has_any test [] p has passes = absurd has
has_any test (q ∷ ps) p (inl same) passes = or_left (test q) (list_any test ps) (ap test same ∙ passes)
has_any test (q ∷ ps) p (inr has) passes = or_right (test q) (list_any test ps) (has_any test ps p has passes)

-- AN ATTEMPT THAT IS OVER

module _ (p : Followed) (s : StepAt) where
  over_stays : is_over p ≡ true → stays p s ≡ true
  over_stays = by p.phase
    where
      by : (phase : Phase) → is_over_in phase ≡ true → stays_in phase p.call p.target s ≡ true
      by (Open number) over = cc
      by Awaiting over = cc
      by Settled over = refl
      by Completed over = refl

  over_holds : is_over p ≡ true → holds p s ≡ false
  over_holds = by p.phase
    where
      by : (phase : Phase) → is_over_in phase ≡ true → stays_in phase p.call p.target s && refused_in phase p.target s ≡ false
      by (Open number) over = cc
      by Awaiting over = cc
      by Settled over = refl
      by Completed over = refl

  over_after : is_over p ≡ true → is_over (after p s) ≡ true
  over_after = by p.phase
    where
      by : (phase : Phase) → is_over_in phase ≡ true → is_over_in (phase_after phase p.call p.target s) ≡ true
      by (Open number) over = cc
      by Awaiting over = cc
      by Settled over = refl
      by Completed over = refl

-- WHERE ALL ATTEMPTS STAND

-- where one stands: it waits for its opening, or it is followed, unless it is over
abbrev pub IsPlaced : Undone → List Followed → List StepAt → Type 0
IsPlaced u ps ss = Waits u ss ⊎ ((p : Followed) × (Has ps p ⊎ (is_over p ≡ true)) × Follows u p ss)

pub record Stands (us : List Undone) (ps : List Followed) (ss : List StepAt) : Type 0 where
  pub placed : All (λ u. IsPlaced u ps ss) us
  pub followed : All (λ p. (u : Undone) × Contains us u × Follows u p ss) ps

-- each attempt that opens among the steps and settles is one of them
abbrev pub AreAll : List Undone → List StepAt → Type 0
AreAll us [] = Unit {0}
AreAll us (s ∷ ss) = ((p : Followed) → settling s ss ≡ Some p → (u : Undone) × Contains us u × (u.opening ≡ s)) × AreAll us ss

module _ (us : List Undone) (ps : List Followed) (s : StepAt) (ss : List StepAt) (stands : Stands us ps (s ∷ ss)) (are_all : AreAll us (s ∷ ss)) where
  abbrev Of : Undone → Followed → Type 0
  Of u p = Follows u p (s ∷ ss)

  -- an attempt whose opening is this step opens now
  opens_now : (u : Undone) → Contains us u → u.opening ≡ s → OpensNow u s ss
  opens_now u in' is = by (All-contains (λ u. IsPlaced u ps (s ∷ ss)) us u stands.placed in')
    where
      same : (u.opening.place == s.place) ≡ true
      same = eq-eqb u.opening.place s.place (ap (λ (s : StepAt). s.place) is)

      by : IsPlaced u ps (s ∷ ss) → OpensNow u s ss
      by (inl (inl now)) = now
      by (inl (inr later)) = let bad : true ≡ false = sym same ∙ later.0.later in cc
      by (inr (p, where', follows)) = let bad : true ≡ false = sym same ∙ follows.0.earlier in cc

  now_settles : (u : Undone) → OpensNow u s ss → settling s ss ≡ Some (begun u.call u.target)
  now_settles u now =
      ap (λ o. settling_in o ss) now.shown
      ∙ ap (λ q. if q then Some (begun u.call u.target) else None) (follows_settles u (begun u.call u.target) ss now.follows)

  -- the followed attempts at this step
  stays_too : (p : Followed) → (u : Undone) × Contains us u × Of u p → All (λ u. stands_in (others u) s ≡ true) us → stays p s ≡ true
  stays_too p (u, in', follows) all = sym follows.0.stay ∙ All-contains (λ u. stands_in (others u) s ≡ true) us u all in'

  none_opens : (o : Option Followed) → settling s ss ≡ o → All (λ u. stands_in (others u) s ≡ true) us → is_none o ≡ true
  none_opens None is each = refl
  none_opens (Some p) is each =
      let found = are_all.0 p is in
      let bad : true ≡ false = sym (All-contains (λ u. stands_in (others u) s ≡ true) us found.0 each found.1) ∙ (opens_now found.0 found.1 found.2).left_out in cc

  stands_still : (u : Undone) → IsPlaced u ps (s ∷ ss) → is_none (settling s ss) ≡ true → All (λ p. stays p s ≡ true) ps → stands_in (others u) s ≡ true
  stands_still u (inl (inl now)) none each = let bad : false ≡ true = sym (ap is_none (now_settles u now)) ∙ none in cc
  stands_still u (inl (inr later)) none each = later.0.stay
  stands_still u (inr (p, inl has, follows)) none each = follows.0.stay ∙ has_all (λ p. stays p s ≡ true) ps p each has
  stands_still u (inr (p, inr over, follows)) none each = follows.0.stay ∙ over_stays p s over

  all_remain : list_all (λ u. stands_in (others u) s) us ≡ true → is_none (settling s ss) && list_all (λ p. stays p s) ps ≡ true
  all_remain all =
      let each = each_passes (λ (u : Undone). stands_in (others u) s) us all in
      and_from (is_none (settling s ss)) (list_all (λ p. stays p s) ps) (none_opens (settling s ss) refl each)
      (all_pass (λ (p : Followed). stays p s) ps
      (All-weaker (λ p. (u : Undone) × Contains us u × Of u p) (λ p. stays p s ≡ true) (λ p of. stays_too p of each) ps stands.followed))

  remain_all : is_none (settling s ss) && list_all (λ p. stays p s) ps ≡ true → list_all (λ u. stands_in (others u) s) us ≡ true
  remain_all all =
      let both = and_parts (is_none (settling s ss)) (list_all (λ p. stays p s) ps) all in
      all_pass (λ (u : Undone). stands_in (others u) s) us
      (All-weaker (λ u. IsPlaced u ps (s ∷ ss)) (λ u. stands_in (others u) s ≡ true) (λ u placed. stands_still u placed both.0 (each_passes (λ (p : Followed). stays p s) ps both.1)) us stands.placed)

  pub remains_same : list_all (λ u. stands_in (others u) s) us ≡ remains ps s ss
  remains_same = same_test (list_all (λ u. stands_in (others u) s) us) (remains ps s ss) all_remain remain_all

  holder : (u : Undone) → IsPlaced u ps (s ∷ ss) → stands_in (held_refusals u) s ≡ true → list_any (λ p. holds p s) ps ≡ true
  holder u (inl (inl now)) held = let bad : true ≡ false = sym held ∙ now.not_held in cc
  holder u (inl (inr later)) held = let bad : true ≡ false = sym held ∙ later.0.not_held in cc
  holder u (inr (p, inl has, follows)) held = has_any (λ p. holds p s) ps p has (sym follows.0.held ∙ held)
  holder u (inr (p, inr over, follows)) held = let bad : true ≡ false = sym held ∙ follows.0.held ∙ over_holds p s over in cc

  any_holds : list_any (λ u. stands_in (held_refusals u) s) us ≡ true → list_any (λ p. holds p s) ps ≡ true
  any_holds some =
      let found = any_found (λ (u : Undone). stands_in (held_refusals u) s) us some in
      holder found.0 (All-contains (λ u. IsPlaced u ps (s ∷ ss)) us found.0 stands.placed found.1) found.2

  holds_any : list_any (λ p. holds p s) ps ≡ true → list_any (λ u. stands_in (held_refusals u) s) us ≡ true
  holds_any some =
      let found = any_found (λ (p : Followed). holds p s) ps some in
      let of = All-contains (λ p. (u : Undone) × Contains us u × Of u p) ps found.0 stands.followed found.1 in
      any_there (λ u. stands_in (held_refusals u) s) us of.0 of.1 (of.2.0.held ∙ found.2)

  pub held_same : list_any (λ u. stands_in (held_refusals u) s) us ≡ is_held_by ps s
  held_same = same_test (list_any (λ u. stands_in (held_refusals u) s) us) (is_held_by ps s) any_holds holds_any

  -- after the step
  abbrev next : List Followed
  next = followed_on ps s ss

  abbrev going : List Followed
  going = filter (λ p. not (is_over p)) (map (λ p. after p s) ps)

  goes_on : (p : Followed) → Has ps p ⊎ (is_over p ≡ true) → Has next (after p s) ⊎ (is_over (after p s) ≡ true)
  goes_on p (inl has) = by (is_over (after p s)) refl
    where
      by : (q : Bool) → is_over (after p s) ≡ q → Has next (after p s) ⊎ (is_over (after p s) ≡ true)
      by true over = inr over
      by false open' = inl (has_left going (option_to_list (settling s ss)) (after p s) (has_filter (λ p. not (is_over p)) (map (λ p. after p s) ps) (after p s) (has_map (λ p. after p s) ps p has) (ap not open')))
  goes_on p (inr over) = inr (over_after p s over)

  placed_next : (u : Undone) → IsPlaced u ps (s ∷ ss) → IsPlaced u next ss
  placed_next u (inl (inl now)) =
      inr (begun u.call u.target, inl (subst (λ o. Has (going ++ option_to_list o) (begun u.call u.target)) (sym (now_settles u now)) (has_last going (begun u.call u.target))), now.follows)
  placed_next u (inl (inr later)) = inl later.1
  placed_next u (inr (p, where', follows)) = inr (after p s, goes_on p where', follows.1)

  opened_next : (o : Option Followed) → settling s ss ≡ o → All (λ p. (u : Undone) × Contains us u × Follows u p ss) (option_to_list o)
  opened_next None is = All-nil (λ p. (u : Undone) × Contains us u × Follows u p ss)
  opened_next (Some p) is =
      let found = are_all.0 p is in
      let now = opens_now found.0 found.1 found.2 in
      let same : begun found.0.call found.0.target ≡ p = same_some _ _ (sym (now_settles found.0 now) ∙ is) in
      All-cons (λ p. (u : Undone) × Contains us u × Follows u p ss) p [] (found.0, found.1, subst (λ p. Follows found.0 p ss) same now.follows) (All-nil (λ p. (u : Undone) × Contains us u × Follows u p ss))

  pub stands_next : Stands us next ss
  stands_next = record {
    placed = All-weaker (λ u. IsPlaced u ps (s ∷ ss)) (λ u. IsPlaced u next ss) placed_next us stands.placed;
    followed = All-append (λ p. (u : Undone) × Contains us u × Follows u p ss) going (option_to_list (settling s ss))
        (All-filter (λ p. not (is_over p)) (λ p. (u : Undone) × Contains us u × Follows u p ss) (map (λ p. after p s) ps)
        (All-map (λ p. (u : Undone) × Contains us u × Follows u p ss) (λ p. after p s) ps
        (All-weaker (λ p. (u : Undone) × Contains us u × Of u p) (λ p. (u : Undone) × Contains us u × Follows u (after p s) ss) (λ p of. (of.0, of.1, of.2.1)) ps stands.followed)))
        (opened_next (settling s ss) refl);
  }

-- THE WALK

pub remaining_same : (us : List Undone) (ss : List StepAt) (ps : List Followed) → Stands us ps ss → AreAll us ss → filter (λ s. list_all (λ u. stands_in (others u) s) us) ss ≡ remaining_from ps ss
remaining_same us [] ps stands are_all = refl
remaining_same us (s ∷ ss) ps stands are_all =
    let rest = remaining_same us ss (followed_on ps s ss) (stands_next us ps s ss stands are_all) are_all.1 in
    ap (λ q. cond q (s ∷ filter (λ s. list_all (λ u. stands_in (others u) s) us) ss) (filter (λ s. list_all (λ u. stands_in (others u) s) us) ss)) (remains_same us ps s ss stands are_all)
    ∙ ap (λ xs. cond (remains ps s ss) (s ∷ xs) xs) rest

pub all_held_same : (us : List Undone) (ss : List StepAt) (ps : List Followed) → Stands us ps ss → AreAll us ss → filter (λ s. list_any (λ u. stands_in (held_refusals u) s) us) ss ≡ all_held_from ps ss
all_held_same us [] ps stands are_all = refl
all_held_same us (s ∷ ss) ps stands are_all =
    let rest = all_held_same us ss (followed_on ps s ss) (stands_next us ps s ss stands are_all) are_all.1 in
    ap (λ q. cond q (s ∷ filter (λ s. list_any (λ u. stands_in (held_refusals u) s) us) ss) (filter (λ s. list_any (λ u. stands_in (held_refusals u) s) us) ss)) (held_same us ps s ss stands are_all)
    ∙ ap (λ xs. cond (is_held_by ps s) (s ∷ xs) xs) rest
