-- Where the settled attempts of a list stand at each of its steps, and that the steps which remain, and those which are held, are
-- those that a walk with the attempts that are followed finds.
use Rattle.std.proofs.Common.{◌≡◌, ◌⊎◌, inl, inr, ℕ, ◌<◌, Bool, true, false, cond, ◌||◌, ◌==◌, if◌then◌else◌, IsTrue, List, [], ◌∷◌, ◌++◌, length, get_or, Option, Some, None, refl, sym, ◌∙◌, ap, subst, append_assoc, arith}
use Rattle.std.specs.Prelude.{All}
use Rattle.std.proofs.lemmas.Bool.{or_right, eq-eqb, ne_eqb}
use Rattle.std.proofs.lemmas.List.Elements.{All-head, All-tail, All-nil, All-cons, All-append}
use Rattle.std.proofs.lemmas.List.Folds.{list_any-append}
use Rattle.channel_fsm.specs.declared.ChanId.{ChanId}
use Rattle.radio_book.specs.declared.undone.StepAt.{StepAt}
use Rattle.radio_book.specs.declared.following.Phase.TheVariants.{Open, Awaiting, Settled}
use Rattle.radio_book.specs.declared.following.Followed.{Followed}
use Rattle.radio_book.specs.Kinds.{Undoes, is_accepted}
use Rattle.radio_book.specs.Undone.{Undone, IsUndoneIn, Ends, others, held_refusals, is_settled, releases}
use Rattle.radio_book.specs.Found.{ends}
use Rattle.radio_book.specs.Following.{stays, holds, after, begun, number_with, others_from, held_from, is_settled_in, leaves_off, settles, opening_of}
use Rattle.radio_book.specs.Together.{stands_in}
use Rattle.radio_book.proofs.UndoneFacts.{ends_from}
use Rattle.radio_book.proofs.FollowFacts.{in_phase, left_in, at_undo, after_goes, not_ending, behind, others_are, held_are, settles_are}
use Rattle.radio_book.proofs.RemainderFacts.{is_opening}
use Rattle.radio_book.proofs.Passing.{EndsProperly}

-- STEPS THAT RISE

-- each step stands behind those before it
abbrev pub Rises : List StepAt → Type 0
Rises [] = Unit {0}
Rises (s ∷ ss) = All (λ t. s.place < t.place) ss × Rises ss

apart : (n m : ℕ) → n < m → (n == m) ≡ false
apart n m less = ne_eqb n m (λ same. omega (arith, same, less))

apart_back : (n m : ℕ) → n < m → (m == n) ≡ false
apart_back n m less = ne_eqb m n (λ same. omega (arith, same, less))

-- steps that all stand before one, or all behind it, don't have it
none_before : (s : StepAt) (ss : List StepAt) → All (λ t. t.place < s.place) ss → stands_in ss s ≡ false
none_before s [] all = refl
none_before s (t ∷ ss) all =
    ap (λ q. q || stands_in ss s) (apart t.place s.place (All-head (λ t. t.place < s.place) t ss all)) ∙ none_before s ss (All-tail (λ t. t.place < s.place) t ss all)

none_behind : (s : StepAt) (ss : List StepAt) → All (λ t. s.place < t.place) ss → stands_in ss s ≡ false
none_behind s [] all = refl
none_behind s (t ∷ ss) all =
    ap (λ q. q || stands_in ss s) (apart_back s.place t.place (All-head (λ t. s.place < t.place) t ss all)) ∙ none_behind s ss (All-tail (λ t. s.place < t.place) t ss all)

stands_first : (s : StepAt) (ss : List StepAt) → stands_in (s ∷ ss) s ≡ true
stands_first s ss = ap (λ q. q || stands_in ss s) (eq-eqb s.place s.place refl)

-- what holds of all steps holds of those that stay, and of those that are held
all_others : (P : StepAt → Type 0) (p : Followed) (ss : List StepAt) → All P ss → All P (others_from p ss)
all_others P p [] all = All-nil P
all_others P p (s ∷ ss) all = by (all_others P (after p s) ss (All-tail P s ss all)) (stays p s)
  where
    by : All P (others_from (after p s) ss) → (q : Bool) → All P (cond q (s ∷ others_from (after p s) ss) (others_from (after p s) ss))
    by rest true = All-cons P s (others_from (after p s) ss) (All-head P s ss all) rest
    by rest false = rest

all_held : (P : StepAt → Type 0) (p : Followed) (ss : List StepAt) → All P ss → All P (held_from p ss)
all_held P p [] all = All-nil P
all_held P p (s ∷ ss) all = by (all_held P (after p s) ss (All-tail P s ss all)) (holds p s)
  where
    by : All P (held_from (after p s) ss) → (q : Bool) → All P (cond q (s ∷ held_from (after p s) ss) (held_from (after p s) ss))
    by rest true = All-cons P s (held_from (after p s) ss) (All-head P s ss all) rest
    by rest false = rest

-- ONE ATTEMPT, FOLLOWED

-- at a step that follows its opening: whether it is one of its others, and one of its held refusals, says how far it has come
pub record Reads (u : Undone) (p : Followed) (s : StepAt) : Type 0 where
  pub earlier : (u.opening.place == s.place) ≡ false
  pub stay : stands_in (others u) s ≡ stays p s
  pub held : stands_in (held_refusals u) s ≡ holds p s
  pub proper : EndsProperly p s

-- so at each step, and in the end it is settled
abbrev pub Follows : Undone → Followed → List StepAt → Type 0
Follows u p [] = is_settled_in p.phase ≡ true
Follows u p (s ∷ ss) = Reads u p s × Follows u (after p s) ss

-- at its opening, and before
pub record OpensNow (u : Undone) (s : StepAt) (ss : List StepAt) : Type 0 where
  pub is : s ≡ u.opening
  pub shown : opening_of s ≡ Some (begun u.call u.target)
  pub left_out : stands_in (others u) s ≡ false
  pub not_held : stands_in (held_refusals u) s ≡ false
  pub follows : Follows u (begun u.call u.target) ss

pub record OpensLater (u : Undone) (s : StepAt) : Type 0 where
  pub later : (u.opening.place == s.place) ≡ false
  pub stay : stands_in (others u) s ≡ true
  pub not_held : stands_in (held_refusals u) s ≡ false

abbrev pub Waits : Undone → List StepAt → Type 0
Waits u [] = ⊥
Waits u (s ∷ ss) = OpensNow u s ss ⊎ (OpensLater u s × Waits u ss)

pub follows_settles : (u : Undone) (p : Followed) (ss : List StepAt) → Follows u p ss → settles p ss ≡ true
follows_settles u p [] follows = follows
follows_settles u p (s ∷ ss) follows = follows_settles u (after p s) ss follows.1

-- the steps that end it, among those that follow
abbrev EndsWell : Followed → List StepAt → Type 0
EndsWell p [] = Unit {0}
EndsWell p (s ∷ ss) = EndsProperly p s × EndsWell (after p s) ss

module _ (c : ℕ) (target : Option ChanId) where
  settled_ends : (ss : List StepAt) → EndsWell (in_phase c target Settled) ss
  settled_ends [] = tt
  settled_ends (s ∷ ss) = (tt, settled_ends ss)

  awaiting_ends : (ss : List StepAt) → EndsWell (in_phase c target Awaiting) ss
  awaiting_ends [] = tt
  awaiting_ends (s ∷ ss) = (tt, by (awaiting_ends ss) (releases target s))
    where
      by : EndsWell (in_phase c target Awaiting) ss → (q : Bool) → EndsWell (in_phase c target (if q then Settled else Awaiting)) ss
      by rest true = settled_ends ss
      by rest false = rest

  left_ends : (awaited : Bool) (ss : List StepAt) → EndsWell (in_phase c target (left_in c target awaited)) ss
  left_ends true ss = awaiting_ends ss
  left_ends false ss = settled_ends ss

  open_ends : (between : List StepAt) (number : Option ℕ) (undo : StepAt) (tail : List StepAt) → All (λ s. Ends c s → ⊥) between → Undoes c undo.event → IsTrue (is_accepted undo.reply) →
      EndsWell (in_phase c target (Open number)) (between ++ (undo ∷ tail))
  open_ends [] number undo tail goes_on undoes accepted =
      (λ test. undoes, subst (λ p. EndsWell p tail) (sym (at_undo c target number undo undoes accepted)) (left_ends (leaves_off undo.reply) tail))
  open_ends (s ∷ between) number undo tail goes_on undoes accepted =
      let first : Ends c s → ⊥ = All-head (λ s. Ends c s → ⊥) s between goes_on in (
        λ test. absurd (first (ends_from c s test)),
        subst (λ p. EndsWell p (between ++ (undo ∷ tail))) (sym (after_goes c target number s (not_ending c s first)))
            (open_ends between (number_with c number s) undo tail (All-tail (λ s. Ends c s → ⊥) s between goes_on) undoes accepted),
      )

-- one step more in front of what is kept
moved_over : (pre o : List StepAt) (s : StepAt) (q : Bool) → pre ++ cond q (s ∷ o) o ≡ (pre ++ cond q (s ∷ []) []) ++ o
moved_over pre o s true = sym (append_assoc pre (s ∷ []) o)
moved_over pre o s false = sym (append_assoc pre [] o)

-- all of a list stand before each of another
abbrev AllBefore : List StepAt → List StepAt → Type 0
AllBefore pre ss = All (λ s. All (λ t. t.place < s.place) pre) ss

before_more : (pre ss : List StepAt) (s : StepAt) (q : Bool) → All (λ t. s.place < t.place) ss → AllBefore pre ss → AllBefore (pre ++ cond q (s ∷ []) []) ss
before_more pre ss s q behind before = λ k d less.
    All-append (λ x. x.place < (get_or ss k d).place) pre (cond q (s ∷ []) []) (before k d less) (by k d less q)
  where
    by : (k : ℕ) (d : StepAt) → k < length ss → (q : Bool) → All (λ x. x.place < (get_or ss k d).place) (cond q (s ∷ []) [])
    by k d less true = All-cons (λ x. x.place < (get_or ss k d).place) s [] (behind k d less) (All-nil (λ x. x.place < (get_or ss k d).place))
    by k d less false = All-nil (λ x. x.place < (get_or ss k d).place)

-- whether the step stands among those that are kept
stands_here : (pre o : List StepAt) (s : StepAt) (q : Bool) → All (λ t. t.place < s.place) pre → All (λ t. s.place < t.place) o → stands_in (pre ++ cond q (s ∷ o) o) s ≡ q
stands_here pre o s q before behind =
    list_any-append (λ t. t.place == s.place) pre (cond q (s ∷ o) o)
    ∙ ap (λ p. p || stands_in (cond q (s ∷ o) o) s) (none_before s pre before) ∙ by q
  where
    by : (q : Bool) → stands_in (cond q (s ∷ o) o) s ≡ q
    by true = stands_first s o
    by false = none_behind s o behind

module _ (u : Undone) where
  follows_on : (ss : List StepAt) (p : Followed) (pre kept : List StepAt) → others u ≡ pre ++ others_from p ss → held_refusals u ≡ kept ++ held_from p ss → Rises ss → AllBefore pre ss → AllBefore kept ss →
      All (λ s. u.opening.place < s.place) ss → EndsWell p ss → settles p ss ≡ true → Follows u p ss
  follows_on [] p pre kept same same_held rises before held_before opened ends settled = settled
  follows_on (s ∷ ss) p pre kept same same_held rises before held_before opened ends settled =
      let behind = rises.0 in
      let o = others_from (after p s) ss in
      let h = held_from (after p s) ss in (
        record {
          earlier = apart u.opening.place s.place (All-head (λ s. u.opening.place < s.place) s ss opened);
          stay = ap (λ xs. stands_in xs s) same
              ∙ stands_here pre o s (stays p s) (All-head (λ s. All (λ t. t.place < s.place) pre) s ss before) (all_others (λ t. s.place < t.place) (after p s) ss behind);
          held = ap (λ xs. stands_in xs s) same_held
              ∙ stands_here kept h s (holds p s) (All-head (λ s. All (λ t. t.place < s.place) kept) s ss held_before) (all_held (λ t. s.place < t.place) (after p s) ss behind);
          proper = ends.0;
        },
        follows_on ss (after p s) (pre ++ cond (stays p s) (s ∷ []) []) (kept ++ cond (holds p s) (s ∷ []) [])
            (same ∙ moved_over pre o s (stays p s)) (same_held ∙ moved_over kept h s (holds p s)) rises.1
            (before_more pre ss s (stays p s) behind (All-tail (λ s. All (λ t. t.place < s.place) pre) s ss before))
            (before_more kept ss s (holds p s) behind (All-tail (λ s. All (λ t. t.place < s.place) kept) s ss held_before))
            (All-tail (λ s. u.opening.place < s.place) s ss opened) ends.1 settled,
      )

-- the last part of a list of which something holds
last_part : (P : StepAt → Type 0) (xs ys : List StepAt) → All P (xs ++ ys) → All P ys
last_part P [] ys all = all
last_part P (x ∷ xs) ys all = last_part P xs ys (All-tail P x (xs ++ ys) all)

module _ (steps : List StepAt) (u : Undone) (is : IsUndoneIn steps u) (shows : u.awaited ≡ leaves_off u.undo.reply) (settled : is_settled u ≡ true) where
  abbrev first : Followed
  first = begun u.call u.target

  abbrev after_opening : List StepAt
  after_opening = u.between ++ (u.undo ∷ u.tail)

  waits_on : (front pre : List StepAt) → others u ≡ pre ++ (front ++ others_from first after_opening) → Rises (front ++ (u.opening ∷ after_opening)) → AllBefore pre (front ++ (u.opening ∷ after_opening)) → Waits u (front ++ (u.opening ∷ after_opening))
  waits_on [] pre same rises before =
      let behind : All (λ t. u.opening.place < t.place) after_opening = rises.0 in
      let held : held_refusals u ≡ held_from first after_opening = held_are steps u is shows in
      inl (record {
        is = refl;
        shown = is_opening u steps is;
        left_out = ap (λ xs. stands_in xs u.opening) same
            ∙ stands_here pre (others_from first after_opening) u.opening false (All-head (λ s. All (λ t. t.place < s.place) pre) u.opening after_opening before) (all_others (λ t. u.opening.place < t.place) first after_opening behind);
        not_held = ap (λ xs. stands_in xs u.opening) held ∙ none_behind u.opening (held_from first after_opening) (all_held (λ t. u.opening.place < t.place) first after_opening behind);
        follows = follows_on u after_opening first pre [] same held rises.1 (All-tail (λ s. All (λ t. t.place < s.place) pre) u.opening after_opening before) (λ k d less. All-nil (λ t. t.place < (get_or after_opening k d).place))
            behind (open_ends u.call u.target u.between None u.undo u.tail is.stays_open is.undoes is.undo_accepted) (sym (settles_are steps u is shows) ∙ settled);
      })
  waits_on (s ∷ front) pre same rises before =
      let rest = front ++ (u.opening ∷ after_opening) in
      let opening : All (λ t. s.place < t.place) (u.opening ∷ after_opening) = last_part (λ t. s.place < t.place) front (u.opening ∷ after_opening) rises.0 in
      let behind : All (λ t. s.place < t.place) after_opening = All-tail (λ t. s.place < t.place) u.opening after_opening opening in
      inr (
        record {
          later = apart_back s.place u.opening.place (All-head (λ t. s.place < t.place) u.opening after_opening opening);
          stay = ap (λ xs. stands_in xs s) same ∙ list_any-append (λ t. t.place == s.place) pre (s ∷ (front ++ others_from first after_opening))
              ∙ or_right (stands_in pre s) (stands_in (s ∷ (front ++ others_from first after_opening)) s) (stands_first s (front ++ others_from first after_opening));
          not_held = ap (λ xs. stands_in xs s) (held_are steps u is shows) ∙ none_behind s (held_from first after_opening) (all_held (λ t. s.place < t.place) first after_opening behind);
        },
        waits_on front (pre ++ (s ∷ [])) (same ∙ sym (append_assoc pre (s ∷ []) (front ++ others_from first after_opening))) rises.1
            (before_more pre rest s true rises.0 (All-tail (λ s. All (λ t. t.place < s.place) pre) s rest before)),
      )

  -- it waits for its opening from the first step on
  pub waits : Rises steps → Waits u steps
  waits rises =
      subst (Waits u) (sym is.parts)
      (waits_on u.head [] (others_are steps u is shows) (subst Rises is.parts rises) (λ k d less. All-nil (λ t. t.place < (get_or (u.head ++ (u.opening ∷ after_opening)) k d).place)))
