-- All settled attempts of a list: there is a list of them, and they leave no trace together.
use Rattle.std.proofs.Common.{◌≡◌, inl, inr, ℕ, suc, ◌+◌, ◌<◌, ◌≤◌, Bool, true, false, if◌then◌else◌, IsTrue, is_some, List, [], ◌∷◌, ◌++◌, length, get_or, Option, Some, None, refl, sym, ◌∙◌, ap, subst, append_assoc, arith}
use Rattle.std.specs.Prelude.{All, AllPairs, Contains}
use Rattle.std.proofs.lemmas.Bool.{cases_eq}
use Rattle.std.proofs.lemmas.List.{length-append}
use Rattle.std.proofs.lemmas.List.Elements.{All-nil, All-cons, All-weaker}
use Rattle.std.proofs.lemmas.List.Kept.{AllPairs-cons}
use Rattle.radio_book.specs.declared.event.Event.{Event}
use Rattle.radio_book.specs.declared.undone.StepAt.{StepAt}
use Rattle.radio_book.specs.declared.following.Phase.{Phase}
use Rattle.radio_book.specs.declared.following.Phase.TheVariants.{Open, Awaiting, Settled, Completed}
use Rattle.radio_book.specs.declared.following.Followed.{Followed}
use Rattle.radio_book.specs.State.{State}
use Rattle.radio_book.specs.Table.{step, reply_to}
use Rattle.radio_book.specs.Sound.{IsSound}
use Rattle.radio_book.specs.Run.{run_book}
use Rattle.radio_book.specs.Undone.{Undone, IsUndoneIn, IsUndoneAttempt, steps_from, is_target_off, book_after_undo, is_settled}
use Rattle.radio_book.specs.Following.{begun, at_last, is_settled_in, is_undone_in, settles, opening_of, settling, settling_in, settling_count, remaining_from, all_held_from, leaves_off}
use Rattle.radio_book.specs.Together.{AreSettled, remaining, held_steps, SettledAttemptsLeaveNoTrace}
use Rattle.radio_book.proofs.Frame.{same_some}
use Rattle.radio_book.proofs.StepFacts.{Runs, runs_from, run_of}
use Rattle.radio_book.proofs.UndoneFacts.{same_front, place_of, undone_is_unique}
use Rattle.radio_book.proofs.FollowFacts.{UndoneBehind, undone_behind, settles_are}
use Rattle.radio_book.proofs.UndoShown.{awaited_shown}
use Rattle.radio_book.proofs.Standing.{Rises, Follows, Waits, waits}
use Rattle.radio_book.proofs.Remaining.{Stands, AreAll, remaining_same, all_held_same}
use Rattle.radio_book.proofs.RemainderFacts.{IsOpening, is_opening}
use Rattle.radio_book.proofs.Together.{opens_with, lead_on}

-- STEPS RISE

behind_all : (m n : ℕ) (b : State) (es : List Event) → m < n → All (λ t. m < t.place) (steps_from n b es)
behind_all m n b [] less = All-nil (λ t. m < t.place)
behind_all m n b (e ∷ es) less =
    All-cons (λ t. m < t.place) (record { place = n; event = e; reply = reply_to b e }) (steps_from (n + 1) (step b e) es) less (behind_all m (n + 1) (step b e) es (omega (arith, less)))

rises : (n : ℕ) (b : State) (es : List Event) → Rises (steps_from n b es)
rises n b [] = tt
rises n b (e ∷ es) = (behind_all n (n + 1) (step b e) es (omega arith), rises (n + 1) (step b e) es)

-- ONE THAT OPENS

settled_is_undone : (phase : Phase) → is_settled_in phase ≡ true → is_undone_in phase ≡ true
settled_is_undone (Open number) settled = cc
settled_is_undone Awaiting settled = cc
settled_is_undone Settled settled = refl
settled_is_undone Completed settled = cc

settling_settles : (s : StepAt) (ss : List StepAt) (p : Followed) → settling s ss ≡ Some p → settles p ss ≡ true
settling_settles s ss p = by (opening_of s)
  where
    settled : (q : Followed) (t : Bool) → settles q ss ≡ t → (if t then Some q else None) ≡ Some p → settles p ss ≡ true
    settled q true test is = ap (λ q. settles q ss) (sym (same_some _ _ is)) ∙ test
    settled q false test is = cc

    by : (o : Option Followed) → settling_in o ss ≡ Some p → settles p ss ≡ true
    by None is = cc
    by (Some q) is = settled q (settles q ss) refl is

-- an undone attempt of these events that is settled
record IsSettledAttempt (b : State) (es : List Event) (u : Undone) : Type 0 where
  undone : IsUndoneAttempt b es u
  settled : IsTrue (is_settled u)

-- it settles by what follows its opening
module _ (b : State) (sound : IsSound b) (es : List Event) (u : Undone) (is : IsSettledAttempt b es u) where
  shows : u.awaited ≡ leaves_off u.undo.reply
  shows = awaited_shown b es u sound is.undone

  settles_behind : settling u.opening (u.between ++ (u.undo ∷ u.tail)) ≡ Some (begun u.call u.target)
  settles_behind =
      ap (λ o. settling_in o (u.between ++ (u.undo ∷ u.tail))) (is_opening u (steps_from 0 b es) is.undone.among)
      ∙ ap (λ q. if q then Some (begun u.call u.target) else None) (sym (settles_are (steps_from 0 b es) u is.undone.among shows) ∙ is.settled)

  waits_there : Waits u (steps_from 0 b es)
  waits_there = waits (steps_from 0 b es) u is.undone.among shows is.settled (rises 0 b es)

-- and one that settles so is an attempt
module _ (b : State) (sound : IsSound b) (es : List Event) (front : List StepAt) (s : StepAt) (ss : List StepAt) (split : steps_from 0 b es ≡ front ++ (s ∷ ss)) (p : Followed) (is : settling s ss ≡ Some p) where
  opens : IsOpening s p
  opens = opens_with s ss p is

  settled_here : settles (begun p.call p.target) ss ≡ true
  settled_here = ap (λ p. settles p ss) (sym opens.begins) ∙ settling_settles s ss p is

  parts_behind : UndoneBehind p.call ss
  parts_behind = undone_behind p.call p.target ss None (settled_is_undone (at_last (begun p.call p.target) ss).phase settled_here)

  abbrev attempt_if : Bool → Undone
  attempt_if awaited = record {
    call = p.call;
    target = p.target;
    head = front;
    opening = s;
    between = parts_behind.between;
    undo = parts_behind.undo;
    tail = parts_behind.tail;
    awaited = awaited;
  }

  abbrev attempt : Undone
  attempt = attempt_if (is_target_off (book_after_undo b (attempt_if false)) p.target)

  among : IsUndoneIn (steps_from 0 b es) attempt
  among = record {
    parts = split ∙ ap (λ ss. front ++ (s ∷ ss)) parts_behind.parts;
    opens = opens.opens;
    opening_accepted = opens.accepted;
    stays_open = parts_behind.stays_open;
    undoes = parts_behind.undoes;
    undo_accepted = parts_behind.undo_accepted;
  }

  undone_here : IsUndoneAttempt b es attempt
  undone_here = record { among = among; awaited = refl }

  is_attempt : IsSettledAttempt b es attempt
  is_attempt = record {
    undone = undone_here;
    settled = settles_are (steps_from 0 b es) attempt among (awaited_shown b es attempt sound undone_here)
        ∙ ap (settles (begun p.call p.target)) (sym parts_behind.parts) ∙ settled_here;
  }

-- ALL OF THEM

module _ (b : State) (sound : IsSound b) (es : List Event) where
  abbrev steps : List StepAt
  steps = steps_from 0 b es

  -- where a step stands whose attempt opens there
  module _ (front : List StepAt) (s : StepAt) (ss : List StepAt) (split : steps ≡ front ++ (s ∷ ss)) (u : Undone) (is : IsSettledAttempt b es u) where
    place_here : s.place ≡ length front
    place_here = let at = place_of 0 b es front s ss split in omega (arith, at)

    place_there : u.opening.place ≡ length u.head
    place_there = let at = place_of 0 b es u.head u.opening (u.between ++ (u.undo ∷ u.tail)) is.undone.among.parts in omega (arith, at)

    -- it opens here, so it is followed from here
    opens_here : length u.head ≡ length front → settling s ss ≡ Some (begun u.call u.target)
    opens_here long =
        let same = (same_front u.head front (u.opening ∷ (u.between ++ (u.undo ∷ u.tail))) (s ∷ ss) long (sym is.undone.among.parts ∙ split)).1 in
        let one : u.opening ≡ s = cc in
        let rest : u.between ++ (u.undo ∷ u.tail) ≡ ss = cc in
        (λ i. settling (sym one i) (sym rest i)) ∙ settles_behind b sound es u is

  record ListFrom (front ss : List StepAt) : Type 0 where
    us : List Undone
    many : length us ≡ settling_count ss
    each : All (IsSettledAttempt b es) us
    all : (u : Undone) → IsSettledAttempt b es u → length front ≤ length u.head → Contains us u
    behind : All (λ u. length front ≤ u.opening.place) us
    in_order : AllPairs (λ u v. u.opening.place < v.opening.place) us

  none_left : (front : List StepAt) → steps ≡ front ++ [] → ListFrom front []
  none_left front split = record {
    us = [];
    many = refl;
    each = All-nil (IsSettledAttempt b es);
    all = λ u is long.
        let whole : length (front ++ []) ≡ length front + length {A = StepAt} [] = length-append front [] in
        let parts : length (u.head ++ (u.opening ∷ (u.between ++ (u.undo ∷ u.tail)))) ≡ length u.head + length (u.opening ∷ (u.between ++ (u.undo ∷ u.tail))) = length-append u.head (u.opening ∷ (u.between ++ (u.undo ∷ u.tail))) in
        let some : length (u.opening ∷ (u.between ++ (u.undo ∷ u.tail))) ≡ suc (length (u.between ++ (u.undo ∷ u.tail))) = refl in
        let nothing : length {A = StepAt} [] ≡ 0 = refl in
        let same : length (u.head ++ (u.opening ∷ (u.between ++ (u.undo ∷ u.tail)))) ≡ length (front ++ []) = ap length (sym is.undone.among.parts ∙ split) in
        absurd (omega (arith, whole, parts, some, nothing, same, long));
    behind = All-nil (λ u. length front ≤ u.opening.place);
    in_order = λ i j d less within. absurd (omega (arith, within));
  }

  module _ (front : List StepAt) (s : StepAt) (ss : List StepAt) (split : steps ≡ front ++ (s ∷ ss)) (rest : ListFrom (front ++ (s ∷ [])) ss) where
    one_longer : length (front ++ (s ∷ [])) ≡ length front + 1
    one_longer = let long : length (front ++ (s ∷ [])) ≡ length front + length (s ∷ []) = length-append front (s ∷ []) in let one : length (s ∷ []) ≡ 1 = refl in omega (arith, long, one)

    further : (u : Undone) → length (front ++ (s ∷ [])) ≤ u.opening.place → length front ≤ u.opening.place
    further u long = omega (arith, long, one_longer)

    -- none opens with the step
    without_one : settling s ss ≡ None → ListFrom front (s ∷ ss)
    without_one none = record {
      us = rest.us;
      many = let count = rest.many in let nothing : ◌≡◌ {A = ℕ} (if is_some (settling s ss) then 1 else 0) 0 = ap (λ (o : Option Followed). if is_some o then 1 else 0) none in omega (arith, count, nothing);
      each = rest.each;
      all = λ u is long. elim (cases_eq (length u.head) (length front)) [
        | inl here ↦ let some = opens_here front s ss split u is here in let bad : Some (begun u.call u.target) ≡ None = sym some ∙ none in cc
        | inr there ↦ rest.all u is (longer (length u.head) long there)
      ];
      behind = All-weaker (λ u. length (front ++ (s ∷ [])) ≤ u.opening.place) (λ u. length front ≤ u.opening.place) further rest.us rest.behind;
      in_order = rest.in_order;
    }
      where
        longer : (n : ℕ) → length front ≤ n → (n ≡ length front → ⊥) → length (front ++ (s ∷ [])) ≤ n
        longer n long there = let one = one_longer in omega (arith, long, there, one)

    -- one does
    with_one : (p : Followed) → settling s ss ≡ Some p → ListFrom front (s ∷ ss)
    with_one p is =
        let u0 : Undone = attempt b sound es front s ss split p is in
        let is0 : IsSettledAttempt b es u0 = is_attempt b sound es front s ss split p is in
        let at : s.place ≡ length front = place_here front s ss split u0 is0 in
        record {
          us = u0 ∷ rest.us;
          many = let count = rest.many in let one : ◌≡◌ {A = ℕ} (if is_some (settling s ss) then 1 else 0) 1 = ap (λ (o : Option Followed). if is_some o then 1 else 0) is in let long : length (u0 ∷ rest.us) ≡ suc (length rest.us) = refl in omega (arith, count, one, long);
          each = All-cons (IsSettledAttempt b es) u0 rest.us is0 rest.each;
          all = λ u is' long. elim (cases_eq (length u.head) (length front)) [
            | inl here ↦
                let same : u.opening.place ≡ s.place = place_there front s ss split u is' ∙ here ∙ sym at in
                let one : u ≡ u0 = undone_is_unique b es u u0 is'.undone is0.undone same in
                subst (Contains (u0 ∷ rest.us)) (sym one) (0, omega arith, refl)
            | inr there ↦ in_rest u0 u (rest.all u is' (longer (length u.head) long there))
          ];
          behind = All-cons (λ u. length front ≤ u.opening.place) u0 rest.us (omega (arith, at)) (All-weaker (λ u. length (front ++ (s ∷ [])) ≤ u.opening.place) (λ u. length front ≤ u.opening.place) further rest.us rest.behind);
          in_order = AllPairs-cons (λ u v. u.opening.place < v.opening.place) u0 rest.us
              (All-weaker (λ u. length (front ++ (s ∷ [])) ≤ u.opening.place) (λ u. s.place < u.opening.place) (λ u long. after_it u.opening.place at long) rest.us rest.behind) rest.in_order;
        }
      where
        longer : (n : ℕ) → length front ≤ n → (n ≡ length front → ⊥) → length (front ++ (s ∷ [])) ≤ n
        longer n long there = let one = one_longer in omega (arith, long, there, one)

        after_it : (n : ℕ) → s.place ≡ length front → length (front ++ (s ∷ [])) ≤ n → s.place < n
        after_it n at long = let one = one_longer in omega (arith, at, long, one)

        in_rest : (v u : Undone) → Contains rest.us u → Contains (v ∷ rest.us) u
        in_rest v u (k, less, at) = (suc k, omega (arith, less), at)

    choose : (o : Option Followed) → settling s ss ≡ o → ListFrom front (s ∷ ss)
    choose None none = without_one none
    choose (Some p) is = with_one p is

  list_from : (ss front : List StepAt) → steps ≡ front ++ ss → ListFrom front ss
  list_from [] front split = none_left front split
  list_from (s ∷ ss) front split = choose front s ss split (list_from ss (front ++ (s ∷ [])) (split ∙ sym (append_assoc front (s ∷ []) ss))) (settling s ss) refl

  -- there is a list of them all, and this is how many they are
  pub settled_attempts : (us : List Undone) × AreSettled b es us × (settling_count steps ≡ length us)
  settled_attempts =
      let found = list_from steps [] refl in (
        found.us,
        record {
          undone = All-weaker (IsSettledAttempt b es) (IsUndoneAttempt b es) (λ u is. is.undone) found.us found.each;
          settled = All-weaker (IsSettledAttempt b es) (λ u. IsTrue (is_settled u)) (λ u is. is.settled) found.us found.each;
          all = λ u undone settled. found.all u (record { undone = undone; settled = settled }) (omega arith);
          in_order = found.in_order;
        },
        sym found.many,
      )

  -- where all of them stand before the first step
  module _ (us : List Undone) (are : AreSettled b es us) where
    pub stand : Stands us [] steps
    stand = record {
      placed = λ k d less. inl (waits_there b sound es (get_or us k d) (record { undone = are.undone k d less; settled = are.settled k d less }));
      followed = All-nil (λ p. (u : Undone) × Contains us u × Follows u p steps);
    }

    are_all_from : (ss front : List StepAt) → steps ≡ front ++ ss → AreAll us ss
    are_all_from [] front split = tt
    are_all_from (s ∷ ss) front split = (
      λ p is.
          let one = is_attempt b sound es front s ss split p is in
          (attempt b sound es front s ss split p is, are.all (attempt b sound es front s ss split p is) one.undone one.settled, refl),
      are_all_from ss (front ++ (s ∷ [])) (split ∙ sym (append_assoc front (s ∷ []) ss)),
    )

    pub are_all : AreAll us steps
    are_all = are_all_from steps [] refl

    pub remaining_are : remaining us steps ≡ remaining_from [] steps
    remaining_are = remaining_same us steps [] stand are_all

    pub held_are_all : held_steps us steps ≡ all_held_from [] steps
    held_are_all = all_held_same us steps [] stand are_all

pub settled_leave_no_trace : SettledAttemptsLeaveNoTrace
settled_leave_no_trace b sound es us are none =
    let runs : Runs b (remaining_from [] (steps_from 0 b es)) (run_book b es)
    = lead_on us (steps_from 0 b es) [] b (run_book b es) sound tt (stand b sound es us are) (are_all b sound es us are) (runs_from 0 b es) none in
    let there : Runs b (remaining us (steps_from 0 b es)) (run_book b es) = subst (λ ss. Runs b ss (run_book b es)) (sym (remaining_are b sound es us are)) runs in
    let alone = run_of (remaining us (steps_from 0 b es)) b (run_book b es) there in
    record { book = alone.0; replies = alone.1 }
