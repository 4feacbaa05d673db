-- What stays of a list without the undone attempt that opens at a place is what following it from there finds.
use Rattle.std.proofs.Common.{◌≡◌, ◌+◌, ◌-◌, ◌<◌, ℕ, suc, Bool, true, false, if◌then◌else◌, IsTrue, List, ◌∷◌, ◌++◌, length, take, drop, get_or, Option, Some, None, refl, sym, ◌∙◌, ap, subst, arith, add-one, drop-cons}
use Rattle.std.proofs.lemmas.List.{take-append-drop, length-append, length-drop, length-take-le}
use Rattle.std.proofs.Math.Seq.{get_or-append_seam, drop-append-add, take-append_seam, take-length}
use Rattle.channel_fsm.specs.declared.ChanId.{ChanId}
use Rattle.radio_book.specs.declared.event.Event.{Event}
use Rattle.radio_book.specs.declared.undone.StepAt.{StepAt}
use Rattle.radio_book.specs.declared.following.Followed.{Followed}
use Rattle.radio_book.specs.State.{State}
use Rattle.radio_book.specs.Sound.{IsSound}
use Rattle.radio_book.specs.Kinds.{Opens, is_accepted}
use Rattle.radio_book.specs.Undone.{Undone, IsUndoneIn, IsUndoneAt, OpensUndone, steps_from, others, held_refusals, is_settled, is_target_off, book_after_undo}
use Rattle.radio_book.specs.Found.{opened_by}
use Rattle.radio_book.specs.Following.{IsShownAt, begun, opened_in, opening_of, others_from, held_from, at_last, is_settled_in, is_undone_in, leaves_off}
use Rattle.radio_book.proofs.Frame.{same_some}
use Rattle.radio_book.proofs.UndoneFacts.{opens_shown, place_of}
use Rattle.radio_book.proofs.FoundFacts.{opens_from}
use Rattle.radio_book.proofs.FollowFacts.{UndoneBehind, undone_behind, undone_last, others_are, held_are, settles_are}
use Rattle.radio_book.proofs.UndoShown.{awaited_shown}

-- a list is what stands before a place, what stands there, and what follows
parts_at : {X : Type 0} → (xs : List X) (i : ℕ) (d : X) → i < length xs → xs ≡ take i xs ++ (get_or xs i d ∷ drop (i + 1) xs)
parts_at xs i d below =
    sym (take-append-drop i xs) ∙ ap (λ ys. take i xs ++ ys) (drop-cons xs i d below ∙ ap (λ n. get_or xs i d ∷ drop n xs) (sym (add-one i)))

-- all that follows a place
pub rest_all : {X : Type 0} → (n : ℕ) (xs : List X) → take (length xs - n) (drop n xs) ≡ drop n xs
rest_all n xs = ap (λ k. take k (drop n xs)) (sym (length-drop n xs)) ∙ take-length (drop n xs)

-- what an opening is
pub record IsOpening (s : StepAt) (p : Followed) : Type 0 where
  pub begins : p ≡ begun p.call p.target
  pub opens : Opens p.call p.target s.event
  pub accepted : IsTrue (is_accepted s.reply)

pub opening_is : (s : StepAt) (p : Followed) → opening_of s ≡ Some p → IsOpening s p
opening_is s p = by (is_accepted s.reply) refl (opened_by s.event) refl
  where
    by : (q : Bool) → is_accepted s.reply ≡ q → (o : Option (ℕ × Option ChanId)) → opened_by s.event ≡ o → (if q then opened_in o else None) ≡ Some p → IsOpening s p
    by false accepted o opened is = cc
    by true accepted None opened is = cc
    by true accepted (Some o) opened is = subst (IsOpening s) (same_some _ _ is) (record { begins = refl; opens = opens_from o.0 o.1 s.event opened; accepted = accepted })

pub is_opening : (u : Undone) (steps : List StepAt) → IsUndoneIn steps u → opening_of u.opening ≡ Some (begun u.call u.target)
is_opening u steps is = ap (λ q. if q then opened_in (opened_by u.opening.event) else None) is.opening_accepted ∙ ap opened_in (opens_shown u.call u.target u.opening.event is.opens)

-- an attempt that opens at a place, in its list
module _ (steps : List StepAt) (at : ℕ) (u : Undone) (is : IsShownAt steps at u) where
  abbrev behind : List StepAt
  behind = u.between ++ (u.undo ∷ u.tail)

  pub within : at < length steps
  within =
      let whole : length steps ≡ length (u.head ++ (u.opening ∷ behind)) = ap length is.among.parts in
      let two : length (u.head ++ (u.opening ∷ behind)) ≡ length u.head + length (u.opening ∷ behind) = length-append u.head (u.opening ∷ behind) in
      let one : length (u.opening ∷ behind) ≡ suc (length behind) = refl in
      let place = is.place in
      omega (arith, whole, two, one, place)

  pub opening_there : (d : StepAt) → get_or steps at d ≡ u.opening
  opening_there d = ap (λ n. get_or steps n d) (sym is.place) ∙ ap (λ xs. get_or xs (length u.head) d) is.among.parts ∙ get_or-append_seam u.head u.opening behind d

  pub head_there : take at steps ≡ u.head
  head_there = ap (λ n. take n steps) (sym is.place) ∙ ap (take (length u.head)) is.among.parts ∙ take-append_seam u.head (u.opening ∷ behind)

  pub rest_there : drop (at + 1) steps ≡ behind
  rest_there = ap (λ n. drop (n + 1) steps) (sym is.place) ∙ ap (drop (length u.head + 1)) is.among.parts ∙ drop-append-add u.head (u.opening ∷ behind) 1

  pub opened_there : (d : StepAt) → opening_of (get_or steps at d) ≡ Some (begun u.call u.target)
  opened_there d = ap opening_of (opening_there d) ∙ is_opening u steps is.among

  -- what was found there, from the same opening on
  module _ (d : StepAt) (p : Followed) (opens : opening_of (get_or steps at d) ≡ Some p) where
    same_begun : begun u.call u.target ≡ p
    same_begun = same_some _ _ (sym (opened_there d) ∙ opens)

    pub undone_there : is_undone_in (at_last p (drop (at + 1) steps)).phase ≡ true
    undone_there = (λ i. is_undone_in (at_last (sym same_begun i) (rest_there i)).phase) ∙ undone_last steps u is.among

    pub others_there : take at steps ++ others_from p (drop (at + 1) steps) ≡ others u
    others_there = (λ i. head_there i ++ others_from (sym same_begun i) (rest_there i)) ∙ sym (others_are steps u is.among is.shown)

    pub held_there : held_from p (drop (at + 1) steps) ≡ held_refusals u
    held_there = (λ i. held_from (sym same_begun i) (rest_there i)) ∙ sym (held_are steps u is.among is.shown)

    pub settled_there : is_settled_in (at_last p (drop (at + 1) steps)).phase ≡ is_settled u
    settled_there = (λ i. is_settled_in (at_last (sym same_begun i) (rest_there i)).phase) ∙ sym (settles_are steps u is.among is.shown)

-- and what is undone in the end is an attempt
pub attempt_there : (steps : List StepAt) (at : ℕ) (d : StepAt) (p : Followed) → at < length steps → opening_of (get_or steps at d) ≡ Some p → is_undone_in (at_last p (drop (at + 1) steps)).phase ≡ true →
    (u : Undone) × IsShownAt steps at u
attempt_there steps at d p below opens undone =
    let s : StepAt = get_or steps at d in
    let opening : IsOpening s p = opening_is s p opens in
    let rest : UndoneBehind p.call (drop (at + 1) steps)
    = undone_behind p.call p.target (drop (at + 1) steps) None (subst (λ p. is_undone_in (at_last p (drop (at + 1) steps)).phase ≡ true) opening.begins undone) in (
      record {
        call = p.call;
        target = p.target;
        head = take at steps;
        opening = s;
        between = rest.between;
        undo = rest.undo;
        tail = rest.tail;
        awaited = leaves_off rest.undo.reply;
      },
      record {
        among = record {
          parts = parts_at steps at d below ∙ ap (λ ss. take at steps ++ (s ∷ ss)) rest.parts;
          opens = opening.opens;
          opening_accepted = opening.accepted;
          stays_open = rest.stays_open;
          undoes = rest.undoes;
          undo_accepted = rest.undo_accepted;
        };
        place = length-take-le at steps (omega (arith, below));
        shown = refl;
      },
    )

-- among the steps of events
module _ (b : State) (sound : IsSound b) (es : List Event) (at : ℕ) where
  pub shown_at : (u : Undone) → IsUndoneAt b es at u → IsShownAt (steps_from 0 b es) at u
  shown_at u (is, place) = record {
    among = is.among;
    place = (let there = place_of 0 b es u.head u.opening (u.between ++ (u.undo ∷ u.tail)) is.among.parts in omega (arith, there, place));
    shown = awaited_shown b es u sound is;
  }

  pub undone_at : (u : Undone) → IsShownAt (steps_from 0 b es) at u → OpensUndone b es at
  undone_at u is =
      let there = place_of 0 b es u.head u.opening (u.between ++ (u.undo ∷ u.tail)) is.among.parts in
      let place = is.place in (
        record u { awaited = is_target_off (book_after_undo b u) u.target },
        (
          record {
            among = record {
              parts = is.among.parts;
              opens = is.among.opens;
              opening_accepted = is.among.opening_accepted;
              stays_open = is.among.stays_open;
              undoes = is.among.undoes;
              undo_accepted = is.among.undo_accepted;
            };
            awaited = refl;
          },
          omega (arith, there, place),
        ),
      )
