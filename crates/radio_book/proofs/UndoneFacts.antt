-- An undone attempt is found by the place of its opening, and there is no other that opens there.
use Rattle.std.proofs.Common.{◌≡◌, ◌⊎◌, inl, inr, ◌+◌, ℕ, suc, Bool, true, false, not, ◌&&◌, cond, List, [], ◌∷◌, ◌++◌, length, Option, Some, None, refl, sym, ◌∙◌, ap, subst, arith}
use Rattle.std.specs.List.{All, position_or_len}
use Rattle.std.proofs.lemmas.List.Elements.{All-head, All-tail}
use Rattle.std.proofs.lemmas.Bool.{eqb-true}
use Rattle.std.proofs.lemmas.Bool.Decides.{nat_tests}
use Rattle.channel_fsm.specs.declared.ChanId.{ChanId}
use Rattle.radio_book.specs.declared.event.Event.{Event}
use Rattle.radio_book.specs.declared.event.Event.TheVariants as event
use Rattle.radio_book.specs.declared.undone.StepAt.{StepAt}
use Rattle.radio_book.specs.State.{State}
use Rattle.radio_book.specs.Table.{step, reply_to}
use Rattle.radio_book.specs.Kinds.{is_accepted}
use Rattle.radio_book.specs.Undone.{Undone, IsUndoneIn, Opens, Undoes, Ends, steps_from, is_call, is_target_off, book_after_undo, UndoneIsUnique}
use Rattle.radio_book.proofs.Frame.{same_some}
use Rattle.radio_book.specs.Found.{opened_by, ended_by, undone_by, ends}

-- BY CALL

pub is_same : (c : ℕ) → is_call c (Some c) ≡ true
is_same c = grind (arith, nat_tests)

pub called : (c : ℕ) (o : Option ℕ) → is_call c o ≡ true → o ≡ Some c
called c None e = cc
called c (Some d) e = ap Some (eqb-true d c e)

-- BY EVENT

pub opens_shown : (c : ℕ) (t : Option ChanId) (e : Event) → Opens c t e → opened_by e ≡ Some (c, t)
opens_shown c t e (inl (k, x, is, aims)) = ap opened_by is ∙ ap (λ t. Some (c, t)) (sym aims)
opens_shown c t e (inr (is, none)) = ap opened_by is ∙ ap (λ t. Some (c, t)) (sym none)

pub undoes_shown : (c : ℕ) (e : Event) → Undoes c e → undone_by e ≡ Some c
undoes_shown c e (why, is) = ap undone_by is

pub undoes_ends : (c : ℕ) (e : Event) → Undoes c e → ended_by e ≡ Some c
undoes_ends c e (why, is) = ap ended_by is

over_shown : (c : ℕ) (e : Event) → Undoes c e ⊎ (e ≡ event.Complete c) ⊎ (e ≡ event.Left c) → ended_by e ≡ Some c
over_shown c e (inl undo) = undoes_ends c e undo
over_shown c e (inr (inl is)) = ap ended_by is
over_shown c e (inr (inr is)) = ap ended_by is

both : (p q : Bool) → p ≡ true → q ≡ true → (p && q) ≡ true
both true q e f = f
both false q e f = cc

pub parts : (p q : Bool) → (p && q) ≡ true → (p ≡ true) × (q ≡ true)
parts true q e = (refl, e)
parts false q e = cc

-- a step that is accepted and ends an attempt of the call, by test
pub ends_by : (c : ℕ) (s : StepAt) → is_accepted s.reply ≡ true → ended_by s.event ≡ Some c → ends c s ≡ true
ends_by c s accepted is = both (is_call c (ended_by s.event)) (is_accepted s.reply) (ap (is_call c) is ∙ is_same c) accepted

pub ends_shown : (c : ℕ) (s : StepAt) → Ends c s → ends c s ≡ true
ends_shown c s (accepted, over) = ends_by c s accepted (over_shown c s.event over)

over_from : (c : ℕ) (e : Event) → ended_by e ≡ Some c → Undoes c e ⊎ (e ≡ event.Complete c) ⊎ (e ≡ event.Left c)
over_from c (event.Open d x) is = cc
over_from c (event.Clear d) is = cc
over_from c (event.Look d) is = cc
over_from c (event.Take d k x) is = cc
over_from c (event.Reserve d n) is = cc
over_from c (event.Activate d) is = cc
over_from c (event.Command d) is = cc
over_from c (event.Complete d) is = let same : d ≡ c = cc in inr (inl (ap event.Complete same))
over_from c (event.Undo d why) is = let same : d ≡ c = cc in inl (why, ap (λ d. event.Undo d why) same)
over_from c (event.Confirm x) is = cc
over_from c (event.Refuse x) is = cc
over_from c (event.Detect x) is = cc
over_from c (event.Released x) is = cc
over_from c (event.Owner x) is = cc
over_from c (event.Require d) is = cc
over_from c (event.Order d) is = cc
over_from c (event.Left d) is = let same : d ≡ c = cc in inr (inr (ap event.Left same))

pub ends_from : (c : ℕ) (s : StepAt) → ends c s ≡ true → Ends c s
ends_from c s e =
    let p = parts (is_call c (ended_by s.event)) (is_accepted s.reply) e in
    (p.1, over_from c s.event (called c (ended_by s.event) p.0))

not_ending : (c : ℕ) (s : StepAt) → (Ends c s → ⊥) → ends c s ≡ false
not_ending c s never = by (ends c s) refl
  where
    by : (q : Bool) → ends c s ≡ q → q ≡ false
    by true e = absurd (never (ends_from c s e))
    by false e = refl

-- BY PLACE

one_more : (n : ℕ) → 1 + n ≡ suc n
one_more n = omega arith

-- the first end stands behind so many steps as are between
pub first_end : (c : ℕ) (between : List StepAt) (s : StepAt) (tail : List StepAt) → All (λ s. Ends c s → ⊥) between → ends c s ≡ true →
    position_or_len (ends c) (between ++ (s ∷ tail)) ≡ length between
first_end c [] s tail opened over = ap (λ q. cond (not q) (1 + position_or_len (ends c) tail) 0) over
first_end c (t ∷ between) s tail opened over =
    let goes : ends c t ≡ false = not_ending c t (All-head (λ s. Ends c s → ⊥) t between opened) in
    ap (λ q. cond (not q) (1 + position_or_len (ends c) (between ++ (s ∷ tail))) 0) goes
    ∙ ap (λ n. 1 + n) (first_end c between s tail (All-tail (λ s. Ends c s → ⊥) t between opened) over) ∙ one_more (length between)

-- fronts that are as long are the same, and so is what follows
pub same_front : {X : Type 0} → (xs ys us vs : List X) → length xs ≡ length ys → xs ++ us ≡ ys ++ vs → (xs ≡ ys) × (us ≡ vs)
same_front [] [] us vs long e = (refl, e)
same_front [] (y ∷ ys) us vs long e = cc
same_front (x ∷ xs) [] us vs long e = cc
same_front (x ∷ xs) (y ∷ ys) us vs long e =
    let shorter : length xs ≡ length ys = cc in
    let first : x ≡ y = cc in
    let more : xs ++ us ≡ ys ++ vs = cc in
    let rest = same_front xs ys us vs shorter more in
    (λ i. first i ∷ rest.0 i, rest.1)

-- a step stands behind so many as its place says
pub place_of : (n : ℕ) (b : State) (es : List Event) (xs : List StepAt) (y : StepAt) (zs : List StepAt) → steps_from n b es ≡ xs ++ (y ∷ zs) → y.place ≡ n + length xs
place_of n b [] [] y zs e = cc
place_of n b [] (x ∷ xs) y zs e = cc
place_of n b (e ∷ es) [] y zs is =
    let first : record { place = n; event = e; reply = reply_to b e } ≡ y = cc in
    let here : n ≡ y.place = ap (λ (s : StepAt). s.place) first in
    omega (arith, here)
place_of n b (e ∷ es) (x ∷ xs) y zs is =
    let rest : steps_from (n + 1) (step b e) es ≡ xs ++ (y ∷ zs) = cc in
    let there : y.place ≡ n + 1 + length xs = place_of (n + 1) (step b e) es xs y zs rest in
    let long : length (x ∷ xs) ≡ suc (length xs) = refl in
    omega (arith, there, long)

-- UNIQUE

-- whose the attempt is, and its target
abbrev whose : Undone → Option (ℕ × Option ChanId)
whose w = Some (w.call, w.target)

module _ (steps : List StepAt) (u v : Undone) (is : IsUndoneIn steps u) (other : IsUndoneIn steps v) (long : length u.head ≡ length v.head) where
  front : (u.head ≡ v.head) × (u.opening ∷ (u.between ++ (u.undo ∷ u.tail)) ≡ v.opening ∷ (v.between ++ (v.undo ∷ v.tail)))
  front = same_front u.head v.head _ _ long (sym is.parts ∙ other.parts)

  pub same_opening : u.opening ≡ v.opening
  same_opening = let e = front.1 in cc

  behind : u.between ++ (u.undo ∷ u.tail) ≡ v.between ++ (v.undo ∷ v.tail)
  behind = let e = front.1 in cc

  opened : whose u ≡ whose v
  opened = sym (opens_shown u.call u.target u.opening.event is.opens) ∙ ap (λ (s : StepAt). opened_by s.event) same_opening ∙ opens_shown v.call v.target v.opening.event other.opens

  same_call : u.call ≡ v.call
  same_call = ap (λ (p : ℕ × Option ChanId). p.0) (same_some _ _ opened)

  same_target : u.target ≡ v.target
  same_target = ap (λ (p : ℕ × Option ChanId). p.1) (same_some _ _ opened)

  ended : (c : ℕ) (w : Undone) → w.call ≡ c → IsUndoneIn steps w → position_or_len (ends c) (w.between ++ (w.undo ∷ w.tail)) ≡ length w.between
  ended c w by in' =
      subst (λ c. position_or_len (ends c) (w.between ++ (w.undo ∷ w.tail)) ≡ length w.between) by
      (first_end w.call w.between w.undo w.tail in'.stays_open (ends_by w.call w.undo in'.undo_accepted (undoes_ends w.call w.undo.event in'.undoes)))

  back : (u.between ≡ v.between) × (u.undo ∷ u.tail ≡ v.undo ∷ v.tail)
  back = same_front u.between v.between _ _
      (sym (ended v.call u same_call is) ∙ ap (position_or_len (ends v.call)) behind ∙ ended v.call v refl other) behind

  same_undo : u.undo ≡ v.undo
  same_undo = let e = back.1 in cc

  same_tail : u.tail ≡ v.tail
  same_tail = let e = back.1 in cc

  pub same_parts : u.awaited ≡ v.awaited → u ≡ v
  same_parts awaited = λ i. record {
    call = same_call i;
    target = same_target i;
    head = front.0 i;
    opening = same_opening i;
    between = back.0 i;
    undo = same_undo i;
    tail = same_tail i;
    awaited = awaited i;
  }

  pub same_end : (b : State) → is_target_off (book_after_undo b u) u.target ≡ is_target_off (book_after_undo b v) v.target
  same_end b = λ i. is_target_off (book_after_undo b (same_parts_but (u.awaited) i)) (same_target i)
    where
      same_parts_but : (q : Bool) → record u { awaited = q } ≡ record v { awaited = q }
      same_parts_but q = λ i. record {
        call = same_call i;
        target = same_target i;
        head = front.0 i;
        opening = same_opening i;
        between = back.0 i;
        undo = same_undo i;
        tail = same_tail i;
        awaited = q;
      }

pub undone_is_unique : UndoneIsUnique
undone_is_unique b es u v is other places =
    let here = place_of 0 b es u.head u.opening _ is.among.parts in
    let there = place_of 0 b es v.head v.opening _ other.among.parts in
    let long : length u.head ≡ length v.head = omega (arith, here, there, places) in
    same_parts (steps_from 0 b es) u v is.among other.among long
    (is.awaited ∙ same_end (steps_from 0 b es) u v is.among other.among long b ∙ sym other.awaited)
