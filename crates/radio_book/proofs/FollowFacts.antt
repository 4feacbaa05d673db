-- An undone attempt, followed from its opening on: the steps that stay, those of them that were refused for what it holds, and
-- whether it settles are those that its parts say.
use Rattle.std.proofs.Common.{◌≡◌, ℕ, Bool, true, false, not, cond, ◌&&◌, ◌||◌, if◌then◌else◌, IsTrue, is_some, List, [], ◌∷◌, ◌++◌, Option, Some, None, refl, sym, ◌∙◌, ap}
use Rattle.std.specs.Prelude.{All, filter, find}
use Rattle.std.specs.List.{list_any}
use Rattle.std.specs.Option.{option_and_then}
use Rattle.std.proofs.lemmas.Bool.{and_parts}
use Rattle.std.proofs.lemmas.List.Elements.{All-head, All-tail, All-nil, All-cons}
use Rattle.channel_fsm.specs.declared.ChanId.{ChanId}
use Rattle.radio_book.specs.declared.undone.StepAt.{StepAt}
use Rattle.radio_book.specs.declared.following.Phase.{Phase}
use Rattle.radio_book.specs.declared.following.Phase.TheVariants.{Open, Awaiting, Settled, Completed}
use Rattle.radio_book.specs.declared.following.Followed.{Followed}
use Rattle.radio_book.specs.Table.{reference_held}
use Rattle.radio_book.specs.Kinds.{Undoes, is_accepted, number_of, refusal_of}
use Rattle.radio_book.specs.Undone.{Undone, IsUndoneIn, Ends, is_call, is_by_call, is_on_target, is_settled, reserves, releases, comes_from, refused_for, up_to_first, after_first, others, others_between, held_refusals, reference_reserved}
use Rattle.radio_book.specs.Found.{undone_by, ended_by, ends}
use Rattle.radio_book.specs.Following.{holds, refused_in, number_with, ended_with, after, begun, others_from, held_from, at_last, is_settled_in, is_undone_in, leaves_off, settles}
use Rattle.radio_book.proofs.UndoneFacts.{called, ends_by, ends_shown, ends_from, undoes_shown, undoes_ends, parts}
use Rattle.radio_book.proofs.FoundFacts.{undoes_from}
use Rattle.radio_book.proofs.FactsAgree.{undo_is_end}
use Rattle.radio_book.proofs.StepFacts.{same_call}
use Rattle.radio_book.proofs.OpenPhase.{is_kept, no_reference, number_there}

-- ONE STEP MORE

-- one step more in front of what is kept
keep_more : {X : Type 0} (q : Bool) (x : X) (xs ys zs : List X) → xs ≡ ys ++ zs → cond q (x ∷ xs) xs ≡ cond q (x ∷ ys) ys ++ zs
keep_more true x xs ys zs same = ap (λ xs. x ∷ xs) same
keep_more false x xs ys zs same = same

-- what of a step that is kept or not passes a test
filter_more : {X : Type 0} (test : X → Bool) (q : Bool) (x : X) (xs : List X) → filter test (cond q (x ∷ xs) xs) ≡ cond (q && test x) (x ∷ filter test xs) (filter test xs)
filter_more test true x xs = refl
filter_more test false x xs = refl

pub not_ending : (c : ℕ) (s : StepAt) → (Ends c s → ⊥) → ends c s ≡ false
not_ending c s never = by (ends c s) refl
  where
    by : (q : Bool) → ends c s ≡ q → q ≡ false
    by true e = absurd (never (ends_from c s e))
    by false e = refl

module _ (c : ℕ) (target : Option ChanId) where
  abbrev pub in_phase : Phase → Followed
  in_phase phase = record { call = c; target = target; phase = phase }

  -- NOTHING IS LEFT

  settled_stays : (ss : List StepAt) → others_from (in_phase Settled) ss ≡ ss
  settled_stays [] = refl
  settled_stays (s ∷ ss) = ap (λ xs. s ∷ xs) (settled_stays ss)

  settled_holds : (ss : List StepAt) → held_from (in_phase Settled) ss ≡ []
  settled_holds [] = refl
  settled_holds (s ∷ ss) = settled_holds ss

  pub settled_last : (ss : List StepAt) → at_last (in_phase Settled) ss ≡ in_phase Settled
  settled_last [] = refl
  settled_last (s ∷ ss) = settled_last ss

  pub completed_last : (ss : List StepAt) → at_last (in_phase Completed) ss ≡ in_phase Completed
  completed_last [] = refl
  completed_last (s ∷ ss) = completed_last ss

  -- WHILE THE RELEASE IS AWAITED

  abbrev off_target : StepAt → Bool
  off_target s = not (is_on_target target s)

  awaiting_stays : (ss : List StepAt) → others_from (in_phase Awaiting) ss ≡ filter off_target (up_to_first (releases target) ss) ++ after_first (releases target) ss
  awaiting_stays [] = refl
  awaiting_stays (s ∷ ss) = by (awaiting_stays ss) (releases target s)
    where
      by : others_from (in_phase Awaiting) ss ≡ filter off_target (up_to_first (releases target) ss) ++ after_first (releases target) ss → (q : Bool) →
          cond (off_target s) (s ∷ others_from (in_phase (if q then Settled else Awaiting)) ss) (others_from (in_phase (if q then Settled else Awaiting)) ss)
          ≡ filter off_target (s ∷ (if q then [] else up_to_first (releases target) ss)) ++ (if q then ss else after_first (releases target) ss)
      by rest true = keep_more (off_target s) s (others_from (in_phase Settled) ss) [] ss (settled_stays ss)
      by rest false = keep_more (off_target s) s (others_from (in_phase Awaiting) ss) (filter off_target (up_to_first (releases target) ss)) (after_first (releases target) ss) rest

  awaiting_holds : (ss : List StepAt) → held_from (in_phase Awaiting) ss ≡ refused_for target None (filter off_target (up_to_first (releases target) ss))
  awaiting_holds [] = refl
  awaiting_holds (s ∷ ss) = by (awaiting_holds ss) (releases target s)
    where
      come : StepAt → Bool
      come s = comes_from target None (refusal_of s.reply)

      by : held_from (in_phase Awaiting) ss ≡ refused_for target None (filter off_target (up_to_first (releases target) ss)) → (q : Bool) →
          cond (off_target s && comes_from target None (refusal_of s.reply)) (s ∷ held_from (in_phase (if q then Settled else Awaiting)) ss) (held_from (in_phase (if q then Settled else Awaiting)) ss)
          ≡ refused_for target None (filter off_target (s ∷ (if q then [] else up_to_first (releases target) ss)))
      by rest true =
          ap (λ xs. cond (off_target s && comes_from target None (refusal_of s.reply)) (s ∷ xs) xs) (settled_holds ss)
          ∙ sym (filter_more (λ s. comes_from target None (refusal_of s.reply)) (off_target s) s [])
      by rest false =
          ap (λ xs. cond (off_target s && comes_from target None (refusal_of s.reply)) (s ∷ xs) xs) rest
          ∙ sym (filter_more (λ s. comes_from target None (refusal_of s.reply)) (off_target s) s (filter off_target (up_to_first (releases target) ss)))

  awaiting_settles : (ss : List StepAt) → is_settled_in (at_last (in_phase Awaiting) ss).phase ≡ list_any (releases target) ss
  awaiting_settles [] = refl
  awaiting_settles (s ∷ ss) = by (awaiting_settles ss) (releases target s)
    where
      by : is_settled_in (at_last (in_phase Awaiting) ss).phase ≡ list_any (releases target) ss → (q : Bool) →
          is_settled_in (at_last (in_phase (if q then Settled else Awaiting)) ss).phase ≡ q || list_any (releases target) ss
      by rest true = ap (λ (p : Followed). is_settled_in p.phase) (settled_last ss)
      by rest false = rest

  awaiting_undone : (ss : List StepAt) → is_undone_in (at_last (in_phase Awaiting) ss).phase ≡ true
  awaiting_undone [] = refl
  awaiting_undone (s ∷ ss) = by (awaiting_undone ss) (releases target s)
    where
      by : is_undone_in (at_last (in_phase Awaiting) ss).phase ≡ true → (q : Bool) → is_undone_in (at_last (in_phase (if q then Settled else Awaiting)) ss).phase ≡ true
      by rest true = ap (λ (p : Followed). is_undone_in p.phase) (settled_last ss)
      by rest false = rest

  -- AFTER THE UNDO

  abbrev pub left_in : Bool → Phase
  left_in awaited = if awaited then Awaiting else Settled

  undone_stays : (awaited : Bool) (tail : List StepAt) → others_from (in_phase (left_in awaited)) tail
      ≡ filter off_target (if awaited then up_to_first (releases target) tail else []) ++ (if awaited then after_first (releases target) tail else tail)
  undone_stays true tail = awaiting_stays tail
  undone_stays false tail = settled_stays tail

  undone_holds : (awaited : Bool) (tail : List StepAt) → held_from (in_phase (left_in awaited)) tail ≡ refused_for target None (filter off_target (if awaited then up_to_first (releases target) tail else []))
  undone_holds true tail = awaiting_holds tail
  undone_holds false tail = settled_holds tail

  undone_settles : (awaited : Bool) (tail : List StepAt) → is_settled_in (at_last (in_phase (left_in awaited)) tail).phase ≡ not awaited || list_any (releases target) tail
  undone_settles true tail = awaiting_settles tail
  undone_settles false tail = ap (λ (p : Followed). is_settled_in p.phase) (settled_last tail)

  undone_ends : (awaited : Bool) (tail : List StepAt) → is_undone_in (at_last (in_phase (left_in awaited)) tail).phase ≡ true
  undone_ends true tail = awaiting_undone tail
  undone_ends false tail = ap (λ (p : Followed). is_undone_in p.phase) (settled_last tail)

  -- the undo
  pub at_undo : (number : Option ℕ) (s : StepAt) → Undoes c s.event → IsTrue (is_accepted s.reply) → after (in_phase (Open number)) s ≡ in_phase (left_in (leaves_off s.reply))
  at_undo number s undoes accepted =
      ap (λ q. in_phase (if q then ended_with s else Open (number_with c number s))) (ends_by c s accepted (undoes_ends c s.event undoes))
      ∙ ap (λ o. in_phase (if is_some o then left_in (leaves_off s.reply) else Completed)) (undoes_shown c s.event undoes)

  pub is_own : (s : StepAt) → Undoes c s.event → is_kept c target s ≡ false
  is_own s (why, is) = ap (λ q. not q && off_target s) (ap (λ e. is_by_call c (record s { event = e })) is ∙ same_call c (Some c) refl)

  -- WHILE IT IS OPEN

  pub after_goes : (number : Option ℕ) (s : StepAt) → ends c s ≡ false → after (in_phase (Open number)) s ≡ in_phase (Open (number_with c number s))
  after_goes number s test = ap (λ q. in_phase (if q then ended_with s else Open (number_with c number s))) test

  abbrev number_from : Option ℕ → List StepAt → Option ℕ
  number_from number [] = number
  number_from number (s ∷ ss) = number_from (number_with c number s) ss

  between_stays : (ss : List StepAt) (number : Option ℕ) (rest : List StepAt) → All (λ s. Ends c s → ⊥) ss →
      others_from (in_phase (Open number)) (ss ++ rest) ≡ filter (is_kept c target) ss ++ others_from (in_phase (Open (number_from number ss))) rest
  between_stays [] number rest goes_on = refl
  between_stays (s ∷ ss) number rest goes_on =
      let first : ends c s ≡ false = not_ending c s (All-head (λ s. Ends c s → ⊥) s ss goes_on) in
      ap (λ p. cond (is_kept c target s) (s ∷ others_from p (ss ++ rest)) (others_from p (ss ++ rest))) (after_goes number s first)
      ∙ keep_more (is_kept c target s) s (others_from (in_phase (Open (number_with c number s))) (ss ++ rest)) (filter (is_kept c target) ss)
      (others_from (in_phase (Open (number_from (number_with c number s) ss))) rest)
      (between_stays ss (number_with c number s) rest (All-tail (λ s. Ends c s → ⊥) s ss goes_on))

  -- held refusals, once it has its reference
  with_number : (m : ℕ) (ss rest : List StepAt) → All (λ s. Ends c s → ⊥) ss →
      held_from (in_phase (Open (Some m))) (ss ++ rest) ≡ refused_for target (reference_held target (Some m)) (filter (is_kept c target) ss) ++ held_from (in_phase (Open (Some m))) rest
  with_number m [] rest goes_on = refl
  with_number m (s ∷ ss) rest goes_on =
      let first : ends c s ≡ false = not_ending c s (All-head (λ s. Ends c s → ⊥) s ss goes_on) in
      let come : StepAt → Bool = λ s. comes_from target (reference_held target (Some m)) (refusal_of s.reply) in
      ap (λ p. cond (holds (in_phase (Open (Some m))) s) (s ∷ held_from p (ss ++ rest)) (held_from p (ss ++ rest))) (after_goes (Some m) s first)
      ∙ keep_more (holds (in_phase (Open (Some m))) s) s (held_from (in_phase (Open (Some m))) (ss ++ rest)) (filter come (filter (is_kept c target) ss)) (held_from (in_phase (Open (Some m))) rest)
      (with_number m ss rest (All-tail (λ s. Ends c s → ⊥) s ss goes_on))
      ∙ ap (λ xs. xs ++ held_from (in_phase (Open (Some m))) rest) (sym (filter_more come (is_kept c target s) s (filter (is_kept c target) ss)))

  abbrev numbered : List StepAt → Option ℕ
  numbered ss = option_and_then (λ (s : StepAt). number_of s.event) (find (reserves c) ss)

  abbrev HeldBetween : List StepAt → List StepAt → Type 0
  HeldBetween ss rest =
      held_from (in_phase (Open None)) (ss ++ rest)
      ≡ refused_for target None (filter (is_kept c target) (up_to_first (reserves c) ss))
      ++ (refused_for target (reference_held target (numbered ss)) (filter (is_kept c target) (after_first (reserves c) ss)) ++ held_from (in_phase (Open (number_from None ss))) rest)

  reserving_is_own : (s : StepAt) → reserves c s ≡ true → is_kept c target s ≡ false
  reserving_is_own s test =
      let accepted = and_parts (is_by_call c s && is_some (number_of s.event)) (is_accepted s.reply) test in
      ap (λ q. not q && off_target s) (and_parts (is_by_call c s) (is_some (number_of s.event)) accepted.0).0

  -- the number stays
  number_stays : (m : ℕ) (ss : List StepAt) → number_from (Some m) ss ≡ Some m
  number_stays m [] = refl
  number_stays m (s ∷ ss) = number_stays m ss

  between_holds : (ss rest : List StepAt) → All (λ s. Ends c s → ⊥) ss → HeldBetween ss rest
  between_holds [] rest goes_on = refl
  between_holds (s ∷ ss) rest goes_on =
      ap (λ p. cond (holds (in_phase (Open None)) s) (s ∷ held_from p (ss ++ rest)) (held_from p (ss ++ rest))) (after_goes None s first)
      ∙ by (between_holds ss rest (All-tail (λ s. Ends c s → ⊥) s ss goes_on)) (reserves c s) refl
    where
      goes : All (λ s. Ends c s → ⊥) ss
      goes = All-tail (λ s. Ends c s → ⊥) s ss goes_on

      first : ends c s ≡ false
      first = not_ending c s (All-head (λ s. Ends c s → ⊥) s ss goes_on)

      -- this step reserves its reference
      now : reserves c s ≡ true → (m : ℕ) → number_of s.event ≡ Some m →
          cond (holds (in_phase (Open None)) s) (s ∷ held_from (in_phase (Open (number_of s.event))) (ss ++ rest)) (held_from (in_phase (Open (number_of s.event))) (ss ++ rest))
          ≡ refused_for target None (filter (is_kept c target) (s ∷ []))
          ++ (refused_for target (reference_held target (number_of s.event)) (filter (is_kept c target) ss) ++ held_from (in_phase (Open (number_from (number_of s.event) ss))) rest)
      now test m is =
          let own : is_kept c target s ≡ false = reserving_is_own s test in
          ap (λ q. cond (q && refused_in (Open None) target s) (s ∷ held_from (in_phase (Open (number_of s.event))) (ss ++ rest)) (held_from (in_phase (Open (number_of s.event))) (ss ++ rest))) own
          ∙ ap (λ n. held_from (in_phase (Open n)) (ss ++ rest)) is ∙ with_number m ss rest goes
          ∙ ap (λ n. refused_for target (reference_held target (Some m)) (filter (is_kept c target) ss) ++ held_from (in_phase (Open n)) rest) (sym (number_stays m ss))
          ∙ ap (λ n. refused_for target (reference_held target n) (filter (is_kept c target) ss) ++ held_from (in_phase (Open (number_from n ss))) rest) (sym is)
          ∙ ap (λ q. refused_for target None (cond q (s ∷ []) []) ++ (refused_for target (reference_held target (number_of s.event)) (filter (is_kept c target) ss) ++ held_from (in_phase (Open (number_from (number_of s.event) ss))) rest)) (sym own)

      -- it doesn't
      later : HeldBetween ss rest →
          cond (holds (in_phase (Open None)) s) (s ∷ held_from (in_phase (Open None)) (ss ++ rest)) (held_from (in_phase (Open None)) (ss ++ rest))
          ≡ refused_for target None (filter (is_kept c target) (s ∷ up_to_first (reserves c) ss))
          ++ (refused_for target (reference_held target (numbered ss)) (filter (is_kept c target) (after_first (reserves c) ss)) ++ held_from (in_phase (Open (number_from None ss))) rest)
      later further =
          let come : StepAt → Bool = λ s. comes_from target None (refusal_of s.reply) in
          let back = refused_for target (reference_held target (numbered ss)) (filter (is_kept c target) (after_first (reserves c) ss)) ++ held_from (in_phase (Open (number_from None ss))) rest in
          ap (λ k. cond (is_kept c target s && comes_from target k (refusal_of s.reply)) (s ∷ held_from (in_phase (Open None)) (ss ++ rest)) (held_from (in_phase (Open None)) (ss ++ rest))) (no_reference c target target)
          ∙ keep_more (is_kept c target s && come s) s (held_from (in_phase (Open None)) (ss ++ rest)) (filter come (filter (is_kept c target) (up_to_first (reserves c) ss))) back further
          ∙ ap (λ xs. xs ++ back) (sym (filter_more come (is_kept c target s) s (filter (is_kept c target) (up_to_first (reserves c) ss))))

      by : HeldBetween ss rest → (q : Bool) → reserves c s ≡ q →
          cond (holds (in_phase (Open None)) s) (s ∷ held_from (in_phase (Open (if q then number_of s.event else None))) (ss ++ rest)) (held_from (in_phase (Open (if q then number_of s.event else None))) (ss ++ rest))
          ≡ refused_for target None (filter (is_kept c target) (s ∷ (if q then [] else up_to_first (reserves c) ss)))
          ++ (refused_for target (reference_held target (option_and_then (λ (s : StepAt). number_of s.event) (cond q (Some s) (find (reserves c) ss)))) (filter (is_kept c target) (if q then ss else after_first (reserves c) ss))
          ++ held_from (in_phase (Open (number_from (if q then number_of s.event else None) ss))) rest)
      by further true test =
          let accepted = and_parts (is_by_call c s && is_some (number_of s.event)) (is_accepted s.reply) test in
          let number = number_there c target (number_of s.event) (and_parts (is_by_call c s) (is_some (number_of s.event)) accepted.0).1 in
          now test number.0 number.1
      by further false test = later further

  -- AT THE END

  between_last : (ss : List StepAt) (number : Option ℕ) (rest : List StepAt) → All (λ s. Ends c s → ⊥) ss →
      at_last (in_phase (Open number)) (ss ++ rest) ≡ at_last (in_phase (Open (number_from number ss))) rest
  between_last [] number rest goes_on = refl
  between_last (s ∷ ss) number rest goes_on =
      ap (λ p. at_last p (ss ++ rest)) (after_goes number s (not_ending c s (All-head (λ s. Ends c s → ⊥) s ss goes_on)))
      ∙ between_last ss (number_with c number s) rest (All-tail (λ s. Ends c s → ⊥) s ss goes_on)

-- what an undone attempt says of its list
module _ (steps : List StepAt) (u : Undone) (is : IsUndoneIn steps u) where
  abbrev pub behind : List StepAt
  behind = u.between ++ (u.undo ∷ u.tail)

  abbrev shown : Bool
  shown = leaves_off u.undo.reply

  -- from the undo on
  undo_stays : (number : Option ℕ) → others_from (in_phase u.call u.target (Open number)) (u.undo ∷ u.tail)
      ≡ filter (off_target u.call u.target) (if shown then up_to_first (releases u.target) u.tail else []) ++ (if shown then after_first (releases u.target) u.tail else u.tail)
  undo_stays number =
      let p = after (in_phase u.call u.target (Open number)) u.undo in
      ap (λ q. cond q (u.undo ∷ others_from p u.tail) (others_from p u.tail)) (is_own u.call u.target u.undo is.undoes)
      ∙ ap (λ p. others_from p u.tail) (at_undo u.call u.target number u.undo is.undoes is.undo_accepted)
      ∙ undone_stays u.call u.target shown u.tail

  undo_holds : (number : Option ℕ) → held_from (in_phase u.call u.target (Open number)) (u.undo ∷ u.tail)
      ≡ refused_for u.target None (filter (off_target u.call u.target) (if shown then up_to_first (releases u.target) u.tail else []))
  undo_holds number =
      let p = after (in_phase u.call u.target (Open number)) u.undo in
      ap (λ q. cond (q && refused_in (Open number) u.target u.undo) (u.undo ∷ held_from p u.tail) (held_from p u.tail)) (is_own u.call u.target u.undo is.undoes)
      ∙ ap (λ p. held_from p u.tail) (at_undo u.call u.target number u.undo is.undoes is.undo_accepted)
      ∙ undone_holds u.call u.target shown u.tail

  module _ (shows : u.awaited ≡ shown) where
    pub others_are : others u ≡ u.head ++ others_from (begun u.call u.target) behind
    others_are =
        ap (λ xs. u.head ++ xs) (sym (
        between_stays u.call u.target u.between None (u.undo ∷ u.tail) is.stays_open
        ∙ ap (λ xs. filter (is_kept u.call u.target) u.between ++ xs) (
        undo_stays (number_from u.call u.target None u.between)
        ∙ ap (λ q. filter (off_target u.call u.target) (if q then up_to_first (releases u.target) u.tail else []) ++ (if q then after_first (releases u.target) u.tail else u.tail)) (sym shows))))

    pub held_are : held_refusals u ≡ held_from (begun u.call u.target) behind
    held_are =
        sym (
        between_holds u.call u.target u.between (u.undo ∷ u.tail) is.stays_open
        ∙ ap (λ xs. refused_for u.target None (others_between u (up_to_first (reserves u.call) u.between)) ++ (refused_for u.target (reference_reserved u) (others_between u (after_first (reserves u.call) u.between)) ++ xs)) (
        undo_holds (number_from u.call u.target None u.between)
        ∙ ap (λ q. refused_for u.target None (filter (off_target u.call u.target) (if q then up_to_first (releases u.target) u.tail else []))) (sym shows)))

    pub settles_are : is_settled u ≡ settles (begun u.call u.target) behind
    settles_are =
        ap (λ q. not q || list_any (releases u.target) u.tail) shows
        ∙ sym (
        ap (λ (p : Followed). is_settled_in p.phase) (
        between_last u.call u.target u.between None (u.undo ∷ u.tail) is.stays_open
        ∙ ap (λ p. at_last p u.tail) (at_undo u.call u.target (number_from u.call u.target None u.between) u.undo is.undoes is.undo_accepted))
        ∙ undone_settles u.call u.target shown u.tail)

  -- it is undone in the end, settled or not
  pub undone_last : is_undone_in (at_last (begun u.call u.target) behind).phase ≡ true
  undone_last =
      ap (λ (p : Followed). is_undone_in p.phase) (
      between_last u.call u.target u.between None (u.undo ∷ u.tail) is.stays_open
      ∙ ap (λ p. at_last p u.tail) (at_undo u.call u.target (number_from u.call u.target None u.between) u.undo is.undoes is.undo_accepted))
      ∙ undone_ends u.call u.target shown u.tail

-- AND BACK

-- the steps fall into what came between, the undo, and what came after
pub record UndoneBehind (c : ℕ) (ss : List StepAt) : Type 0 where
  pub between : List StepAt
  pub undo : StepAt
  pub tail : List StepAt
  pub parts : ss ≡ between ++ (undo ∷ tail)
  pub stays_open : All (λ s. Ends c s → ⊥) between
  pub undoes : Undoes c undo.event
  pub undo_accepted : IsTrue (is_accepted undo.reply)

module _ (c : ℕ) (target : Option ChanId) where
  -- a step that ends the attempt is its undo, where the attempt is undone in the end
  undo_there : (s : StepAt) (ss : List StepAt) → ends c s ≡ true → is_undone_in (at_last (in_phase c target (ended_with s)) ss).phase ≡ true → Undoes c s.event
  undo_there s ss test last = undoes_from c s.event (undo_is_end s.event (by (is_some (undone_by s.event)) refl last) ∙ called c (ended_by s.event) (parts (is_call c (ended_by s.event)) (is_accepted s.reply) test).0)
    where
      by : (q : Bool) → is_some (undone_by s.event) ≡ q → is_undone_in (at_last (in_phase c target (if q then left_in c target (leaves_off s.reply) else Completed)) ss).phase ≡ true → is_some (undone_by s.event) ≡ true
      by true is last = is
      by false is last = let bad : false ≡ true = ap (λ (p : Followed). is_undone_in p.phase) (sym (completed_last c target ss)) ∙ last in cc

  pub undone_behind : (ss : List StepAt) (number : Option ℕ) → is_undone_in (at_last (in_phase c target (Open number)) ss).phase ≡ true → UndoneBehind c ss
  undone_behind [] number last = cc
  undone_behind (s ∷ ss) number last = by (undone_behind ss) (ends c s) refl last
    where
      by : ((number : Option ℕ) → is_undone_in (at_last (in_phase c target (Open number)) ss).phase ≡ true → UndoneBehind c ss) → (q : Bool) → ends c s ≡ q →
          is_undone_in (at_last (in_phase c target (if q then ended_with s else Open (number_with c number s))) ss).phase ≡ true → UndoneBehind c (s ∷ ss)
      by further true test last = record {
        between = [];
        undo = s;
        tail = ss;
        parts = refl;
        stays_open = All-nil (λ s. Ends c s → ⊥);
        undoes = undo_there s ss test last;
        undo_accepted = (ends_from c s test).0;
      }
      by further false test last =
          let rest = further (number_with c number s) last in
          record {
            between = s ∷ rest.between;
            undo = rest.undo;
            tail = rest.tail;
            parts = ap (λ ss. s ∷ ss) rest.parts;
            stays_open = All-cons (λ s. Ends c s → ⊥) s rest.between (λ over. let bad : true ≡ false = sym (ends_shown c s over) ∙ test in cc) rest.stays_open;
            undoes = rest.undoes;
            undo_accepted = rest.undo_accepted;
          }
