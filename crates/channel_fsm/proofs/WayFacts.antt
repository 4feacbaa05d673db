-- What is in the way of a channel: it, or what conflicts with it.
use Rattle.std.proofs.Common.{◌≡◌, ◌≢◌, ◌&&◌, ◌⊎◌, ℕ, Bool, true, false, cond, Option, Some, None, refl, sym, ap, ◌∙◌, subst, inl, inr, arith}
use Rattle.std.proofs.lemmas.Bool.{and_parts, and_right, false≢true, cases_Bool}
use Rattle.std.proofs.lemmas.Option.{same_Some, none-some}
use Rattle.timeslots.specs.declared.Sub.{Sub}
use Rattle.timeslots.specs.declared.Sub.TheVariants.{Full, Half0, Half1}
use Rattle.channel_fsm.specs.declared.ChanId.{ChanId}
use Rattle.channel_fsm.specs.declared.ChanState.{ChanState}
use Rattle.channel_fsm.specs.declared.ChanState.TheVariants.{Free, Held, Pending, On, Off}
use Rattle.channel_fsm.specs.Keys.{same_chan}
use Rattle.timeslots.specs.Parts.{sub_number, needs}
use Rattle.channel_fsm.proofs.KeyFacts.{same_chan_itself, one_chan}
use Rattle.channel_fsm.specs.Slots.{Conflicts, is_used, first_in_way, NoneInWay, InWayConflicts}

-- the first of three that passes
pub none_of_three : {X : Type 0} (a b c : Bool) (x y z : X) → cond a (Some x) (cond b (Some y) (cond c (Some z) None)) ≡ None → (a ≡ false) × ((b ≡ false) × (c ≡ false))
none_of_three true b c x y z e = absurd (none-some x (sym e))
none_of_three false true c x y z e = absurd (none-some y (sym e))
none_of_three false false true x y z e = absurd (none-some z (sym e))
none_of_three false false false x y z e = (refl, (refl, refl))

pub some_of_three : {X : Type 0} (a b c : Bool) (x y z found : X) → cond a (Some x) (cond b (Some y) (cond c (Some z) None)) ≡ Some found
    → ((a ≡ true) × (x ≡ found)) ⊎ (((b ≡ true) × (y ≡ found)) ⊎ ((c ≡ true) × (z ≡ found)))
some_of_three true b c x y z found e = inl (refl, same_Some x found e)
some_of_three false true c x y z found e = inr (inl (refl, same_Some y found e))
some_of_three false false true x y z found e = inr (inr (refl, same_Some z found e))
some_of_three false false false x y z found e = absurd (none-some found e)

pub not_used : (s : ChanState) → is_used s ≡ false → s ≡ Free
not_used Free e = refl
not_used (Held c) e = absurd (false≢true (sym e))
not_used (Pending c) e = absurd (false≢true (sym e))
not_used (On c) e = absurd (false≢true (sym e))
not_used Off e = absurd (false≢true (sym e))

used_differs : (s : ChanState) → is_used s ≡ true → s ≢ Free
used_differs s used e = false≢true (sym (ap is_used e) ∙ used)

abbrev IsMet : ChanId → ChanId → Type 0
IsMet y x = (y ≡ x) ⊎ Conflicts y x

module _ (cell trx tn : ℕ) where
  clash : (s t : Sub) → (sub_number s ≡ sub_number t → ⊥) → ◌≢◌ {A = ChanId} (record { cell = cell; trx = trx; tn = tn; sub = s }) (record { cell = cell; trx = trx; tn = tn; sub = t })
  clash s t apart e = apart (ap (λ (y : ChanId). sub_number y.sub) e)

  beside : (s t : Sub) → (sub_number s ≡ sub_number t → ⊥) → (s ≡ Full) ⊎ (t ≡ Full)
      → Conflicts (record { cell = cell; trx = trx; tn = tn; sub = s }) (record { cell = cell; trx = trx; tn = tn; sub = t })
  beside s t apart whole = record { cell = refl; trx = refl; timeslot = refl; differ = clash s t apart; whole = whole }

  met_by : (t s : Sub) → needs t s ≡ true → IsMet (record { cell = cell; trx = trx; tn = tn; sub = s }) (record { cell = cell; trx = trx; tn = tn; sub = t })
  met_by Full Full e = inl refl
  met_by Full Half0 e = inr (beside Half0 Full (λ e. omega arith) (inr refl))
  met_by Full Half1 e = inr (beside Half1 Full (λ e. omega arith) (inr refl))
  met_by Half0 Full e = inr (beside Full Half0 (λ e. omega arith) (inl refl))
  met_by Half0 Half0 e = inl refl
  met_by Half0 Half1 e = absurd (false≢true e)
  met_by Half1 Full e = inr (beside Full Half1 (λ e. omega arith) (inl refl))
  met_by Half1 Half0 e = absurd (false≢true e)
  met_by Half1 Half1 e = inl refl

pub met : (x : ChanId) (s : Sub) → needs x.sub s ≡ true → IsMet (record x { sub = s }) x
met x s e = met_by x.cell x.trx x.tn x.sub s e

pub needs_itself : (s : Sub) → needs s s ≡ true
needs_itself Full = refl
needs_itself Half0 = refl
needs_itself Half1 = refl

needs_whole : (s : Sub) → needs s Full ≡ true
needs_whole Full = refl
needs_whole Half0 = refl
needs_whole Half1 = refl

whole_needs : (s : Sub) → needs Full s ≡ true
whole_needs Full = refl
whole_needs Half0 = refl
whole_needs Half1 = refl

-- what is the channel or conflicts with it is a needed part of its timeslot
pub needed : (x y : ChanId) → IsMet y x → (needs x.sub y.sub ≡ true) × (record x { sub = y.sub } ≡ y)
needed x y (inl same) = (ap (λ (z : ChanId). needs x.sub z.sub) same ∙ needs_itself x.sub, ap (λ (z : ChanId). record x { sub = z.sub }) same ∙ sym same)
needed x y (inr conflicts) =
    (by conflicts.whole, λ i. record { cell = sym conflicts.cell i; trx = sym conflicts.trx i; tn = sym conflicts.timeslot i; sub = y.sub })
  where
    by : (y.sub ≡ Full) ⊎ (x.sub ≡ Full) → needs x.sub y.sub ≡ true
    by (inl whole) = ap (needs x.sub) whole ∙ needs_whole x.sub
    by (inr whole) = ap (λ s. needs s y.sub) whole ∙ whole_needs y.sub

and_false : (a b : Bool) → (a && b) ≡ false → a ≡ true → b ≡ false
and_false true b e is = e
and_false false b e is = absurd (false≢true is)

module _ (states : ChanId → ChanState) (x : ChanId) where
  abbrev passes : Sub → Bool
  passes s = needs x.sub s && is_used (states (record x { sub = s }))

  -- where nothing is in the way, no part passes
  pub none_passes : first_in_way states x ≡ None → (s : Sub) → passes s ≡ false
  none_passes e Full = (none_of_three (passes Full) (passes Half0) (passes Half1) (record x { sub = Full }) (record x { sub = Half0 }) (record x { sub = Half1 }) e).0
  none_passes e Half0 = (none_of_three (passes Full) (passes Half0) (passes Half1) (record x { sub = Full }) (record x { sub = Half0 }) (record x { sub = Half1 }) e).1.0
  none_passes e Half1 = (none_of_three (passes Full) (passes Half0) (passes Half1) (record x { sub = Full }) (record x { sub = Half0 }) (record x { sub = Half1 }) e).1.1

  pub all_free : first_in_way states x ≡ None → (y : ChanId) → IsMet y x → states y ≡ Free
  all_free e y is =
      let (needs_it, same) = needed x y is in
      ap states (sym same) ∙ not_used (states (record x { sub = y.sub })) (and_false (needs x.sub y.sub) (is_used (states (record x { sub = y.sub }))) (none_passes e y.sub) needs_it)

  fails : ((y : ChanId) → IsMet y x → states y ≡ Free) → (s : Sub) → passes s ≡ false
  fails free s = elim (cases_Bool (needs x.sub s)) [
    | inl is ↦ ap (λ b. b && is_used (states (record x { sub = s }))) is ∙ ap is_used (free (record x { sub = s }) (met x s is))
    | inr not_needed ↦ ap (λ b. b && is_used (states (record x { sub = s }))) not_needed
  ]

  pub none_there : ((y : ChanId) → IsMet y x → states y ≡ Free) → first_in_way states x ≡ None
  none_there free = λ i. cond (fails free Full i) (Some (record x { sub = Full })) (cond (fails free Half0 i) (Some (record x { sub = Half0 })) (cond (fails free Half1 i) (Some (record x { sub = Half1 })) None))

  one_met : (s : Sub) (y : ChanId) → passes s ≡ true → record x { sub = s } ≡ y → IsMet y x × (states y ≢ Free)
  one_met s y e same =
      let (needs_it, used) = and_parts (needs x.sub s) (is_used (states (record x { sub = s }))) e in
      subst (λ z. IsMet z x × (states z ≢ Free)) same (met x s needs_it, used_differs (states (record x { sub = s })) used)

  pub found_conflicts : (y : ChanId) → first_in_way states x ≡ Some y → IsMet y x × (states y ≢ Free)
  found_conflicts y e = elim (some_of_three (passes Full) (passes Half0) (passes Half1) (record x { sub = Full }) (record x { sub = Half0 }) (record x { sub = Half1 }) y e) [
    | inl here ↦ one_met Full y here.0 here.1
    | inr later ↦ elim later [
      | inl here ↦ one_met Half0 y here.0 here.1
      | inr here ↦ one_met Half1 y here.0 here.1
    ]
  ]

pub none_in_way : NoneInWay
none_in_way states x = (all_free states x, none_there states x)

pub way_conflicts : InWayConflicts
way_conflicts states x y e = found_conflicts states x y e

-- it is the same where the states of the timeslot are
pub way_same : (f g : ChanId → ChanState) (x : ChanId) → ((s : Sub) → f (record x { sub = s }) ≡ g (record x { sub = s })) → first_in_way f x ≡ first_in_way g x
way_same f g x same = λ i.
    cond (needs x.sub Full && is_used (same Full i)) (Some (record x { sub = Full }))
    (cond (needs x.sub Half0 && is_used (same Half0 i)) (Some (record x { sub = Half0 })) (cond (needs x.sub Half1 && is_used (same Half1 i)) (Some (record x { sub = Half1 })) None))

-- or which of its channels are in use is
pub way_used : (f g : ChanId → ChanState) (x : ChanId) → ((s : Sub) → is_used (f (record x { sub = s })) ≡ is_used (g (record x { sub = s }))) → first_in_way f x ≡ first_in_way g x
way_used f g x same = λ i.
    cond (needs x.sub Full && same Full i) (Some (record x { sub = Full }))
    (cond (needs x.sub Half0 && same Half0 i) (Some (record x { sub = Half0 })) (cond (needs x.sub Half1 && same Half1 i) (Some (record x { sub = Half1 })) None))

-- where no channel is in use, nothing is in the way
pub none_used_in_way : (states : ChanId → ChanState) (x : ChanId) → ((y : ChanId) → states y ≡ Free) → first_in_way states x ≡ None
none_used_in_way states x free = none_there states x (λ y is. free y)

-- where one channel is free in the second and all others are the same, the same is in the way of a channel, unless it was that one
dropped : {X : Type 0} (z : X) (a a' : Bool) (r r' : Option X) → a' ≡ false → r ≡ r' → (cond a (Some z) r ≡ Some z → ⊥) → cond a (Some z) r ≡ cond a' (Some z) r'
dropped z true a' r r' e f not_it = absurd (not_it refl)
dropped z false a' r r' e f not_it = f ∙ sym (ap (λ t. cond t (Some z) r') e)

kept : {X : Type 0} (x z : X) (a a' : Bool) (r r' : Option X) → a ≡ a' → ((r ≡ Some z → ⊥) → r ≡ r') → (cond a (Some x) r ≡ Some z → ⊥) → cond a (Some x) r ≡ cond a' (Some x) r'
kept x z true a' r r' e rest not_it = ap (λ t. cond t (Some x) r') e
kept x z false a' r r' e rest not_it = rest not_it ∙ ap (λ t. cond t (Some x) r') e

-- two channels are one, or they are different
pub chan_cases : (x y : ChanId) → (x ≡ y) ⊎ (x ≢ y)
chan_cases x y = elim (cases_Bool (same_chan x y)) [
  | inl is ↦ inl (one_chan x y is)
  | inr other ↦ inr (λ e. false≢true (sym other ∙ ap (same_chan x) (sym e) ∙ same_chan_itself x))
]

sub_differs : (x : ChanId) (s t : Sub) → (sub_number s ≡ sub_number t → ⊥) → ◌≢◌ {A = ChanId} (record x { sub = s }) (record x { sub = t })
sub_differs x s t apart e = apart (ap (λ (y : ChanId). sub_number y.sub) e)

module _ (f g : ChanId → ChanState) (x z : ChanId) (same : (y : ChanId) → y ≢ z → f y ≡ g y) (free : g z ≡ Free) where
  alike : (s : Sub) → record x { sub = s } ≢ z → (needs x.sub s && is_used (f (record x { sub = s }))) ≡ (needs x.sub s && is_used (g (record x { sub = s })))
  alike s apart = ap (λ state. needs x.sub s && is_used state) (same (record x { sub = s }) apart)

  unused : (s : Sub) → record x { sub = s } ≡ z → (needs x.sub s && is_used (g (record x { sub = s }))) ≡ false
  unused s it = ap (λ y. needs x.sub s && is_used (g y)) it ∙ ap (λ state. needs x.sub s && is_used state) free ∙ and_right (needs x.sub s) false refl

  by_part : (s : Sub) → record x { sub = s } ≡ z → (first_in_way f x ≡ Some (record x { sub = s }) → ⊥) → first_in_way f x ≡ first_in_way g x
  by_part Full it not_it =
      let apart : (t : Sub) → (sub_number t ≡ sub_number Full → ⊥) → record x { sub = t } ≢ z = λ t other e. sub_differs x t Full other (e ∙ sym it) in
      let lower = alike Half0 (apart Half0 (λ e. omega arith)) in
      let upper = alike Half1 (apart Half1 (λ e. omega arith)) in
      dropped (record x { sub = Full }) _ _ _ _ (unused Full it) (λ i. cond (lower i) (Some (record x { sub = Half0 })) (cond (upper i) (Some (record x { sub = Half1 })) None)) not_it
  by_part Half0 it not_it =
      let apart : (t : Sub) → (sub_number t ≡ sub_number Half0 → ⊥) → record x { sub = t } ≢ z = λ t other e. sub_differs x t Half0 other (e ∙ sym it) in
      let upper = alike Half1 (apart Half1 (λ e. omega arith)) in
      kept (record x { sub = Full }) (record x { sub = Half0 }) _ _ _ _ (alike Full (apart Full (λ e. omega arith)))
      (dropped (record x { sub = Half0 }) _ _ _ _ (unused Half0 it) (λ i. cond (upper i) (Some (record x { sub = Half1 })) None)) not_it
  by_part Half1 it not_it =
      let apart : (t : Sub) → (sub_number t ≡ sub_number Half1 → ⊥) → record x { sub = t } ≢ z = λ t other e. sub_differs x t Half1 other (e ∙ sym it) in
      kept (record x { sub = Full }) (record x { sub = Half1 }) _ _ _ _ (alike Full (apart Full (λ e. omega arith)))
      (kept (record x { sub = Half0 }) (record x { sub = Half1 }) _ _ _ _ (alike Half0 (apart Half0 (λ e. omega arith)))
      (dropped (record x { sub = Half1 }) _ _ _ _ (unused Half1 it) refl)) not_it

  pub way_without : (first_in_way f x ≡ Some z → ⊥) → first_in_way f x ≡ first_in_way g x
  way_without not_it = elim (chan_cases (record x { sub = z.sub }) z) [
    | inl it ↦ by_part z.sub it (λ e. not_it (e ∙ ap Some it))
    | inr apart ↦ way_same f g x (λ s. same (record x { sub = s })
        (λ e. apart (ap (λ (y : ChanId). record x { sub = y.sub }) (sym e) ∙ e)))
  ]
