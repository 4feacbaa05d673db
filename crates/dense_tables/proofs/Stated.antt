-- The states of channels, by their places at the site.
use Rattle.std.proofs.Common.{◌≡◌, ◌≢◌, inl, inr, ◌&&◌, ◌+◌, ◌*◌, ◌/◌, ◌%◌, ◌<◌, ◌≤◌, nat_lt, ℕ, Bool, true, false, cond, List, length, get_or, set, Option, Some, None, is_some, is_none, option_and_then, refl, sym, ap, ◌∙◌, subst, arith}
use Rattle.std.specs.Ordering.{eq_by_cmp}
use Rattle.std.specs.FinMap as map
use Rattle.std.specs.FinMap.{same_map}
use Rattle.std.proofs.lemmas.Bool.{and_parts, and_from, cases_Bool, lt-ltb, ltb-true}
use Rattle.std.proofs.lemmas.List.{get_or-set_same, get_or-set_other}
use Rattle.std.proofs.lemmas.List.Folds.{list_any_at}
use Rattle.std.proofs.lemmas.List.Quantifiers.{position-Some}
use Rattle.channel_fsm.specs.declared.ChanId.{ChanId}
use Rattle.channel_fsm.specs.declared.ChanState.{ChanState}
use Rattle.channel_fsm.specs.declared.ChanState.TheVariants.{Free, Held, Pending, On, Off}
use Rattle.timeslots.specs.declared.Sub.{Sub}
use Rattle.timeslots.specs.declared.Sub.TheVariants.{Full, Half0, Half1}
use Rattle.channel_fsm.specs.Keys.{same_chan}
use Rattle.timeslots.specs.Parts.{sub_number}
use Rattle.channel_fsm.specs.Slots.{is_used, first_in_way}
use Rattle.channel_fsm.proofs.WayFacts.{way_same, way_used, none_used_in_way}
use Rattle.cell_table.specs.Site.{SiteView, IsSite, IsWithinLimits, TrafficLiesWithin, is_traffic, channels, index_of}
use Rattle.dense_tables.specs.Keys.{chan_cmp}
use Rattle.dense_tables.specs.Maps.{put, Covers}
use Rattle.dense_tables.specs.Channels.{busy, state_at, states_of, or_free, number_of, sub_at, channel_at, is_within, ArePlaces, mask_at, is_free_at, is_free_by, AreMasks}
use Rattle.dense_tables.proofs.KeyFacts.{chan_total, chan_exact, one_chan}
use Rattle.dense_tables.proofs.MapFacts.{ties_itself, key_cases, put_again, len_put, one_if_some}
use Rattle.dense_tables.proofs.Listed.{get_listed, listed_put, listed_empty, len_listed}
use Rattle.dense_tables.proofs.Found.{placed, one_place, traffic_told}

-- what stands at a place
abbrev pub there : List ChanState → Option ℕ → Option ChanState
there states o = option_and_then (λ place. busy (get_or states place Free)) o

pub covers : (site : SiteView) (states : List ChanState) → Covers chan_cmp (channels site) (state_at site states)
covers site states q none =
    elim (index_of site q) as (λ o. index_of site q ≡ o → there states o ≡ None) [
      | None ↦ λ is. refl
      | Some place ↦ λ is.
          let found = position-Some (same_chan q) (channels site) place q is in
          let tied : eq_by_cmp chan_cmp q (get_or (channels site) place q) ≡ true = ap (eq_by_cmp chan_cmp q) (sym (one_chan q _ found.1)) ∙ ties_itself chan_total q in
          let any = list_any_at (eq_by_cmp chan_cmp q) (channels site) place q found.0 tied in
          cc
    ] refl

pub get_state : (site : SiteView) (states : List ChanState) (x : ChanId) → map.get (states_of site states) x ≡ state_at site states x
get_state site states = get_listed chan_total chan_exact (channels site) (state_at site states) (covers site states)

pub few_used : (site : SiteView) (states : List ChanState) → map.len (states_of site states) ≤ length (channels site)
few_used site states = len_listed chan_total (channels site) (state_at site states)

pub state_same : (site : SiteView) (states : List ChanState) (x : ChanId) (place : ℕ) (s : ChanState) → place < length states → index_of site x ≡ Some place → state_at site (set states place s) x ≡ busy s
state_same site states x place s within at = ap (there (set states place s)) at ∙ ap busy (get_or-set_same states place s Free within)

pub state_other : (site : SiteView) (states : List ChanState) (x q : ChanId) (place : ℕ) (s : ChanState) → index_of site x ≡ Some place → q ≢ x → state_at site (set states place s) q ≡ state_at site states q
state_other site states x q place s at other =
    elim (index_of site q) as (λ o. index_of site q ≡ o → there (set states place s) o ≡ there states o) [
      | None ↦ λ is. refl
      | Some j ↦ λ is. ap busy (get_or-set_other states place j s Free (λ same. other (one_place site q x place (is ∙ ap Some same) at)))
    ] refl

-- another state at a channel's place
pub state_written : (site : SiteView) (states : List ChanState) (x : ChanId) (place : ℕ) (s : ChanState) → place < length states → index_of site x ≡ Some place → states_of site (set states place s) ≡ put (states_of site states) x (busy s)
state_written site states x place s within at =
    listed_put chan_total chan_exact (channels site) (channels site) (state_at site states) (state_at site (set states place s)) (covers site states) (covers site (set states place s)) x (λ q other. state_other site states x q place s at other)
    ∙ ap (put (states_of site states) x) (state_same site states x place s within at)

-- how many aren't free, where a channel gets another state
pub count_written : (site : SiteView) (states : List ChanState) (x : ChanId) (place : ℕ) (s : ChanState) → place < length states → index_of site x ≡ Some place → map.len (states_of site (set states place s)) + one_if_some (busy (get_or states place Free)) ≡ map.len (states_of site states) + one_if_some (busy s)
count_written site states x place s within at =
    (λ i. map.len (state_written site states x place s within at i) + one_if_some (sym (get_state site states x ∙ ap (there states) at) i))
    ∙ len_put chan_total (states_of site states) x (busy s)

-- a state that isn't that of a free channel
pub busy_itself : (s : ChanState) → s ≢ Free → busy s ≡ Some s
busy_itself Free used = absurd (used refl)
busy_itself (Held c) used = refl
busy_itself (Pending c) used = refl
busy_itself (On c) used = refl
busy_itself Off used = refl

used_told : (s : ChanState) → is_used (or_free (busy s)) ≡ is_some (busy s)
used_told Free = refl
used_told (Held c) = refl
used_told (Pending c) = refl
used_told (On c) = refl
used_told Off = refl

-- a channel without a place is free, and stays so
pub state_absent : (site : SiteView) (states : List ChanState) (x : ChanId) → index_of site x ≡ None → put (states_of site states) x None ≡ states_of site states
state_absent site states x none = put_again chan_total chan_exact (states_of site states) x None (get_state site states x ∙ ap (there states) none)

pub none_used : (site : SiteView) (states : List ChanState) → ((place : ℕ) → get_or states place Free ≡ Free) → states_of site states ≡ map.empty
none_used site states free =
    listed_empty chan_total chan_exact (channels site) (state_at site states) (λ q.
    elim (index_of site q) as (λ o. there states o ≡ None) [ None ↦ refl | Some place ↦ ap busy (free place) ])

-- a state that isn't that of a free channel is given to a traffic channel alone
pub only_free : (s : ChanState) → (busy s ≢ None → false ≡ true) → busy s ≡ None
only_free Free h = refl
only_free (Held c) h = let wrong = h (λ e. cc) in cc
only_free (Pending c) h = let wrong = h (λ e. cc) in cc
only_free (On c) h = let wrong = h (λ e. cc) in cc
only_free Off h = let wrong = h (λ e. cc) in cc

-- ---- places

pub within_told : (x : ChanId) → is_within x ≡ true → IsWithinLimits x
within_told x e =
    let (cell, rest) = and_parts (nat_lt x.cell 64) (nat_lt x.trx 4 && nat_lt x.tn 8) e in
    let (trx, tn) = and_parts (nat_lt x.trx 4) (nat_lt x.tn 8) rest in
    record { cell = ltb-true x.cell 64 cell; trx = ltb-true x.trx 4 trx; timeslot = ltb-true x.tn 8 tn }

pub within_from : (x : ChanId) → IsWithinLimits x → is_within x ≡ true
within_from x limits = and_from _ _ (lt-ltb x.cell 64 limits.cell) (and_from _ _ (lt-ltb x.trx 4 limits.trx) (lt-ltb x.tn 8 limits.timeslot))

pub sub_small : (s : Sub) → sub_number s < 3
sub_small Full = omega arith
sub_small Half0 = omega arith
sub_small Half1 = omega arith

pub sub_again : (s : Sub) → sub_at (sub_number s) ≡ s
sub_again Full = refl
sub_again Half0 = refl
sub_again Half1 = refl

pub number_small : (x : ChanId) → IsWithinLimits x → number_of x < 6144
number_small x limits = let sub = sub_small x.sub in omega (arith, limits.cell, limits.trx, limits.timeslot, sub)

pub numbered_again : (x : ChanId) → IsWithinLimits x → channel_at (number_of x) ≡ x
numbered_again x limits =
    let small = limits.timeslot in
    let few = limits.trx in
    let less = sub_small x.sub in
    let cell : (((x.cell * 4 + x.trx) * 8 + x.tn) * 3 + sub_number x.sub) / 96 ≡ x.cell = omega arith in
    let trx : (((x.cell * 4 + x.trx) * 8 + x.tn) * 3 + sub_number x.sub) / 24 % 4 ≡ x.trx = omega arith in
    let tn : (((x.cell * 4 + x.trx) * 8 + x.tn) * 3 + sub_number x.sub) / 3 % 8 ≡ x.tn = omega arith in
    let sub : (((x.cell * 4 + x.trx) * 8 + x.tn) * 3 + sub_number x.sub) % 3 ≡ sub_number x.sub = omega arith in
    let part : sub_at ((((x.cell * 4 + x.trx) * 8 + x.tn) * 3 + sub_number x.sub) % 3) ≡ x.sub = ap sub_at sub ∙ sub_again x.sub in
    λ i. record { cell = cell i; trx = trx i; tn = tn i; sub = part i }

-- a channel that no site can have has no place
no_place : (site : SiteView) → TrafficLiesWithin site → (x : ChanId) → is_within x ≡ false → index_of site x ≡ None
no_place site lies x beyond =
    elim (index_of site x) as (λ o. index_of site x ≡ o → o ≡ None) [
      | None ↦ λ is. refl
      | Some place ↦ λ is. let inside = within_from x (lies x (placed site x place is).1) in cc
    ] refl

-- places that were noted number by number
pub places_are : (site : SiteView) → TrafficLiesWithin site → (places : List (Option ℕ)) → ((k : ℕ) → k < 6144 → get_or places k None ≡ index_of site (channel_at k)) → ArePlaces site places
places_are site lies places each x =
    elim (cases_Bool (is_within x)) [
      | inl inside ↦
          let limits = within_told x inside in
          ap (λ b. cond b (get_or places (number_of x) None) None) inside ∙ each (number_of x) (number_small x limits) ∙ ap (index_of site) (numbered_again x limits)
      | inr beyond ↦ ap (λ b. cond b (get_or places (number_of x) None) None) beyond ∙ sym (no_place site lies x beyond)
    ]

-- states that are the same of each channel that a site can have
pub states_told : (site : SiteView) → TrafficLiesWithin site → (one other : List ChanState) → ((k : ℕ) → k < 6144 → map.get (states_of site one) (channel_at k) ≡ map.get (states_of site other) (channel_at k)) → states_of site one ≡ states_of site other
states_told site lies one other each = same_map chan_total chan_exact _ _ (λ q.
    elim (cases_Bool (is_within q)) [
      | inl inside ↦
          let limits = within_told q inside in
          let again = numbered_again q limits in
          ap (map.get (states_of site one)) (sym again) ∙ each (number_of q) (number_small q limits) ∙ ap (map.get (states_of site other)) again
      | inr beyond ↦
          let none = no_place site lies q beyond in
          get_state site one q ∙ ap (there one) none ∙ sym (get_state site other q ∙ ap (there other) none)
    ])

-- ---- masks

-- what is in the way of a channel is the same where the states of its timeslot are
way_alike : (site : SiteView) (states later : List ChanState) (y : ChanId) → ((s : Sub) → state_at site later (record y { sub = s }) ≡ state_at site states (record y { sub = s }))
    → is_free_at site later y ≡ is_free_at site states y
way_alike site states later y same =
    ap (λ o. is_traffic site y && is_none o)
    (way_same (λ z. or_free (state_at site later z)) (λ z. or_free (state_at site states z)) y (λ s. ap or_free (same s)))

-- whether a channel is free, by the places of the channels
by_places : (site : SiteView) → IsSite site → (states : List ChanState) (places : List (Option ℕ)) → ArePlaces site places → (y : ChanId) → is_free_by places states y ≡ is_free_at site states y
by_places site is states places are y =
    (λ i. is_some (are y i) && is_none (first_in_way (λ z. or_free (there states (are z i))) y))
    ∙ ap (λ b. b && is_none (first_in_way (λ z. or_free (state_at site states z)) y)) (traffic_told site is y)

-- what becomes of the masks where one channel gets another state
pub masks_written : (site : SiteView) → IsSite site → (states : List ChanState) (places : List (Option ℕ)) (masks later : List ℕ) (x : ChanId) (place : ℕ) (s : ChanState)
    → ArePlaces site places → AreMasks site states masks → index_of site x ≡ Some place
    → ((t : Sub) → mask_at later (record x { sub = t }) ≡ is_free_by places (set states place s) (record x { sub = t }))
    → ((y : ChanId) → IsWithinLimits y → ((t : Sub) → y ≢ record x { sub = t }) → mask_at later y ≡ mask_at masks y) → AreMasks site (set states place s) later
masks_written site is states places masks later x place s noted are at written others y inside =
    elim (key_cases chan_total chan_exact (record x { sub = y.sub }) y) [
      | inl same ↦ subst (λ z. mask_at later z ≡ is_free_at site (set states place s) z) same (written y.sub ∙ by_places site is (set states place s) places noted (record x { sub = y.sub }))
      | inr apart ↦
          let away : (t : Sub) → y ≢ record x { sub = t } = λ t e. apart (λ i. record { cell = (sym e i).cell; trx = (sym e i).trx; tn = (sym e i).tn; sub = y.sub }) in
          let other : (t : Sub) → record y { sub = t } ≢ x = λ t e. apart (λ i. record { cell = (sym e i).cell; trx = (sym e i).trx; tn = (sym e i).tn; sub = y.sub }) in
          others y inside away ∙ are y inside
          ∙ sym (way_alike site states (set states place s) y (λ t. state_other site states x (record y { sub = t }) place s at (other t)))
    ]

-- they stay where a channel that isn't free gets another state that isn't that of a free one
pub masks_kept : (site : SiteView) (states : List ChanState) (masks : List ℕ) (x : ChanId) (place : ℕ) (s : ChanState) → place < length states → index_of site x ≡ Some place
    → is_some (state_at site states x) ≡ true → is_some (busy s) ≡ true → AreMasks site states masks → AreMasks site (set states place s) masks
masks_kept site states masks x place s within at was is are y inside =
    are y inside
    ∙ sym (ap (λ o. is_traffic site y && is_none o)
    (way_used (λ z. or_free (state_at site (set states place s) z)) (λ z. or_free (state_at site states z)) y (λ t. in_use (record y { sub = t }))))
  where
    in_use : (z : ChanId) → is_used (or_free (state_at site (set states place s) z)) ≡ is_used (or_free (state_at site states z))
    in_use z = elim (key_cases chan_total chan_exact z x) [
      | inl same ↦
          ap (λ q. is_used (or_free (state_at site (set states place s) q))) same ∙ ap (λ o. is_used (or_free o)) (state_same site states x place s within at) ∙ used_told s ∙ is
          ∙ sym (ap (λ q. is_used (or_free (state_at site states q))) same ∙ ap (λ o. is_used (or_free (there states o))) at ∙ used_told (get_or states place Free)
          ∙ sym (ap (λ o. is_some (there states o)) at) ∙ was)
      | inr other ↦ ap (λ o. is_used (or_free o)) (state_other site states x z place s at other)
    ]

-- masks of all traffic channels, where each is free
pub masks_begun : (site : SiteView) (states : List ChanState) (masks : List ℕ) → ((place : ℕ) → get_or states place Free ≡ Free) → ((x : ChanId) → IsWithinLimits x → mask_at masks x ≡ is_traffic site x) → AreMasks site states masks
masks_begun site states masks free named x inside =
    named x inside
    ∙ sym (ap (λ o. is_traffic site x && is_none o) (none_used_in_way (λ y. or_free (state_at site states y)) x (λ y. none y)) ∙ and_true (is_traffic site x))
  where
    none : (y : ChanId) → or_free (state_at site states y) ≡ Free
    none y = elim (index_of site y) as (λ o. or_free (there states o) ≡ Free) [ None ↦ refl | Some place ↦ ap (λ s. or_free (busy s)) (free place) ]

    and_true : (b : Bool) → (b && true) ≡ b
    and_true true = refl
    and_true false = refl
