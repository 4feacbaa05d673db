-- What is kept of calls, by the slots under their keys.
use Rattle.std.proofs.Common.{◌≡◌, ◌≢◌, inl, inr, ◌==◌, ◌+◌, ◌<◌, ◌≤◌, ℕ, true, false, cond, List, [], length, get_or, set, Option, Some, None, is_some, IfSome, option_and_then, slice_get, refl, sym, ap, ◌∙◌, subst, arith}
use Rattle.std.specs.Ordering.{nat_cmp}
use Rattle.std.specs.Cmp.{nat_cmp_total}
use Rattle.std.specs.FinMap as map
use Rattle.std.specs.FinMap.{nat_cmp-IsAntisymmetric}
use Rattle.std.proofs.lemmas.Bool.{ne_eqb, eq-eqb, eqb-true, cases_eq, cases_lt}
use Rattle.std.proofs.lemmas.List.{get_or-set_same, get_or-set_other, length-set}
use Rattle.std.proofs.lemmas.Option.{slice_get_past, slice_get-get_or}
use Rattle.dense_tables.specs.declared.calls.Slot.{Slot}
use Rattle.dense_tables.specs.Maps.{put, Covers}
use Rattle.dense_tables.specs.Calls.{below, kept_in, entry_at, entries_of, AgreesAt}
use Rattle.dense_tables.proofs.MapFacts.{put_again, len_put, one_if_some, same_by_part}
use Rattle.dense_tables.proofs.Listed.{get_listed, listed_put, listed_empty, len_listed, past_below, length_below}

pub covers : {E : Type 0} (keys : List ℕ) (slots : List (Option (Slot E))) → Covers nat_cmp (below (length keys)) (entry_at keys slots)
unfolding entry_at
covers keys slots q none = ap (option_and_then (λ key. kept_in q (get_or slots key None))) (slice_get_past keys q (past_below (length keys) q none))

pub get_entry : {E : Type 0} (keys : List ℕ) (slots : List (Option (Slot E))) (c : ℕ) → map.get (entries_of keys slots) c ≡ entry_at keys slots c
get_entry keys slots = get_listed nat_cmp_total nat_cmp-IsAntisymmetric (below (length keys)) (entry_at keys slots) (covers keys slots)

pub few_entries : {E : Type 0} (keys : List ℕ) (slots : List (Option (Slot E))) → map.len (entries_of keys slots) ≤ length keys
few_entries keys slots =
    let most = len_listed nat_cmp_total (below (length keys)) (entry_at keys slots) in
    omega (arith, most, length_below (length keys))

-- what stands under a number's key
pub entry_is : {E : Type 0} (keys : List ℕ) (slots : List (Option (Slot E))) (c key : ℕ) → slice_get keys c ≡ Some key → entry_at keys slots c ≡ kept_in c (get_or slots key None)
unfolding entry_at
entry_is keys slots c key at = ap (option_and_then (λ k. kept_in c (get_or slots k None))) at

-- the slot is nobody's, or this call's
abbrev pub IsOf : {E : Type 0} → ℕ → Option (Slot E) → Type 0
IsOf c o = IfSome o (λ s. s.number ≡ c)

other_keeps_none : {E : Type 0} (c q : ℕ) (o : Option (Slot E)) → IsOf c o → q ≢ c → kept_in q o ≡ None
other_keeps_none c q None of other = refl
other_keeps_none c q (Some s) of other = ap (λ b. cond b (Some s.entry) None) (ap (λ n. n == q) of ∙ ne_eqb c q (λ same. other (sym same)))

pub own_keeps : {E : Type 0} (c : ℕ) (s : Slot E) → s.number ≡ c → kept_in c (Some s) ≡ Some s.entry
own_keeps c s of = ap (λ b. cond b (Some s.entry) None) (eq-eqb s.number c of)

-- a slot that keeps something of a call is the call's
pub keeps_own : {E : Type 0} (c : ℕ) (o : Option (Slot E)) → is_some (kept_in c o) ≡ true → IsOf c o
keeps_own c None some = tt
keeps_own c (Some s) some =
    elim (s.number == c) as (λ b. (s.number == c) ≡ b → is_some (cond b (Some s.entry) None) ≡ true → s.number ≡ c) [
      | true ↦ λ is h. eqb-true s.number c is
      | false ↦ λ is h. cc
    ] refl some

pub keeps_some : {E : Type 0} (c : ℕ) (o : Option (Slot E)) → is_some (kept_in c o) ≡ true → is_some o ≡ true
keeps_some c None some = cc
keeps_some c (Some s) some = refl

pub keeps_none : {E : Type 0} (o : Option E) → is_some o ≡ false → o ≡ None
keeps_none None e = refl
keeps_none (Some v) e = cc

-- another slot under a key that was nobody's or the call's, and is so after: the map changes at the call alone
module _ {E : Type 0} (keys later : List ℕ) (old new : List (Option (Slot E))) (c key : ℕ) (same : (q : ℕ) → q ≢ c → slice_get later q ≡ slice_get keys q) (others : (j : ℕ) → j ≢ key → get_or new j None ≡ get_or old j None) (was : IsOf c (get_or old key None)) (is : IsOf c (get_or new key None)) where
  others_stay : (q : ℕ) → q ≢ c → entry_at later new q ≡ entry_at keys old q
  unfolding entry_at
  others_stay q other =
      ap (option_and_then (λ j. kept_in q (get_or new j None))) (same q other)
      ∙ elim (slice_get keys q) as (λ o. option_and_then (λ j. kept_in q (get_or new j None)) o ≡ option_and_then (λ j. kept_in q (get_or old j None)) o) [
        | None ↦ refl
        | Some j ↦ elim (cases_eq j key) [
          | inl here ↦
              ap (λ j. kept_in q (get_or new j None)) here ∙ other_keeps_none c q (get_or new key None) is other ∙ sym (ap (λ j. kept_in q (get_or old j None)) here ∙ other_keeps_none c q (get_or old key None) was other)
          | inr there ↦ ap (kept_in q) (others j there)
        ]
      ]

  pub entries_written : (w : Option E) → entry_at later new c ≡ w → entries_of later new ≡ put (entries_of keys old) c w
  entries_written w at =
      listed_put nat_cmp_total nat_cmp-IsAntisymmetric (below (length keys)) (below (length later)) (entry_at keys old) (entry_at later new) (covers keys old) (covers later new) c others_stay
      ∙ ap (put (entries_of keys old) c) at

set_same : (keys : List ℕ) (c key : ℕ) → c < length keys → slice_get (set keys c key) c ≡ Some key
set_same keys c key within =
    slice_get-get_or (set keys c key) c 0 (omega (arith, within, length-set keys c key)) ∙ ap Some (get_or-set_same keys c key 0 within)

set_other : (keys : List ℕ) (c key q : ℕ) → q ≢ c → slice_get (set keys c key) q ≡ slice_get keys q
set_other keys c key q other =
    elim (cases_lt q (length keys)) [
      | inl within ↦
          slice_get-get_or (set keys c key) q 0 (omega (arith, within, length-set keys c key)) ∙ ap Some (get_or-set_other keys c q key 0 other)
          ∙ sym (slice_get-get_or keys q 0 within)
      | inr past ↦ slice_get_past (set keys c key) q (omega (arith, past, length-set keys c key)) ∙ sym (slice_get_past keys q past)
    ]

-- a call's slot is put under a key that had none
pub entry_added : {E : Type 0} (keys : List ℕ) (old new : List (Option (Slot E))) (c key : ℕ) (s : Slot E) → c < length keys → s.number ≡ c → get_or old key None ≡ None → get_or new key None ≡ Some s → ((j : ℕ) → j ≢ key → get_or new j None ≡ get_or old j None) → entries_of (set keys c key) new ≡ map.insert (entries_of keys old) c s.entry
entry_added keys old new c key s within of vacant there others =
    entries_written keys (set keys c key) old new c key (set_other keys c key) others (subst (IsOf c) (sym vacant) tt) (subst (IsOf c) (sym there) of) (Some s.entry)
    (entry_is (set keys c key) new c key (set_same keys c key within) ∙ ap (kept_in c) there ∙ own_keeps c s of)

-- what is under the call's key becomes another slot of the call, or none
pub entry_changed : {E : Type 0} (keys : List ℕ) (old new : List (Option (Slot E))) (c key : ℕ) (w : Option (Slot E)) → slice_get keys c ≡ Some key → IsOf c (get_or old key None) → IsOf c w → get_or new key None ≡ w → ((j : ℕ) → j ≢ key → get_or new j None ≡ get_or old j None) → entries_of keys new ≡ put (entries_of keys old) c (kept_in c w)
entry_changed keys old new c key w at was is there others =
    entries_written keys keys old new c key (λ q other. refl) others was (subst (IsOf c) (sym there) is) (kept_in c w) (entry_is keys new c key at ∙ ap (kept_in c) there)

-- what isn't kept may be taken out
pub entry_absent : {E : Type 0} (keys : List ℕ) (slots : List (Option (Slot E))) (c : ℕ) → entry_at keys slots c ≡ None → map.remove (entries_of keys slots) c ≡ entries_of keys slots
entry_absent keys slots c none = put_again nat_cmp_total nat_cmp-IsAntisymmetric (entries_of keys slots) c None (get_entry keys slots c ∙ none)

-- a call that is there has a slot of its own under its key
pub kept_there : {E : Type 0} (keys : List ℕ) (slots : List (Option (Slot E))) (c key : ℕ) → slice_get keys c ≡ Some key → is_some (map.get (entries_of keys slots) c) ≡ true → is_some (kept_in c (get_or slots key None)) ≡ true
kept_there keys slots c key at there = sym (ap is_some (get_entry keys slots c ∙ entry_is keys slots c key at)) ∙ there

-- how many calls there are, where one begins, changes or ends
pub count_put : {E : Type 0} (keys : List ℕ) (slots : List (Option (Slot E))) (c : ℕ) (w : Option E) → map.len (put (entries_of keys slots) c w) + one_if_some (map.get (entries_of keys slots) c) ≡ map.len (entries_of keys slots) + one_if_some w
count_put keys slots c w = len_put nat_cmp_total (entries_of keys slots) c w

-- what is read under a call's key
module _ {E : Type 0} (keys : List ℕ) (slots : List (Option (Slot E))) (c key : ℕ) (at : slice_get keys c ≡ Some key) where
  pub read_none : get_or slots key None ≡ None → None ≡ entry_at keys slots c
  read_none none = sym (entry_is keys slots c key at ∙ ap (kept_in c) none)

  pub read_own : (s : Slot E) → get_or slots key None ≡ Some s → s.number ≡ c → Some s.entry ≡ entry_at keys slots c
  read_own s there of = sym (entry_is keys slots c key at ∙ ap (kept_in c) there ∙ own_keeps c s of)

  pub read_other : (s : Slot E) → get_or slots key None ≡ Some s → (s.number ≡ c → ⊥) → None ≡ entry_at keys slots c
  read_other s there other =
      sym (entry_is keys slots c key at ∙ ap (kept_in c) there ∙ ap (λ b. cond b (Some s.entry) None) (ne_eqb s.number c other))

nobody : {E : Type 0} (keys : List ℕ) (c : ℕ) → entry_at {E = E} keys [] c ≡ None
unfolding entry_at
nobody {E = E} keys c = elim (slice_get keys c) as (λ o. option_and_then {U = E} (λ key. kept_in c (get_or [] key None)) o ≡ None) [ None ↦ refl | Some key ↦ refl ]

-- no slot, no call
pub no_entries : {E : Type 0} (keys : List ℕ) → entries_of {E = E} keys [] ≡ map.empty
no_entries keys = listed_empty nat_cmp_total nat_cmp-IsAntisymmetric (below (length keys)) (entry_at keys []) (nobody keys)

-- a table agrees with itself
pub alike : {E : Type 0} (m : map.FinMap nat_cmp E) (o : Option (Slot E)) → AgreesAt m m o
alike m None = tt
alike m (Some s) = λ some. refl

-- tables that keep something of as many calls are the same, where they agree at each slot of the one
module _ {E : Type 0} (keys later : List ℕ) (old new : List (Option (Slot E))) (each : (j : ℕ) → AgreesAt (entries_of keys old) (entries_of later new) (get_or old j None)) where
  at_slot : (q j : ℕ) (o : Option (Slot E)) → AgreesAt (entries_of keys old) (entries_of later new) o → is_some (map.get (entries_of keys old) q) ≡ true → is_some (kept_in q o) ≡ true → map.get (entries_of keys old) q ≡ map.get (entries_of later new) q
  at_slot q j None agrees there some = cc
  at_slot q j (Some s) agrees there some =
      let own = keeps_own q (Some s) some in
      subst (λ p. map.get (entries_of keys old) p ≡ map.get (entries_of later new) p) own (agrees (ap (λ p. is_some (map.get (entries_of keys old) p)) own ∙ there))

  at_key : (q : ℕ) (o : Option ℕ) → is_some (map.get (entries_of keys old) q) ≡ true → is_some (option_and_then (λ j. kept_in q (get_or old j None)) o) ≡ true → map.get (entries_of keys old) q ≡ map.get (entries_of later new) q
  at_key q None there some = cc
  at_key q (Some j) there some = at_slot q j (get_or old j None) (each j) there some

  under_key : (q : ℕ) → is_some (map.get (entries_of keys old) q) ≡ true → map.get (entries_of keys old) q ≡ map.get (entries_of later new) q
  unfolding entry_at
  under_key q there = at_key q (slice_get keys q) there (sym (ap is_some (get_entry keys old q)) ∙ there)

  pub slots_same : map.len (entries_of keys old) ≡ map.len (entries_of later new) → entries_of keys old ≡ entries_of later new
  slots_same long = same_by_part nat_cmp_total nat_cmp-IsAntisymmetric _ _ long under_key
