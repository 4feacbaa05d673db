-- Along a walk it is enough to keep attempts that are over among the others; and one pass finds which attempts settle.
use Rattle.std.proofs.Common.{◌≡◌, ◌⊎◌, inl, inr, ℕ, suc, ◌+◌, ◌-◌, ◌≤◌, length, take, drop, get_or, Bool, true, false, not, cond, ◌&&◌, ◌||◌, if◌then◌else◌, is_some, is_none, List, [], ◌∷◌, ◌++◌, map, Option, Some, None, refl, sym, ◌∙◌, ap, append_assoc, arith}
use Rattle.std.specs.List.{list_any, list_all}
use Rattle.std.specs.Option.{option_to_list, option_or}
use Rattle.std.proofs.lemmas.Bool.{cases_Bool, cond-true, cond-false}
use Rattle.std.proofs.lemmas.List.{map-append}
use Rattle.std.proofs.lemmas.List.Elements.{filter-append}
use Rattle.channel_fsm.specs.declared.ChanId.{ChanId}
use Rattle.radio_book.specs.declared.undone.StepAt.{StepAt}
use Rattle.radio_book.specs.declared.following.Followed.{Followed}
use Rattle.radio_book.specs.Kinds.{is_accepted}
use Rattle.radio_book.specs.Found.{opened_by, first_place}
use Rattle.radio_book.specs.Following.{stays, holds, after, begun, is_over, settles, opened_in, opening_of, settling_in, settling, settling_count, followed_on, remains, is_held_by, remaining_from, all_held_from}
use Rattle.radio_desk.specs.Followers.{open_among, settled_flags, flagged, flags_behind}
use Rattle.radio_desk.proofs.FarSteps.{over_stays, over_frees, over_after}
use Rattle.radio_desk.proofs.RowFacts.{behind_first}

-- ATTEMPTS THAT ARE OVER

abbrev going : Followed → Bool
going p = not (is_over p)

over_gone : (p : Followed) (ps : List Followed) → is_over p ≡ true → open_among (p ∷ ps) ≡ open_among ps
over_gone p ps over = cond-false (going p) (p ∷ open_among ps) (open_among ps) (ap not over)

going_kept : (p : Followed) (ps : List Followed) → is_over p ≡ false → open_among (p ∷ ps) ≡ p ∷ open_among ps
going_kept p ps is = cond-true (going p) (p ∷ open_among ps) (open_among ps) (ap not is)

module _ (test : Followed → Bool) where
  all_open : ((p : Followed) → is_over p ≡ true → test p ≡ true) → (ps : List Followed) → list_all test (open_among ps) ≡ list_all test ps
  all_open over_passes [] = refl
  all_open over_passes (p ∷ ps) = by (cases_Bool (is_over p)) (all_open over_passes ps)
    where
      by : (is_over p ≡ true) ⊎ (is_over p ≡ false) → list_all test (open_among ps) ≡ list_all test ps → list_all test (open_among (p ∷ ps)) ≡ (test p && list_all test ps)
      by (inl over) rest = ap (list_all test) (over_gone p ps over) ∙ rest ∙ sym (ap (λ q. q && list_all test ps) (over_passes p over))
      by (inr is) rest = ap (list_all test) (going_kept p ps is) ∙ ap (λ q. test p && q) rest

  any_open : ((p : Followed) → is_over p ≡ true → test p ≡ false) → (ps : List Followed) → list_any test (open_among ps) ≡ list_any test ps
  any_open over_fails [] = refl
  any_open over_fails (p ∷ ps) = by (cases_Bool (is_over p)) (any_open over_fails ps)
    where
      by : (is_over p ≡ true) ⊎ (is_over p ≡ false) → list_any test (open_among ps) ≡ list_any test ps → list_any test (open_among (p ∷ ps)) ≡ (test p || list_any test ps)
      by (inl over) rest = ap (list_any test) (over_gone p ps over) ∙ rest ∙ sym (ap (λ q. q || list_any test ps) (over_fails p over))
      by (inr is) rest = ap (list_any test) (going_kept p ps is) ∙ ap (λ q. test p || q) rest

module _ (s : StepAt) where
  abbrev on : Followed → Followed
  on p = after p s

  open_on : (ps : List Followed) → open_among (map on ps) ≡ open_among (map on (open_among ps))
  open_on [] = refl
  open_on (p ∷ ps) = by (cases_Bool (is_over p)) (open_on ps)
    where
      by : (is_over p ≡ true) ⊎ (is_over p ≡ false) → open_among (map on ps) ≡ open_among (map on (open_among ps)) → open_among (on p ∷ map on ps) ≡ open_among (map on (open_among (p ∷ ps)))
      by (inl over) rest =
          over_gone (on p) (map on ps) (ap is_over (over_after p s over) ∙ over) ∙ rest
          ∙ ap (λ qs. open_among (map on qs)) (sym (over_gone p ps over))
      by (inr is) rest =
          ap (λ qs. cond (going (on p)) (on p ∷ qs) qs) rest
          ∙ ap (λ qs. open_among (map on qs)) (sym (going_kept p ps is))

  begun_open : (p : Followed) → is_over p ≡ false → (q : Bool) → open_among (option_to_list (if q then Some p else None)) ≡ option_to_list (if q then Some p else None)
  begun_open p is true = going_kept p [] is
  begun_open p is false = refl

  opened_open : (ss : List StepAt) (o : Option (ℕ × Option ChanId)) → open_among (option_to_list (settling_in (opened_in o) ss)) ≡ option_to_list (settling_in (opened_in o) ss)
  opened_open ss None = refl
  opened_open ss (Some o) = begun_open (begun o.0 o.1) refl (settles (begun o.0 o.1) ss)

  opening_open : (ss : List StepAt) (q : Bool) → open_among (option_to_list (settling_in (if q then opened_in (opened_by s.event) else None) ss)) ≡ option_to_list (settling_in (if q then opened_in (opened_by s.event) else None) ss)
  opening_open ss true = opened_open ss (opened_by s.event)
  opening_open ss false = refl

  -- those that aren't over are those that are followed
  open_followed : (ps : List Followed) (ss : List StepAt) → open_among (map on ps ++ option_to_list (settling s ss)) ≡ followed_on (open_among ps) s ss
  open_followed ps ss =
      filter-append going (map on ps) (option_to_list (settling s ss))
      ∙ (λ i. open_on ps i ++ opening_open ss (is_accepted s.reply) i)

  -- ONE STEP OF A WALK

  module _ (ss : List StepAt) (ps qs : List Followed) (opening : Option Followed) (is : opening ≡ settling s ss) (next : qs ≡ map on ps ++ option_to_list opening) where
    here : open_among qs ≡ followed_on (open_among ps) s ss
    here = ap open_among (next ∙ ap (λ o. map on ps ++ option_to_list o) is) ∙ open_followed ps ss

    pub count_on : (n : ℕ) → (n + (if is_some opening then 1 else 0)) + settling_count ss ≡ n + settling_count (s ∷ ss)
    count_on n = sum n (if is_some opening then 1 else 0) (settling_count ss) ∙ ap (λ o. n + ((if is_some o then 1 else 0) + settling_count ss)) is
      where
        sum : (a b c : ℕ) → (a + b) + c ≡ a + (b + c)
        sum a b c = omega arith

    kept : (q : Bool) (xs ys : List StepAt) → (xs ++ (if q then s ∷ [] else [])) ++ ys ≡ xs ++ (if q then s ∷ ys else ys)
    kept true xs ys = append_assoc xs (s ∷ []) ys
    kept false xs ys = append_assoc xs [] ys

    remains_same : (is_none opening && list_all (λ p. stays p s) ps) ≡ remains (open_among ps) s ss
    remains_same = λ i. (is_none (is i) && sym (all_open (λ p. stays p s) (λ p over. over_stays p s over) ps) i)

    pub remaining_on : (xs ys : List StepAt) → ys ≡ xs ++ (if is_none opening && list_all (λ p. stays p s) ps then s ∷ [] else []) → ys ++ remaining_from (open_among qs) ss ≡ xs ++ remaining_from (open_among ps) (s ∷ ss)
    remaining_on xs ys gives =
        ap (λ zs. zs ++ remaining_from (open_among qs) ss) gives
        ∙ kept (is_none opening && list_all (λ p. stays p s) ps) xs (remaining_from (open_among qs) ss)
        ∙ (λ i. xs ++ (if remains_same i then s ∷ remaining_from (here i) ss else remaining_from (here i) ss))

    held_same : is_held_by ps s ≡ is_held_by (open_among ps) s
    held_same = sym (any_open (λ p. holds p s) (λ p over. over_frees p s over) ps)

    first_of_two : (q : Bool) (held : Option ℕ) (ts : List StepAt) → option_or (option_or held (if q then Some s.place else None)) (first_place ts) ≡ option_or held (first_place (if q then s ∷ ts else ts))
    first_of_two true None ts = refl
    first_of_two true (Some n) ts = refl
    first_of_two false None ts = refl
    first_of_two false (Some n) ts = refl

    pub held_on : (old new : Option ℕ) → new ≡ option_or old (if is_held_by ps s then Some s.place else None) → option_or new (first_place (all_held_from (open_among qs) ss)) ≡ option_or old (first_place (all_held_from (open_among ps) (s ∷ ss)))
    held_on old new gives =
        ap (λ o. option_or o (first_place (all_held_from (open_among qs) ss))) gives
        ∙ first_of_two (is_held_by ps s) old (all_held_from (open_among qs) ss)
        ∙ (λ i. option_or old (first_place (if held_same i then s ∷ all_held_from (here i) ss else all_held_from (here i) ss)))

-- FLAGS

-- the first flag is that of the attempt that opens
pub first_flag : (o : Option Followed) (ss : List StepAt) (flags : List Bool) → flagged o (map (λ p. settles p ss) (option_to_list o) ++ flags) ≡ settling_in o ss
first_flag None ss flags = refl
first_flag (Some p) ss flags = refl

pub other_flags : (o : Option Followed) (ss : List StepAt) (flags : List Bool) → flags_behind o (map (λ p. settles p ss) (option_to_list o) ++ flags) ≡ flags
other_flags None ss flags = refl
other_flags (Some p) ss flags = refl

flags_on : (s : StepAt) (ss : List StepAt) (ps : List Followed) → map (λ p. settles p (s ∷ ss)) ps ≡ map (λ p. settles p ss) (map (λ p. after p s) ps)
flags_on s ss [] = refl
flags_on s ss (p ∷ ps) = ap (λ flags. settles (after p s) ss ∷ flags) (flags_on s ss ps)

-- one step more leaves the flags as they are
pub flags_same : (s : StepAt) (ss : List StepAt) (ps : List Followed) → map (λ p. settles p ss) (map (λ p. after p s) ps ++ option_to_list (opening_of s)) ++ settled_flags ss ≡ map (λ p. settles p (s ∷ ss)) ps ++ settled_flags (s ∷ ss)
flags_same s ss ps =
    ap (λ flags. flags ++ settled_flags ss) (map-append (λ p. settles p ss) (map (λ p. after p s) ps) (option_to_list (opening_of s)))
    ∙ append_assoc (map (λ p. settles p ss) (map (λ p. after p s) ps)) (map (λ p. settles p ss) (option_to_list (opening_of s))) (settled_flags ss)
    ∙ ap (λ flags. flags ++ settled_flags (s ∷ ss)) (sym (flags_on s ss ps))

-- ONE STEP FURTHER IN A LIST

-- what follows the first
abbrev left : List StepAt → List StepAt
left steps = take (length steps - 1) (drop 1 steps)

first_left : (steps : List StepAt) (d : StepAt) → 1 ≤ length steps → steps ≡ get_or steps 0 d ∷ left steps
first_left [] d some = absurd (omega arith)
first_left (s ∷ ss) d some = ap (λ ss. s ∷ ss) (sym (behind_first s ss))

one_at_most : (q : Bool) → (if q then 1 else 0) ≤ 1
one_at_most true = omega arith
one_at_most false = omega arith

module _ (rest : List StepAt) (d : StepAt) (some : 1 ≤ length rest) where
  abbrev s : StepAt
  s = get_or rest 0 d

  abbrev ss : List StepAt
  ss = left rest

  split : rest ≡ s ∷ ss
  split = first_left rest d some

  pub flags_more : (ps qs : List Followed) (o : Option Followed) (all : List Bool) → map (λ p. settles p rest) ps ++ settled_flags rest ≡ all → qs ≡ map (λ p. after p s) ps ++ option_to_list o → o ≡ opening_of s → map (λ p. settles p ss) qs ++ settled_flags ss ≡ all
  flags_more ps qs o all were next opens =
      ap (λ qs. map (λ p. settles p ss) qs ++ settled_flags ss) (next ∙ ap (λ o. map (λ p. after p s) ps ++ option_to_list o) opens)
      ∙ flags_same s ss ps
      ∙ ap (λ r. map (λ p. settles p r) ps ++ settled_flags r) (sym split) ∙ were

  module _ (flags : List Bool) (are : flags ≡ settled_flags rest) where
    flags_here : flags ≡ map (λ p. settles p ss) (option_to_list (opening_of s)) ++ settled_flags ss
    flags_here = are ∙ ap settled_flags split

    pub flags_left : (new : List Bool) → new ≡ flags_behind (opening_of s) flags → new ≡ settled_flags ss
    flags_left new gives = gives ∙ ap (flags_behind (opening_of s)) flags_here ∙ other_flags (opening_of s) ss (settled_flags ss)

    module _ (ps qs : List Followed) (o : Option Followed) (opens : o ≡ flagged (opening_of s) flags) (next : qs ≡ map (λ p. after p s) ps ++ option_to_list o) where
      settles_it : o ≡ settling s ss
      settles_it = opens ∙ ap (flagged (opening_of s)) flags_here ∙ first_flag (opening_of s) ss (settled_flags ss)

      pub within_more : (n m bound : ℕ) → m ≡ n + (if is_some o then 1 else 0) → n + length rest ≤ bound → m + length ss ≤ bound
      within_more n m bound gives within =
          let one = one_at_most (is_some o) in
          let long : length rest ≡ suc (length ss) = ap length split in
          omega (arith, one, long)

      pub count_more : (n m all : ℕ) → m ≡ n + (if is_some o then 1 else 0) → n + settling_count rest ≡ all → m + settling_count ss ≡ all
      count_more n m all gives were =
          ap (λ m. m + settling_count ss) gives ∙ count_on s ss ps qs o settles_it next n ∙ ap (λ r. n + settling_count r) (sym split) ∙ were

      pub remaining_more : (xs ys all : List StepAt) → ys ≡ xs ++ (if is_none o && list_all (λ p. stays p s) ps then s ∷ [] else []) → xs ++ remaining_from (open_among ps) rest ≡ all → ys ++ remaining_from (open_among qs) ss ≡ all
      remaining_more xs ys all gives were =
          remaining_on s ss ps qs o settles_it next xs ys gives ∙ ap (λ r. xs ++ remaining_from (open_among ps) r) (sym split) ∙ were

      pub held_more : (old new all : Option ℕ) → new ≡ option_or old (if is_held_by ps s then Some s.place else None) → option_or old (first_place (all_held_from (open_among ps) rest)) ≡ all → option_or new (first_place (all_held_from (open_among qs) ss)) ≡ all
      held_more old new all gives were =
          held_on s ss ps qs o settles_it next old new gives ∙ ap (λ r. option_or old (first_place (all_held_from (open_among ps) r))) (sym split) ∙ were
