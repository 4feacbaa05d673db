-- What is heard of a mobile that came: the hold that keeps the one answer is none for the other.
use Rattle.std.proofs.Common.{◌≡◌, ℕ, Bool, true, false, not, ◌&&◌, ◌+◌, cond, List, [], ◌∷◌, length, nat_lt, slice_get, slice_set, Option, Some, None, is_some, option_map, unwrap_or, refl, ap, sym, ◌∙◌, one-add, length-set}
use Rattle.std.specs.List.{position_or_len}
use Rattle.bts_model.specs.declared.place.Place.{Place}
use Rattle.bts_model.specs.declared.answer.Answer.TheVariants.{Detection, Complete}
use Rattle.bts_model.specs.declared.hold.Hold.{Hold}
use Rattle.bts_model.specs.declared.setting.Held.{Held}
use Rattle.bts_model.specs.declared.setting.Held.TheVariants as held
use Rattle.bts_model.specs.Keys.{is_same_place}
use Rattle.bts_model.specs.World.{WorldState, slot_in, with_slot}
use Rattle.bts_model.specs.Holds.{hold_of, is_kind, awaits}
use Rattle.bts_model.specs.Departures.{silent, keeping, kept_in, kept_or_sent, followed, all_leave, slot_after, all_departed, unkept}
use Rattle.bts_model.proofs.DepartureFacts.{all_unheld}

-- a list whose element at this place was changed
abbrev at_place : {X : Type 0} → (X → X) → List X → ℕ → List X
at_place change xs n = unwrap_or (option_map (λ x. slice_set xs n (change x)) (slice_get xs n)) xs

same_length : {X : Type 0} (change : X → X) (xs : List X) (n : ℕ) → length (at_place change xs n) ≡ length xs
same_length {X = X} change xs n = by_found (slice_get xs n)
  where
    by_found : (o : Option X) → length (unwrap_or (option_map (λ x. slice_set xs n (change x)) o) xs) ≡ length xs
    by_found None = refl
    by_found (Some x) = length-set xs n (change x)

later : {X : Type 0} (change : X → X) (x : X) (xs : List X) (n : ℕ) → at_place change (x ∷ xs) (1 + n) ≡ x ∷ at_place change xs n
later {X = X} change x xs n = ap (at_place change (x ∷ xs)) (one-add n) ∙ by_found (slice_get xs n)
  where
    by_found : (o : Option X) → unwrap_or (option_map (λ y. x ∷ slice_set xs n (change y)) o) (x ∷ xs) ≡ x ∷ unwrap_or (option_map (λ y. slice_set xs n (change y)) o) xs
    by_found None = refl
    by_found (Some y) = refl

-- where none passes both tests, and none the second once it was changed, a change of the first that passes the first test
-- isn't seen by the second
unseen : {X : Type 0} (p q : X → Bool) (change : X → X) (xs : List X) → ((x : X) → p x ≡ true → q x ≡ false) → ((x : X) → q (change x) ≡ false)
    → position_or_len q (at_place change xs (position_or_len p xs)) ≡ position_or_len q xs
unseen p q change [] apart off = refl
unseen p q change (x ∷ xs) apart off = by_test (p x) refl (unseen p q change xs apart off)
  where
    by_test : (b : Bool) → p x ≡ b → position_or_len q (at_place change xs (position_or_len p xs)) ≡ position_or_len q xs
        → position_or_len q (at_place change (x ∷ xs) (position_or_len p (x ∷ xs))) ≡ position_or_len q (x ∷ xs)
    by_test true e rest = rw (e, off x, apart x e) refl
    by_test false e rest = rw (e, later change x xs (position_or_len p xs), rest) refl

is_place : (b : Bool) (m n : ℕ) → ◌≡◌ {A = Option ℕ} (cond b (Some m) None) (Some n) → m ≡ n
is_place true m n e = cc
is_place false m n e = cc

-- a hold for what the station says is none for what the mobile says
apart : (x : Place) (h : Hold) → awaits x held.Detection h ≡ true → awaits x held.Complete h ≡ false
apart x h e = by_kind (is_same_place x h.place) h.held (not (is_some h.kept)) e
  where
    by_kind : (same : Bool) (kind : Held) (free : Bool) → (same && (is_kind kind held.Detection && free)) ≡ true → (same && (is_kind kind held.Complete && free)) ≡ false
    by_kind false kind free e = refl
    by_kind true held.Acknowledgement free e = refl
    by_kind true held.Detection free e = refl
    by_kind true held.Complete free e = let no : false ≡ true = e in cc

kept_is_off : (x : Place) (h : Hold) → awaits x held.Complete (record h { kept = Some Detection }) ≡ false
kept_is_off x h = by_test (is_same_place x h.place) (is_kind h.held held.Complete)
  where
    by_test : (same kind : Bool) → (same && (kind && false)) ≡ false
    by_test false kind = refl
    by_test true false = refl
    by_test true true = refl

still : (x : Place) (holds : List Hold) (n : ℕ) → hold_of holds x Detection ≡ Some n → hold_of (keeping holds n Detection) x Complete ≡ hold_of holds x Complete
still x holds n found =
    let keeps : Hold → Hold = λ h. record h { kept = Some Detection } in
    let there = position_or_len (awaits x held.Detection) holds in
    let first : there ≡ n = is_place (nat_lt there (length holds)) there n found in
    let place : position_or_len (awaits x held.Complete) (keeping holds n Detection) ≡ position_or_len (awaits x held.Complete) holds =
    ap (λ m. position_or_len (awaits x held.Complete) (at_place keeps holds m)) (sym first)
    ∙ unseen (awaits x held.Detection) (awaits x held.Complete) keeps holds (apart x) (kept_is_off x) in
    let long = same_length keeps holds n in
    λ i. cond (nat_lt (place i) (long i)) (Some (place i)) None

-- what comes of the two answers, where these holds keep them
two : (w : WorldState) (x : Place) (d c : Option ℕ) → hold_of w.holds x Detection ≡ d → hold_of (kept_or_sent w x Detection d).world.holds x Complete ≡ c
    → all_leave w x (Detection ∷ Complete ∷ [])
    ≡ followed (kept_or_sent w x Detection d) (followed (kept_or_sent (kept_or_sent w x Detection d).world x Complete c) (silent (kept_or_sent (kept_or_sent w x Detection d).world x Complete c).world))
two w x d c hd hc =
    ap (λ o. followed (kept_or_sent w x Detection o) (all_leave (kept_or_sent w x Detection o).world x (Complete ∷ []))) hd
    ∙ ap (λ o. followed (kept_or_sent w x Detection d) (followed (kept_or_sent (kept_or_sent w x Detection d).world x Complete o) (silent (kept_or_sent (kept_or_sent w x Detection d).world x Complete o).world))) hc

-- an arrival at once: what no hold keeps leaves, and each hold has kept its own
pub arrived : (w : WorldState) (x : Place) (d c : Option ℕ) → hold_of w.holds x Detection ≡ d → hold_of w.holds x Complete ≡ c
    → all_leave w x (Detection ∷ Complete ∷ [])
    ≡ record { world = record (with_slot w x (slot_after (slot_in w.slots x) (unkept d c))) { holds = kept_in (kept_in w.holds d Detection) c Complete }; sent = all_departed (slot_in w.slots x).impairment x (unkept d c) }
arrived w x None None hd hc = all_unheld w x (Detection ∷ Complete ∷ []) (hd, (hc, tt))
arrived w x None (Some m) hd hc = two w x None (Some m) hd hc
arrived w x (Some n) None hd hc = two w x (Some n) None hd (still x w.holds n hd ∙ hc)
arrived w x (Some n) (Some m) hd hc = two w x (Some n) (Some m) hd (still x w.holds n hd ∙ hc)
