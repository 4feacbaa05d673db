-- What leaves a channel whose answers no hold keeps.
use Rattle.std.proofs.Common.{◌≡◌, ℕ, Bool, true, false, ◌||◌, if◌then◌else◌, List, [], ◌∷◌, Option, Some, None, is_some, refl, ap, ◌∙◌}
use Rattle.std.specs.FinMap as map
use Rattle.bts_model.specs.declared.place.Place.{Place}
use Rattle.bts_model.specs.declared.answer.Answer.{Answer}
use Rattle.bts_model.specs.declared.hold.Hold.{Hold}
use Rattle.bts_model.specs.declared.slots.Impairment.{Impairment}
use Rattle.bts_model.specs.declared.slots.Slot.{Slot}
use Rattle.bts_model.specs.Keys.{key_cmp}
use Rattle.bts_model.specs.Impairments.{unimpaired, is_impaired}
use Rattle.bts_model.specs.World.{WorldState, slot_in, changed, with_slot}
use Rattle.bts_model.specs.Holds.{hold_of}
use Rattle.bts_model.specs.Departures.{Outcome, used_up, kept_or_sent, leaves, followed, all_leave, all_departed, slot_after, all_sent}
use Rattle.bts_model.proofs.SlotFacts.{slot_put}

plain_parts : (cut : Option ℕ) (doubles : Bool) → (is_some cut || doubles) ≡ false → ◌≡◌ {A = Impairment} (record { cut = cut; doubles = doubles }) unimpaired
plain_parts None false e = refl
plain_parts None true e = let no : true ≡ false = e in cc
plain_parts (Some n) doubles e = let no : true ≡ false = e in cc

plain : (i : Impairment) → is_impaired i ≡ false → i ≡ unimpaired
plain i e = plain_parts i.cut i.doubles e

-- once an answer has left, nothing befalls the next
cleared : (slots : map.FinMap key_cmp Slot) (x : Place) → (slot_in (changed slots x (used_up (slot_in slots x))) x).impairment ≡ unimpaired
cleared slots x = by_test (is_impaired (slot_in slots x).impairment) refl
  where
    by_test : (b : Bool) → is_impaired (slot_in slots x).impairment ≡ b
        → (slot_in (changed slots x (if b then Some (record (slot_in slots x) { impairment = unimpaired }) else None)) x).impairment ≡ unimpaired
    by_test true e = ap (λ s. s.impairment) (slot_put slots x (record (slot_in slots x) { impairment = unimpaired }))
    by_test false e = plain (slot_in slots x).impairment e

-- and a channel that nothing befalls doesn't change
unused : (slot : Slot) → slot.impairment ≡ unimpaired → used_up slot ≡ None
unused slot e = ap (λ i. if is_impaired i then Some (record slot { impairment = unimpaired }) else None) e

unused_after : (slot : Slot) (answers : List Answer) → slot.impairment ≡ unimpaired → slot_after slot answers ≡ None
unused_after slot [] e = refl
unused_after slot (answer ∷ answers) e = unused slot e

-- no hold keeps any of these answers
abbrev pub Unheld : List Hold → Place → List Answer → Type 0
Unheld holds x [] = Unit {0}
Unheld holds x (answer ∷ answers) = (hold_of holds x answer ≡ None) × Unheld holds x answers

-- once one has left
rest_sent : (w : WorldState) (x : Place) (answers : List Answer) → (slot_in w.slots x).impairment ≡ unimpaired
    → ◌≡◌ {A = Outcome} (all_sent w x answers) (record { world = w; sent = all_departed unimpaired x answers })
rest_sent w x answers e =
    let same = unused_after (slot_in w.slots x) answers e in
    λ i. record { world = with_slot w x (same i); sent = all_departed (e i) x answers }

-- they leave one after the other, and something befalls the first alone
pub all_unheld : (w : WorldState) (x : Place) (answers : List Answer) → Unheld w.holds x answers → all_leave w x answers ≡ all_sent w x answers
all_unheld w x [] h = refl
all_unheld w x (answer ∷ answers) h =
    let first : Outcome = kept_or_sent w x answer None in
    let sent : leaves w x answer ≡ first = ap (kept_or_sent w x answer) h.0 in
    ap (λ o. followed o (all_leave o.world x answers)) sent
    ∙ ap (followed first) (all_unheld first.world x answers h.1 ∙ rest_sent first.world x answers (cleared w.slots x))
