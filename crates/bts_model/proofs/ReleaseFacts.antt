-- What is acknowledged where memory is refused at a release.
use Rattle.std.proofs.Common.{◌≡◌, ◌⊎◌, inl, inr, IsSome, None, true, false, refl, ap, subst, ◌∙◌, unwrap_or}
use Rattle.std.specs.FinMap as map
use Rattle.bts_model.specs.declared.answer.Answer.TheVariants.{ReleaseAck}
use Rattle.bts_model.specs.declared.place.Place.{Place}
use Rattle.bts_model.specs.declared.slots.Activity.{Activity}
use Rattle.bts_model.specs.declared.slots.Activity.TheVariants.{Inactive, Active}
use Rattle.bts_model.specs.declared.slots.Slot.{Slot}
use Rattle.bts_model.specs.declared.station.Reaction.{Reaction}
use Rattle.bts_model.specs.Keys.{key_of, key_cmp}
use Rattle.bts_model.specs.World.{WorldState, idle, slot_in}
use Rattle.bts_model.specs.Holds.{hold_of}
use Rattle.bts_model.specs.Stations.{release, at_release}

acknowledged : (activity : Activity) (slot : Slot) → (release activity slot).answer ≡ ReleaseAck
acknowledged Inactive slot = refl
acknowledged (Active own) slot = refl

-- a channel of which nothing was known doesn't change
pub unknown_stays : (slots : map.FinMap key_cmp Slot) (x : Place) → map.get slots (key_of x) ≡ None → (at_release (slot_in slots x)).slot ≡ None
unknown_stays slots x absent = ap (λ o. (at_release (unwrap_or o idle)).slot) absent

pub at_hold : (w : WorldState) (x : Place) (r : Reaction) → r ≡ at_release (slot_in w.slots x) → (hold_of w.holds x r.answer ≡ None) ⊎ (IsSome r.slot × (map.get w.slots (key_of x) ≡ None)) → hold_of w.holds x ReleaseAck ≡ None
at_hold w x r is (inl none) = subst (λ a. hold_of w.holds x a ≡ None) (ap (λ q. q.answer) is ∙ acknowledged (slot_in w.slots x).activity (slot_in w.slots x)) none
at_hold w x r is (inr new) = let some : false ≡ true = subst IsSome (ap (λ q. q.slot) is ∙ unknown_stays w.slots x new.1) new.0 in cc
