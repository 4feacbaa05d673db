-- What a station answers, and what becomes of a channel then (TS 48.058 clause 4).
use Rattle.std.specs.Prelude.{ℕ, Bool, true, false, Option, Some, None}
use Rattle.bts_model.specs.declared.answer.Answer.TheVariants.{ActivationAck, ActivationNack, ReleaseAck}
use Rattle.bts_model.specs.declared.slots.Activity.{Activity}
use Rattle.bts_model.specs.declared.slots.Activity.TheVariants.{Inactive, Active}
use Rattle.bts_model.specs.declared.slots.Slot.{Slot}
use Rattle.bts_model.specs.declared.station.Reaction.{Reaction}

-- CHANNEL ACTIVATION (clause 4.1), by whether the channel is active, whether one is that it conflicts with, and whether a
-- refusal of it was asked for: a channel that is active, or conflicts with an active one, is refused and stays as it is;
-- another is refused where that was asked for, once; else it becomes active with the reference.
abbrev pub activation : Activity → Bool → Bool → Slot → Option ℕ → Reaction
activation (Active own) in_use refuses slot reference = record { slot = None; answer = ActivationNack }
activation Inactive true refuses slot reference = record { slot = None; answer = ActivationNack }
activation Inactive false true slot reference = record { slot = Some (record slot { refuses = false }); answer = ActivationNack }
activation Inactive false false slot reference = record { slot = Some (record slot { activity = Active reference }); answer = ActivationAck }

abbrev pub at_activation : Slot → Bool → Option ℕ → Reaction
at_activation slot in_use reference = activation slot.activity in_use slot.refuses slot reference

-- RF CHANNEL RELEASE (clause 4.7): the channel is inactive then, whatever it was, and the station says so
abbrev pub release : Activity → Slot → Reaction
release (Active own) slot = record { slot = Some (record slot { activity = Inactive }); answer = ReleaseAck }
release Inactive slot = record { slot = None; answer = ReleaseAck }

abbrev pub at_release : Slot → Reaction
at_release slot = release slot.activity slot
