-- What a script asks of a channel, and what comes of it. Ours, of no standard.
use Rattle.std.specs.Prelude.{ℕ, ◌≡◌, ◌≢◌, true, if◌then◌else◌, [], ◌∷◌, ◌++◌, Some, None}
use Rattle.std.specs.FinMap as map
use Rattle.channel_fsm.specs.declared.ChanId.{ChanId}
use Rattle.bts_model.specs.declared.place.Place.{Place}
use Rattle.bts_model.specs.declared.setting.Act.{Act}
use Rattle.bts_model.specs.declared.setting.Act.TheVariants.{Refuse, Hold, Release, Mobile, Double, Cut}
use Rattle.bts_model.specs.declared.setting.Setting.{Setting}
use Rattle.bts_model.specs.declared.slots.Slot.{Slot}
use Rattle.bts_model.specs.Keys.{key_of}
use Rattle.bts_model.specs.World.{WorldState, slot_in, has_channel, with_slot}
use Rattle.bts_model.specs.Holds.{kept_of, others}
use Rattle.bts_model.specs.Departures.{Outcome, silent, all_leave}

-- the channel that a setting names
abbrev pub place_of : Setting → Place
place_of setting = record { controller = setting.controller; channel = record { cell = setting.cell; trx = setting.trx; tn = setting.tn; sub = setting.sub } }

-- what is asked of a channel of a controller
abbrev pub setting_of : ℕ → ChanId → Act → Setting
setting_of k x act = record { controller = k; cell = x.cell; trx = x.trx; tn = x.tn; sub = x.sub; act = act }

-- a channel whose next answer comes twice, or is cut
abbrev pub doubled : Slot → Slot
doubled slot = record slot { impairment = record slot.impairment { doubles = true } }

abbrev pub cut : Slot → ℕ → Slot
cut slot n = record slot { impairment = record slot.impairment { cut = Some n } }

-- what comes of an act at a channel that the world has
abbrev pub acted : WorldState → Place → Act → Outcome
acted w x Refuse = silent (with_slot w x (Some (record (slot_in w.slots x) { refuses = true })))
acted w x (Hold held) = silent (record w { holds = w.holds ++ record { place = x; held = held; kept = None } ∷ [] })
acted w x Release = all_leave (record w { holds = others x w.holds }) x (kept_of x w.holds)
acted w x (Mobile habit) = silent (with_slot w x (Some (record (slot_in w.slots x) { habit = habit })))
acted w x Double = silent (with_slot w x (Some (doubled (slot_in w.slots x))))
acted w x (Cut n) = silent (with_slot w x (Some (cut (slot_in w.slots x) n)))

-- what comes of a setting
abbrev pub set : WorldState → Setting → Outcome
set w setting = if has_channel w (place_of setting) then acted w (place_of setting) setting.act else silent w

-- An act may need memory: for what is known of a channel of which nothing was, for a hold, for what is sent.
abbrev pub ActNeedsMemory : WorldState → Place → Act → Type 0
ActNeedsMemory w x Refuse = map.get w.slots (key_of x) ≡ None
ActNeedsMemory w x (Hold held) = Unit {0}
ActNeedsMemory w x Release = kept_of x w.holds ≢ []
ActNeedsMemory w x (Mobile habit) = map.get w.slots (key_of x) ≡ None
ActNeedsMemory w x Double = map.get w.slots (key_of x) ≡ None
ActNeedsMemory w x (Cut n) = map.get w.slots (key_of x) ≡ None

abbrev pub SetNeedsMemory : WorldState → Setting → Type 0
SetNeedsMemory w setting = (has_channel w (place_of setting) ≡ true) × ActNeedsMemory w (place_of setting) setting.act
