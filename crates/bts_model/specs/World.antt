-- What a simulated world is: TRX, what is known of their channels, and what stations keep back. Ours, of no standard.
use Rattle.std.specs.Prelude.{Bool, true, false, nat_lt, ◌&&◌, ◌||◌, List, [], Option, Some, None, unwrap_or, refl}
use Rattle.std.specs.List.{list_any}
use Rattle.std.specs.Coded.{Coded, code_by, coded×, coded_list}
use Rattle.std.specs.FinMap as map
use Rattle.cell_table.specs.Views.{SiteView}
use Rattle.timeslots.specs.declared.Sub.{Sub}
use Rattle.timeslots.specs.declared.Sub.TheVariants.{Full, Half0, Half1}
use Rattle.channel_fsm.specs.Slots.{conflict}
use Rattle.bts_model.specs.declared.place.Place.{Place}
use Rattle.bts_model.specs.declared.trx.Trx.{Trx}
use Rattle.bts_model.specs.declared.slots.Slot.{Slot}
use Rattle.bts_model.specs.declared.slots.Activity.{Activity}
use Rattle.bts_model.specs.declared.slots.Activity.TheVariants.{Inactive, Active}
use Rattle.bts_model.specs.declared.setting.Habit.TheVariants.{Arrive}
use Rattle.bts_model.specs.declared.hold.Hold.{Hold}
use Rattle.bts_model.specs.contracts.trx.Trx.{the_row as trx_row}
use Rattle.bts_model.specs.contracts.slots.Slot.{the_row as slot_row}
use Rattle.bts_model.specs.contracts.hold.Hold.{the_row as hold_row}
use Rattle.bts_model.specs.Keys.{key_of, key_cmp, coded_key}
use Rattle.bts_model.specs.Impairments.{unimpaired}
use Rattle.bts_model.specs.Trxs.{trxs_of, is_on}

abbrev pub slots_code : Coded (map.FinMap key_cmp Slot)
slots_code = map.code coded_key slot_row.coded

pub record WorldState : Type 0 where
  -- every TRX of the controllers, by controller, cell and TRX
  pub trxs : List Trx
  -- what is known of a channel, by its key: whether it is active, and with which reference, whether its next activation is
  -- refused, the habit of its mobile, and what befalls its next answer
  pub slots : map.FinMap key_cmp Slot
  -- the holds in the order in which they were asked for, each with what it has kept
  pub holds : List Hold

abbrev pub world_code : Coded WorldState
world_code =
    code_by (List Trx × (map.FinMap key_cmp Slot × List Hold))
    (coded× (coded_list trx_row.coded) (coded× slots_code (coded_list hold_row.coded)))
    (λ w. (w.trxs, (w.slots, w.holds))) (λ p. record { trxs = p.0; slots = p.1.0; holds = p.1.1 }) (λ _. refl)

-- the world of these sites in which nothing was said or done: no channel is active
abbrev pub fresh_world : List SiteView → WorldState
fresh_world sites = record { trxs = trxs_of sites; slots = map.empty; holds = [] }

-- a channel of which nothing was said: inactive, no refusal, a mobile that arrives, and answers that nothing befalls
abbrev pub idle : Slot
idle = record { activity = Inactive; refuses = false; habit = Arrive; impairment = unimpaired }

abbrev pub slot_in : map.FinMap key_cmp Slot → Place → Slot
slot_in slots x = unwrap_or (map.get slots (key_of x)) idle

-- the world has the channel: it is on a timeslot from 0 to 7 of one of its TRX (TS 45.002 clause 4.3.2)
abbrev pub has_channel : WorldState → Place → Bool
has_channel w x = nat_lt x.channel.tn 8 && list_any (is_on x) w.trxs

-- what is known of the channels once one of them has changed, where it does
abbrev pub changed : map.FinMap key_cmp Slot → Place → Option Slot → map.FinMap key_cmp Slot
changed slots x None = slots
changed slots x (Some slot) = map.insert slots (key_of x) slot

-- the world with this known of a channel
abbrev pub with_slot : WorldState → Place → Option Slot → WorldState
with_slot w x slot = record w { slots = changed w.slots x slot }

abbrev pub is_active : Activity → Bool
is_active Inactive = false
is_active (Active reference) = true

-- a channel of the same timeslot conflicts with this one, and is active
abbrev pub in_use_by : map.FinMap key_cmp Slot → Place → Sub → Bool
in_use_by slots x sub =
    conflict x.channel (record x.channel { sub = sub })
    && is_active (slot_in slots (record x { channel = record x.channel { sub = sub } })).activity

-- any channel that conflicts with it is active
abbrev pub is_in_use : map.FinMap key_cmp Slot → Place → Bool
is_in_use slots x = in_use_by slots x Full || (in_use_by slots x Half0 || in_use_by slots x Half1)
