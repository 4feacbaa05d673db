-- What becomes of a world whose station restarts. Its channels are gone, and with them what was asked about them. Its controller
-- hears that each active one failed (TS 48.058 clause 4.10).
use Rattle.std.specs.Prelude.{◌≡◌, ℕ, Bool, true, ◌==◌, ◌&&◌, not, if◌then◌else◌, List, [], ◌∷◌, ◌++◌, filter, flat_map, Option, Some, None}
use Rattle.std.specs.List.{range_with_len}
use Rattle.std.specs.FinMap as map
use Rattle.timeslots.specs.declared.Sub.{Sub}
use Rattle.timeslots.specs.declared.Sub.TheVariants.{Full, Half0, Half1}
use Rattle.rsl_messages.specs.declared.message.ChanBits.{ChanBits}
use Rattle.rsl_messages.specs.declared.message.Rsl.TheVariants.{ConnectionFailureIndication}
use Rattle.rsl_messages.specs.Texts.{canonical_text}
use Rattle.rsl_messages.specs.Values.{equipment_failure}
use Rattle.bts_model.specs.declared.place.Place.{Place}
use Rattle.bts_model.specs.declared.trx.Trx.{Trx}
use Rattle.bts_model.specs.declared.slots.Slot.{Slot}
use Rattle.bts_model.specs.declared.hold.Hold.{Hold}
use Rattle.bts_model.specs.declared.restart.Restart.{Restart}
use Rattle.bts_model.specs.Keys.{key_cmp}
use Rattle.bts_model.specs.Names.{bits_of}
use Rattle.bts_model.specs.World.{WorldState, slot_in, is_active}
use Rattle.bts_model.specs.Departures.{Outcome}

abbrev pub is_meant : Option ℕ → ℕ → Bool
is_meant None trx = true
is_meant (Some one) trx = one == trx

-- a TRX of a cell of a controller is one of those that restart
abbrev pub restarts : Restart → ℕ → ℕ → ℕ → Bool
restarts r k cell trx = (r.controller == k) && ((r.cell == cell) && is_meant r.trx trx)

-- nothing is known of the channels of these any more, so none is active
abbrev pub forgotten : Restart → map.FinMap key_cmp Slot → map.FinMap key_cmp Slot
forgotten r slots = map.retain_keys slots (λ x. not (restarts r x.controller x.cell x.trx))

-- nothing is kept back about them, nor will be
abbrev pub unheld : Restart → List Hold → List Hold
unheld r holds = filter (λ h. not (restarts r h.place.controller h.place.channel.cell h.place.channel.trx)) holds

-- CONNECTION FAILURE INDICATION with cause 'equipment failure' (clauses 8.4.4 and 9.3.26)
abbrev pub failure_octets : ChanBits → List ℕ
failure_octets channel = canonical_text {A = Unit} (ConnectionFailureIndication channel equipment_failure)

-- it comes of a channel that was active
abbrev pub failure : map.FinMap key_cmp Slot → Place → List (Place × List ℕ)
failure slots x = if is_active (slot_in slots x).activity then (x, failure_octets (bits_of x.channel)) ∷ [] else []

-- a channel of a TRX
abbrev pub part_of : Trx → ℕ → Sub → Place
part_of t tn sub = record { controller = t.controller; channel = record { cell = t.cell; trx = t.trx; tn = tn; sub = sub } }

-- of a timeslot: of the whole, and of its halves
abbrev pub failures_on : map.FinMap key_cmp Slot → Trx → ℕ → List (Place × List ℕ)
failures_on slots t tn = failure slots (part_of t tn Full) ++ (failure slots (part_of t tn Half0) ++ failure slots (part_of t tn Half1))

-- of a TRX, timeslot by timeslot (TS 45.002 clause 4.3.2)
abbrev pub failures_of : map.FinMap key_cmp Slot → Trx → List (Place × List ℕ)
failures_of slots t = flat_map (failures_on slots t) (range_with_len 0 8)

abbrev pub failures_if : map.FinMap key_cmp Slot → Restart → Trx → List (Place × List ℕ)
failures_if slots r t = if restarts r t.controller t.cell t.trx then failures_of slots t else []

-- of those that restart, TRX by TRX
abbrev pub failures : List Trx → map.FinMap key_cmp Slot → Restart → List (Place × List ℕ)
failures trxs slots r = flat_map (failures_if slots r) trxs

-- what comes of a restart
abbrev pub restarted : WorldState → Restart → Outcome
restarted w r = record { world = record w { slots = forgotten r w.slots; holds = unheld r w.holds }; sent = failures w.trxs w.slots r }

-- a channel of a TRX is active
abbrev pub HasActive : map.FinMap key_cmp Slot → Trx → Type 0
HasActive slots t = (tn : ℕ) × (sub : Sub) × (is_active (slot_in slots (part_of t tn sub)).activity ≡ true)

-- a channel is active of one that restarts
abbrev pub HasActiveThat : map.FinMap key_cmp Slot → Restart → Type 0
HasActiveThat slots r = (t : Trx) × (restarts r t.controller t.cell t.trx ≡ true) × HasActive slots t
