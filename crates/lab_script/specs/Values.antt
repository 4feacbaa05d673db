-- What the words of a line say, slot by slot.
use Rattle.std.specs.Prelude.{ℕ, if◌then◌else◌, List, [], ◌∷◌, Option, Some, None, option_map, option_and_then}
use Rattle.timeslots.specs.declared.Sub.{Sub}
use Rattle.channel_fsm.specs.declared.ChanId.{ChanId}
use Rattle.lab_script.specs.declared.forms.Slot.{Slot}
use Rattle.lab_script.specs.declared.forms.Slot.TheVariants as slot
use Rattle.lab_script.specs.declared.values.Values.{Values}
use Rattle.lab_script.specs.Words.{number_below, timeslot_of, timer_of, rate_of, habit_of, count_of, whom_of, held_of, answer_of, first_word, behind_word}
use Rattle.lab_script.specs.Forms.{takes_rest}

-- what no words say
abbrev pub none : Values
none = record { call = None; cell = None; trx = None; timeslot = None; timer = None; rate = None; habit = None; count = None; whom = None; held = None; answer = None }

-- what a word says in its slot, where it fits there; what takes the rest of a line is kept beside
abbrev pub put : Slot → List ℕ → Values → Option Values
put slot.Call word v = option_map (λ call. record v { call = Some call }) (number_below 65536 word)
put slot.Cell word v = option_map (λ cell. record v { cell = Some cell }) (number_below 256 word)
put slot.Trx word v = option_map (λ trx. record v { trx = Some trx }) (number_below 256 word)
put slot.Timeslot word v = option_map (λ slot. record v { timeslot = Some slot }) (timeslot_of word)
put slot.OnAbis word v = Some v
put slot.OnA word v = Some v
put slot.Timer word v = option_map (λ timer. record v { timer = Some timer }) (timer_of word)
put slot.Rate word v = option_map (λ rate. record v { rate = Some rate }) (rate_of word)
put slot.Habit word v = option_map (λ habit. record v { habit = Some habit }) (habit_of word)
put slot.Count word v = option_map (λ count. record v { count = Some count }) (count_of word)
put slot.Whom word v = option_map (λ whom. record v { whom = Some whom }) (whom_of word)
put slot.Held word v = option_map (λ held. record v { held = Some held }) (held_of word)
put slot.Answer word v = option_map (λ answer. record v { answer = Some answer }) (answer_of word)
put slot.Fields word v = Some v

-- what is said by what is left of a line, by its slots, place by place, and what the last took with the rest of the line; nothing where a
-- word doesn't fit, is missing, or stands behind the last
unfoldable pub filled : List Slot → Option (List ℕ) → Values → List ℕ → Option (Values × List ℕ)
filled [] None v kept = Some (v, kept)
filled [] (Some text) v kept = None
filled (slot ∷ slots) None v kept = None
filled (slot ∷ slots) (Some text) v kept =
    if takes_rest slot then filled slots None v text
    else option_and_then (λ next. filled slots (behind_word text) next kept) (put slot (first_word text) v)

abbrev pub values_of : List Slot → Option (List ℕ) → Option (Values × List ℕ)
values_of slots rest = filled slots rest none []

abbrev pub channel_at : Option ℕ → Option ℕ → Option (ℕ × Sub) → Option ChanId
channel_at (Some cell) (Some trx) (Some slot) = Some (record { cell = cell; trx = trx; tn = slot.0; sub = slot.1 })
channel_at cell trx slot = None

-- the channel that a cell, a TRX and a timeslot name
abbrev pub channel_in : Values → Option ChanId
channel_in v = channel_at v.cell v.trx v.timeslot
