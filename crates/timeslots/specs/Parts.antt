-- The traffic channels that a timeslot is divided into: it is one full-rate traffic channel, or two half-rate ones, its subchannels
-- 0 and 1 (TS 45.002 clause 6.4.1, combinations i and ii).
--
--     +-------------------+
--     |       Full        |
--     +---------+---------+
--     |  Half0  |  Half1  |
--     +---------+---------+
use Rattle.std.specs.Prelude.{◌==◌, ◌||◌, ℕ, Bool, true, false}
use Rattle.timeslots.specs.declared.Rate.{Rate}
use Rattle.timeslots.specs.declared.Rate.TheVariants as rate
use Rattle.timeslots.specs.declared.Sub.{Sub}
use Rattle.timeslots.specs.declared.Sub.TheVariants.{Full, Half0, Half1}

-- the parts of a timeslot in their order
abbrev pub sub_number : Sub → ℕ
sub_number Full = 0
sub_number Half0 = 1
sub_number Half1 = 2

-- the rate of a channel that has this part of a timeslot (TS 45.002 clause 3.2)
abbrev pub rate_of : Sub → Rate
rate_of Full = rate.Full
rate_of Half0 = rate.Half
rate_of Half1 = rate.Half

-- by the picture, different parts of a timeslot that have something of it in common
abbrev pub overlap : Sub → Sub → Bool
overlap Full Full = false
overlap Full Half0 = true
overlap Full Half1 = true
overlap Half0 Full = true
overlap Half0 Half0 = false
overlap Half0 Half1 = false
overlap Half1 Full = true
overlap Half1 Half0 = false
overlap Half1 Half1 = false

-- who uses the first part of a timeslot needs the second: it is that part, or they have something in common
abbrev pub needs : Sub → Sub → Bool
needs s t = (sub_number s == sub_number t) || overlap s t
