-- How channels share a timeslot of a TRX: it is one full-rate traffic channel, or two half-rate ones, its subchannels 0 and 1
-- (TS 45.002 clause 6.4.1, combinations i and ii).
--
--     +-------------------+
--     |       Full        |
--     +---------+---------+
--     |  Half0  |  Half1  |
--     +---------+---------+
use Rattle.std.specs.Prelude.{◌≡◌, ◌≢◌, ◌==◌, ◌&&◌, ◌⊎◌, ◌↔◌, Bool, true, false, List, [], ◌∷◌, map, find, Option, Some, None}
use Rattle.timeslots.specs.declared.Sub.TheVariants.{Full, Half0, Half1}
use Rattle.channel_fsm.specs.declared.ChanId.{ChanId}
use Rattle.channel_fsm.specs.declared.ChanState.{ChanState}
use Rattle.channel_fsm.specs.declared.ChanState.TheVariants.{Free, Held, Pending, On, Off}
use Rattle.timeslots.specs.Parts.{overlap, needs}

-- two channels can't be used at once: they are different ones of one timeslot, and one of them is the whole timeslot
pub record Conflicts (a b : ChanId) : Type 0 where
  pub cell : a.cell ≡ b.cell
  pub trx : a.trx ≡ b.trx
  pub timeslot : a.tn ≡ b.tn
  pub differ : a ≢ b
  pub whole : (a.sub ≡ Full) ⊎ (b.sub ≡ Full)

-- the same as a test
abbrev pub conflict : ChanId → ChanId → Bool
conflict a b = (a.cell == b.cell) && ((a.trx == b.trx) && ((a.tn == b.tn) && overlap a.sub b.sub))

-- IN THE WAY

-- the channels of a timeslot: the whole of it, then its lower and its upper half
abbrev pub timeslot_of : ChanId → List ChanId
timeslot_of x = map (λ s. record x { sub = s }) (Full ∷ Half0 ∷ Half1 ∷ [])

abbrev pub is_used : ChanState → Bool
is_used Free = false
is_used (Held c) = true
is_used (Pending c) = true
is_used (On c) = true
is_used Off = true

-- The first channel in the way of one: of those of its timeslot that are in use, the first that is the channel or conflicts
-- with it. Where there is none, the channel can be taken.
abbrev pub first_in_way : (ChanId → ChanState) → ChanId → Option ChanId
first_in_way states x = find (λ y. needs x.sub y.sub && is_used (states y)) (timeslot_of x)

-- Nothing is in the way of a channel exactly where neither it nor one that conflicts with it is in use.
abbrev pub NoneInWay : Type 0
NoneInWay = (states : ChanId → ChanState) (x : ChanId) → (first_in_way states x ≡ None) ↔ ((y : ChanId) → (y ≡ x) ⊎ Conflicts y x → states y ≡ Free)

-- What is in the way of a channel is that one, or conflicts with it, and is in use.
abbrev pub InWayConflicts : Type 0
InWayConflicts = (states : ChanId → ChanState) (x y : ChanId) → first_in_way states x ≡ Some y → ((y ≡ x) ⊎ Conflicts y x) × (states y ≢ Free)
