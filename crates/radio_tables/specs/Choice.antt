-- Which channels of a cell can be chosen: those that are free (TS 48.058 clause 4), and how many. Free is a channel where neither
-- it nor one that conflicts with it is in use: a timeslot is used as a whole, or its halves are (TS 45.002 clause 6.4.1).
use Rattle.std.specs.Prelude.{◌≡◌, ◌↔◌, ℕ, true, Option, None}
use Rattle.std.specs.FinSet.{FinSet, contains, len}
use Rattle.timeslots.specs.declared.Rate.{Rate}
use Rattle.channel_fsm.specs.declared.ChanId.{ChanId}
use Rattle.channel_fsm.specs.Slots.{first_in_way}
use Rattle.timeslots.specs.Parts.{rate_of}
use Rattle.cell_table.specs.Site.{is_traffic}
use Rattle.radio_tables.specs.Keys.{chan_cmp}
use Rattle.radio_tables.specs.State.{State, state_of}

-- the first channel in the way of one: that one, or what conflicts with it
abbrev pub in_way : State → ChanId → Option ChanId
in_way b x = first_in_way (state_of b) x

-- what can be chosen in a cell: a free channel which the site names for traffic there
pub record IsFreeIn (b : State) (cell : ℕ) (x : ChanId) : Type 0 where
  pub in_cell : x.cell ≡ cell
  pub is_traffic : is_traffic b.site x ≡ true
  pub is_free : in_way b x ≡ None

-- a free channel of a cell at a rate (TS 45.002 clause 3.2)
pub record IsFreeAt (b : State) (cell : ℕ) (asked : Rate) (x : ChanId) : Type 0 where
  pub free : IsFreeIn b cell x
  pub rate : rate_of x.sub ≡ asked

abbrev pub NoneFree : State → ℕ → Type 0
NoneFree b cell = (x : ChanId) → IsFreeIn b cell x → ⊥

abbrev pub NoneFreeAt : State → ℕ → Rate → Type 0
NoneFreeAt b cell rate = (x : ChanId) → IsFreeAt b cell rate x → ⊥

-- how many can be chosen in a cell: as many as the set of those has
pub record IsFreeCount (b : State) (cell n : ℕ) : Type 0 where
  pub free : FinSet chan_cmp
  pub members : (x : ChanId) → (contains free x ≡ true) ↔ IsFreeIn b cell x
  pub size : n ≡ len free
