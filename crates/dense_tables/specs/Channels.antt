-- The states of a site's channels (TS 48.058 clause 4), and what the places of their tables say.
use Rattle.std.specs.Prelude.{◌≡◌, ◌==◌, ◌<◌, ◌≤◌, ◌+◌, ◌*◌, ◌/◌, ◌%◌, ◌&&◌, ◌⊎◌, ℕ, Bool, true, not, nat_lt, if◌then◌else◌, List, length, flat_map, count_by, Option, Some, None, is_some, is_none, option_and_then, slice_index_or, refl}
use Rattle.std.specs.List.{range_with_len}
use Rattle.std.specs.Coded.{Coded, code_by, coded×}
use Rattle.std.specs.FinMap as map
use Rattle.timeslots.specs.declared.Rate.{Rate}
use Rattle.timeslots.specs.declared.Sub.{Sub}
use Rattle.timeslots.specs.declared.Sub.TheVariants.{Full, Half0, Half1}
use Rattle.channel_fsm.specs.declared.ChanId.{ChanId}
use Rattle.channel_fsm.specs.declared.ChanState.{ChanState}
use Rattle.channel_fsm.specs.declared.ChanState.TheVariants.{Free, Held, Pending, On, Off}
use Rattle.channel_fsm.specs.contracts.ChanState.{the_row as state_row}
use Rattle.timeslots.specs.Parts.{sub_number, rate_of}
use Rattle.channel_fsm.specs.Slots.{first_in_way}
use Rattle.channel_fsm.specs.Masks.{has}
use Rattle.cell_table.specs.Limits.{most_cells, most_trx, timeslots_of_trx}
use Rattle.cell_table.specs.Site.{SiteView, site_code, IsSite, IsWithinLimits, TrafficLiesWithin, is_traffic, trx_channels, channels, index_of}
use Rattle.dense_tables.specs.Keys.{chan_cmp, coded_chan}
use Rattle.dense_tables.specs.Maps.{put, listed}

-- a site, and the states of its channels; a free one has no entry
pub record Channels : Type 0 where
  pub site : SiteView
  pub states : map.FinMap chan_cmp ChanState

abbrev pub channels_code : Coded Channels
channels_code =
    code_by (SiteView × map.FinMap chan_cmp ChanState) (coded× site_code (map.code coded_chan state_row.coded))
    (λ c. (c.site, c.states)) (λ p. record { site = p.0; states = p.1 }) (λ _. refl)

abbrev pub all_free : SiteView → Channels
all_free site = record { site = site; states = map.empty }

-- the channel has this state from now on, or is in use no more
abbrev pub with_state : Channels → ChanId → Option ChanState → Channels
with_state c x s = record c { states = put c.states x s }

-- a channel without an entry has the state of a free one
abbrev pub or_free : Option ChanState → ChanState
or_free None = Free
or_free (Some s) = s

abbrev pub state_of : Channels → ChanId → ChanState
state_of c x = or_free (map.get c.states x)

-- what can be chosen in a cell: a channel which the site names for traffic there, and in whose way nothing is
pub record IsFreeIn (c : Channels) (cell : ℕ) (x : ChanId) : Type 0 where
  pub in_cell : x.cell ≡ cell
  pub traffic : is_traffic c.site x ≡ true
  pub is_free : first_in_way (state_of c) x ≡ None

-- a free channel of a cell at a rate (TS 45.002 clause 3.2)
pub record IsFreeAt (c : Channels) (cell : ℕ) (asked : Rate) (x : ChanId) : Type 0 where
  pub free : IsFreeIn c cell x
  pub rate : rate_of x.sub ≡ asked

abbrev pub NoneFreeAt : Channels → ℕ → Rate → Type 0
NoneFreeAt c cell rate = (x : ChanId) → IsFreeAt c cell rate x → ⊥

-- of two channels of a cell, the first stands no later by TRX, then timeslot, then its half
abbrev pub number_in : ChanId → ℕ
number_in x = x.tn * 3 + sub_number x.sub

abbrev pub IsNoLater : ChanId → ChanId → Type 0
IsNoLater x y = (x.trx < y.trx) ⊎ ((x.trx ≡ y.trx) × (number_in x ≤ number_in y))

abbrev pub is_free_traffic : Channels → ChanId → Bool
is_free_traffic c x = is_traffic c.site x && is_none (first_in_way (state_of c) x)

-- every channel that a cell can have, by TRX, timeslot and part of it
unfoldable pub channels_of : ℕ → List ChanId
channels_of cell = flat_map (trx_channels cell) (range_with_len 0 most_trx)

-- how many channels can be chosen in a cell
abbrev pub free_in : Channels → ℕ → ℕ
free_in c cell = count_by (is_free_traffic c) (channels_of cell)

-- the state, where it isn't that of a free channel
abbrev pub busy : ChanState → Option ChanState
busy Free = None
busy (Held c) = Some (Held c)
busy (Pending c) = Some (Pending c)
busy (On c) = Some (On c)
busy Off = Some Off

-- the state of a channel, in a list by the site's places
abbrev pub state_at : SiteView → List ChanState → ChanId → Option ChanState
state_at site states x = option_and_then (λ place. busy (slice_index_or states place Free)) (index_of site x)

abbrev pub states_of : SiteView → List ChanState → map.FinMap chan_cmp ChanState
states_of site states = listed chan_cmp (channels site) (state_at site states)

-- the number of a channel among all that a site can have, by cell, TRX, timeslot and part of it; and the channel of a number
abbrev pub number_of : ChanId → ℕ
number_of x = ((x.cell * 4 + x.trx) * 8 + x.tn) * 3 + sub_number x.sub

abbrev pub sub_at : ℕ → Sub
sub_at n = if n == 0 then Full else (if n == 1 then Half0 else Half1)

abbrev pub channel_at : ℕ → ChanId
channel_at number = record { cell = number / 96; trx = number / 24 % 4; tn = number / 3 % 8; sub = sub_at (number % 3) }

-- a site can have it
abbrev pub is_within : ChanId → Bool
is_within x = nat_lt x.cell most_cells && (nat_lt x.trx most_trx && nat_lt x.tn timeslots_of_trx)

-- what stands for a channel in a list by these numbers
abbrev pub place_at : List (Option ℕ) → ChanId → Option ℕ
place_at places x = if is_within x then slice_index_or places (number_of x) None else None

-- the places of channels are those at the site
abbrev pub ArePlaces : SiteView → List (Option ℕ) → Type 0
ArePlaces site places = (x : ChanId) → place_at places x ≡ index_of site x

-- a channel in the masks, of which each TRX that a site can have has one for each part of its timeslots
abbrev pub mask_place : ChanId → ℕ
mask_place x = (x.cell * 4 + x.trx) * 3 + sub_number x.sub

abbrev pub mask_at : List ℕ → ChanId → Bool
mask_at masks x = has (slice_index_or masks (mask_place x) 0) x.tn

abbrev pub is_free_at : SiteView → List ChanState → ChanId → Bool
is_free_at site states x = is_traffic site x && is_none (first_in_way (λ y. or_free (state_at site states y)) x)

-- a channel's state, by the places of the channels
abbrev pub state_by : List (Option ℕ) → List ChanState → ChanId → ChanState
state_by places states x = or_free (option_and_then (λ place. busy (slice_index_or states place Free)) (place_at places x))

abbrev pub is_free_by : List (Option ℕ) → List ChanState → ChanId → Bool
is_free_by places states x = is_some (place_at places x) && is_none (first_in_way (state_by places states) x)

-- nothing is in the way of a part of a timeslot, by whether the whole, the lower and the upper half are in use
abbrev pub is_part_free : Bool → Bool → Bool → Sub → Bool
is_part_free whole lower upper Full = not whole && (not lower && not upper)
is_part_free whole lower upper Half0 = not whole && not lower
is_part_free whole lower upper Half1 = not whole && not upper

-- the masks have the traffic channels that can be chosen
abbrev pub AreMasks : SiteView → List ChanState → List ℕ → Type 0
AreMasks site states masks = (x : ChanId) → IsWithinLimits x → mask_at masks x ≡ is_free_at site states x

-- a channel of a cell that the masks have
pub record IsMasked (masks : List ℕ) (cell : ℕ) (x : ChanId) : Type 0 where
  pub in_cell : x.cell ≡ cell
  pub limits : IsWithinLimits x
  pub there : mask_at masks x ≡ true

-- a masked channel of a cell at a rate
pub record IsMaskedAt (masks : List ℕ) (cell : ℕ) (asked : Rate) (x : ChanId) : Type 0 where
  pub masked : IsMasked masks cell x
  pub rate : rate_of x.sub ≡ asked

-- a masked channel of a TRX, with this part of a timeslot
pub record IsMaskedWith (masks : List ℕ) (cell of_trx : ℕ) (part : Sub) (x : ChanId) : Type 0 where
  pub masked : IsMasked masks cell x
  pub trx : x.trx ≡ of_trx
  pub sub : x.sub ≡ part

-- and none of those has a lower timeslot
pub record IsFirstWith (masks : List ℕ) (cell trx : ℕ) (sub : Sub) (x : ChanId) : Type 0 where
  pub there : IsMaskedWith masks cell trx sub x
  pub first : (y : ChanId) → IsMaskedWith masks cell trx sub y → x.tn ≤ y.tn

-- the first masked channel of a TRX at a rate: none stands before it by timeslot, then half
pub record IsFirstAt (masks : List ℕ) (cell of_trx : ℕ) (asked : Rate) (x : ChanId) : Type 0 where
  pub there : IsMaskedAt masks cell asked x
  pub trx : x.trx ≡ of_trx
  pub first : (y : ChanId) → IsMaskedAt masks cell asked y → y.trx ≡ of_trx → number_in x ≤ number_in y

-- of two channels the one with the lower timeslot; of one timeslot, the first
abbrev pub lower_of : Option ChanId → Option ChanId → Option ChanId
lower_of (Some x) (Some y) = if nat_lt y.tn x.tn then Some y else Some x
lower_of (Some x) None = Some x
lower_of None other = other

-- what holds of a table of channels: its lists have a place for each channel, places and masks are those of the site,
-- and it counts the channels in use
pub record IsTable (site : SiteView) (states : List ChanState) (places : List (Option ℕ)) (masks : List ℕ) (used : ℕ) : Type 0 where
  pub is_site : IsSite site
  pub lies : TrafficLiesWithin site
  pub states_long : length states ≡ length (channels site)
  pub places_long : length places ≡ 6144
  pub masks_long : length masks ≡ 768
  pub are_places : ArePlaces site places
  pub are_masks : AreMasks site states masks
  pub counted : used ≡ map.len (states_of site states)
