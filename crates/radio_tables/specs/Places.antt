-- What a search over the places of a cell goes through. No public clause cites it. Ours, of no standard.
use Rattle.std.specs.Prelude.{ℕ, Bool, true, false, ◌&&◌, is_none, count_by}
use Rattle.timeslots.specs.declared.Rate.{Rate}
use Rattle.timeslots.specs.declared.Rate.TheVariants as rate
use Rattle.timeslots.specs.declared.Sub.{Sub}
use Rattle.timeslots.specs.declared.Sub.TheVariants.{Full, Half0, Half1}
use Rattle.channel_fsm.specs.declared.ChanId.{ChanId}
use Rattle.cell_table.specs.Site.{is_traffic}
unfoldable pub use Rattle.dense_tables.specs.Channels.{channels_of}
pub use Rattle.dense_tables.specs.Channels.{sub_at}
use Rattle.radio_tables.specs.State.{State}
use Rattle.radio_tables.specs.Choice.{in_way}

abbrev pub is_free_traffic : State → ChanId → Bool
is_free_traffic b x = is_traffic b.site x && is_none (in_way b x)

-- the part of a timeslot carries speech at this rate
abbrev pub has_rate : Rate → Sub → Bool
has_rate rate.Full Full = true
has_rate rate.Full Half0 = false
has_rate rate.Full Half1 = false
has_rate rate.Half Full = false
has_rate rate.Half Half0 = true
has_rate rate.Half Half1 = true

abbrev pub is_free_at : State → Rate → ChanId → Bool
is_free_at b r x = has_rate r x.sub && is_free_traffic b x

-- how many of them are free traffic channels
abbrev pub free_in : State → ℕ → ℕ
free_in b cell = count_by (is_free_traffic b) (channels_of cell)
