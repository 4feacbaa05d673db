-- How a channel is barred, and the clock of its bar. Ours, of no standard (osmo-bsc: BORKEN). The numbers are those of
-- docs/LINKS.md.
use Rattle.std.specs.Prelude.{Bool, true, false, Option, Some, None, if◌then◌else◌}
use Rattle.channel_fsm.specs.declared.ChanState.{ChanState}
use Rattle.channel_fsm.specs.declared.ChanState.TheVariants as book
use Rattle.link_tables.specs.declared.BarKind.{BarKind}
use Rattle.link_tables.specs.declared.BarKind.TheVariants.{Timed, Lasting}
use Rattle.link_tables.specs.declared.Lchan.{Lchan}
use Rattle.link_tables.specs.declared.Lchan.TheVariants.{Rest}
use Rattle.link_tables.specs.declared.Timer.TheVariants as timer
use Rattle.link_tables.specs.declared.Act.{Act}
use Rattle.link_tables.specs.declared.Act.TheVariants as act
use Rattle.link_tables.specs.declared.Step.{Step}
use Rattle.link_tables.specs.Acts.{Acts, nothing, one, same_lchan}

-- B1: a free channel is barred by a call of its own; one that is held for a call from the air, by that call
abbrev pub bar_acts : ChanState → Bool → Acts
bar_acts book.Free is_from_air = one (act.OpenBar Timed)
bar_acts (book.Held c) is_from_air = if is_from_air then one act.BarByHolder else nothing
bar_acts (book.Pending c) is_from_air = nothing
bar_acts (book.On c) is_from_air = nothing
bar_acts book.Off is_from_air = nothing

abbrev pub bar_step : Lchan → ChanState → Bool → Step
bar_step lchan book is_from_air = record { acts = bar_acts book is_from_air; next = lchan }

-- a clock ends it
abbrev pub is_timed : Option BarKind → Bool
is_timed None = false
is_timed (Some Timed) = true
is_timed (Some Lasting) = false

-- B5: the clock of a bar runs just where its channel is at rest, and a clock ends it
abbrev pub has_clock : Lchan → Option BarKind → Bool
has_clock lchan bar = if same_lchan lchan Rest then is_timed bar else false

-- it starts and stops, so that it runs where it is to
abbrev pub clock_change : Bool → Bool → Option Act
clock_change false false = None
clock_change false true = Some (act.Start timer.Bar)
clock_change true false = Some (act.Stop timer.Bar)
clock_change true true = None
