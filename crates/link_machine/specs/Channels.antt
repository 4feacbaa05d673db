-- A channel besides the book: what a step of its row makes of it. Ours, of no standard; the rows are those of docs/LINKS.md.
use Rattle.std.specs.Prelude.{ℕ, Bool, true, false, List, [], ◌∷◌, Option, Some, None, is_some}
use Rattle.channel_fsm.specs.declared.ChanId.{ChanId}
use Rattle.link_tables.specs.declared.Act.{Act}
use Rattle.link_tables.specs.declared.Act.TheVariants.{Give, Pass, Count, RefuseInPlace, ReleaseInPlace, FailInPlace, KeepFailure, SendActivation, KeepActivation, SendRelease, SendChannelRelease, SendDeactivateSacch, Start, Stop, Bar, BarByHolder, OpenBar, EndBar}
use Rattle.link_tables.specs.declared.BarKind.{BarKind}
use Rattle.link_tables.specs.declared.BarKind.TheVariants.{Timed, Lasting}
use Rattle.link_tables.specs.declared.Lchan.TheVariants.{Rest}
use Rattle.link_tables.specs.declared.Step.{Step}
use Rattle.link_tables.specs.Bars.{has_clock, clock_change}
use Rattle.link_machine.specs.declared.channel.Bar.{Bar as TheBar}
use Rattle.link_machine.specs.declared.channel.Channel.{Channel}
use Rattle.link_machine.specs.declared.channel.InPlace.TheVariants as owed

-- at rest, and its station isn't there
abbrev pub fresh : ChanId → Channel
fresh x = record { chan = x; lchan = Rest; has_link = false; bar = None; bar_runs = false; is_to_be_barred = false; keeps_failure = false; owed = None }

-- a channel, where there is one
abbrev pub listed : Option ChanId → List ChanId
listed None = []
listed (Some x) = x ∷ []

-- the controller is owed something about it
abbrev pub owes : Channel → Bool
owes c = is_some c.owed

-- the bar that a call becomes
abbrev pub timed_by : Option ℕ → Option TheBar
timed_by None = None
timed_by (Some c) = Some (record { call = c; kind = Timed })

-- its bar is to end: no clock ends it any more
abbrev pub ends_bar : Channel → Option TheBar → Channel
ends_bar c None = c
ends_bar c (Some bar) = record c { bar = Some (record bar { kind = Lasting }); owed = Some (owed.EndBar bar.call) }

-- what an act makes of a channel that this call has, its state aside
unfoldable pub noting : Option ℕ → Channel → Option Act → Channel
noting who c None = c
noting who c (Some Give) = c
noting who c (Some Pass) = c
noting who c (Some Count) = c
noting who c (Some RefuseInPlace) = record c { owed = Some owed.Refusal }
noting who c (Some ReleaseInPlace) = record c { owed = Some owed.Release }
noting who c (Some FailInPlace) = record c { owed = Some owed.Failure }
noting who c (Some KeepFailure) = record c { keeps_failure = true }
noting who c (Some SendActivation) = c
noting who c (Some KeepActivation) = c
noting who c (Some SendRelease) = c
noting who c (Some SendChannelRelease) = c
noting who c (Some SendDeactivateSacch) = c
noting who c (Some (Start t)) = c
noting who c (Some (Stop t)) = c
noting who c (Some Bar) = record c { is_to_be_barred = true }
noting who c (Some BarByHolder) = record c { bar = timed_by who }
noting who c (Some (OpenBar kind)) = record c { owed = Some (owed.OpenBar kind) }
noting who c (Some EndBar) = ends_bar c c.bar

abbrev pub noting_all : Option ℕ → Channel → List (Option Act) → Channel
noting_all who c [] = c
noting_all who c (act ∷ acts) = noting_all who (noting who c act) acts

-- a channel behind a step of its row
abbrev pub after : Option ℕ → Channel → Step → Channel
after who c step = noting_all who (record c { lchan = step.next }) step.acts

-- THE CLOCK OF ITS BAR

abbrev pub kind_of : Option TheBar → Option BarKind
kind_of None = None
kind_of (Some bar) = Some bar.kind

-- it is to run
abbrev pub is_to_run : Channel → Bool
is_to_run c = has_clock c.lchan (kind_of c.bar)

-- it runs just where it is to; and what starts or stops, where it ran before or not
abbrev pub with_clock : Bool → Channel → Channel × Option Act
with_clock ran c = (record c { bar_runs = is_to_run c }, clock_change ran (is_to_run c))
