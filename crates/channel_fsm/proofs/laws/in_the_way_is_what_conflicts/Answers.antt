use Rattle.channel_fsm.proofs.WayFacts.{none_in_way, way_conflicts}
use Rattle.channel_fsm.proofs.laws.in_the_way_is_what_conflicts.Goals as goal

pub returns : goal.returns
returns c = record { none = none_in_way; there = way_conflicts }
