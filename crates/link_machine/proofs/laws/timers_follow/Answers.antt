use Rattle.link_machine.proofs.TimersRun.{timers_follow, no_timers_run, changes_follow}
use Rattle.link_machine.proofs.laws.timers_follow.Goals as goal

pub returns : goal.returns
returns c = record { follow = timers_follow; begin = no_timers_run; changes = changes_follow }
