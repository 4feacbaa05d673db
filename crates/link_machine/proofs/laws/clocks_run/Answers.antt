use Rattle.link_machine.proofs.Agreeing.{told_clocks, linked_clocks, settled_clocks}
use Rattle.link_machine.proofs.laws.clocks_run.Goals as goal

pub returns : goal.returns
returns c = record { told = told_clocks; linked = linked_clocks; settled = settled_clocks }
