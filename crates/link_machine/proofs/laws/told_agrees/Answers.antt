use Rattle.link_machine.proofs.Agreeing.{told_agrees, linked_agrees}
use Rattle.link_machine.proofs.laws.told_agrees.Goals as goal

pub returns : goal.returns
returns c = record { told = told_agrees; linked = linked_agrees }
