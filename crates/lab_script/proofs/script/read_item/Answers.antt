use Rattle.std.proofs.Common.{refl}
use Rattle.lab_script.proofs.ScriptLemmas.{some_item}
use Rattle.lab_script.proofs.script.read_item.Goals as goal

pub returns-in_err-given-clause-memory : goal.returns-in_err-given-clause-memory
returns-in_err-given-clause-memory g c = λ _. some_item g.row.A.Denot c.args.line.now (c.in_err-given.ensures.memory refl)
