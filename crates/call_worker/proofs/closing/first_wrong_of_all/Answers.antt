use Rattle.call_worker.proofs.Closings.{found_behind}
use Rattle.receipt_check.proofs.Gathered.{wrong_before}
use Rattle.call_worker.proofs.closing.first_wrong_of_all.Goals as goal

pub returns-in-Some : goal.returns-in-Some
returns-in-Some g c = wrong_before _ _ _ _ c.in-Some.ensures

pub returns : goal.returns
returns g c = found_behind _ _ _ c.first_wrong_of.result c.in_default.ensures c.first_wrong_of.ensures
