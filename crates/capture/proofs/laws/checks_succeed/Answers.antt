use Rattle.capture.proofs.Checks.{checks}
use Rattle.capture.proofs.laws.checks_succeed.Goals as goal

pub returns : goal.returns
returns c = record { succeed = checks }
