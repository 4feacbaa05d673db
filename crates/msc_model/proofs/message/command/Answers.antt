use Rattle.std.proofs.Common.{ap, length, arith}
use Rattle.msc_model.proofs.Written.{command_written}
use Rattle.msc_model.proofs.message.command.Goals as goal

pub returns-clause-canonical : goal.returns-clause-canonical
returns-clause-canonical g c =
    let some = c.requires.some in
    let short = c.requires.short in
    let long = ap length c.in_ok-new.ensures.octets in
    command_written _ (omega arith) (omega arith)
