use Rattle.std.proofs.Common.{IsSome}
use Rattle.rr_messages.proofs.Faults.{no_fault}
use Rattle.decoded_lines.specs.Messages.{IsRrMessage}
use Rattle.decoded_lines.proofs.MessageLemmas.{answered}
use Rattle.decoded_lines.proofs.messages.print_rr.Goals as goal

pub returns-in-Err-clause-refused : goal.returns-in-Err-clause-refused
returns-in-Err-clause-refused g c =
    answered (λ fault. IsSome fault → IsRrMessage c.args.octets.now → ⊥) c.refuse.result
    (λ fault some message. no_fault message.0 _ _ message.1 c.in-Err.ensures.fault)
