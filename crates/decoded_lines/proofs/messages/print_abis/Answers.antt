use Rattle.std.proofs.Common.{rules, sym, ◌∙◌, ◌≢◌, Err, IsSome}
use Rattle.rsl_messages.specs.declared.fault.RslFault.TheVariants.{NoMemory}
use Rattle.decoded_lines.specs.Messages.{IsAbisMessage}
use Rattle.decoded_lines.proofs.MessageLemmas.{answered}
use Rattle.decoded_lines.proofs.messages.print_abis.Goals as goal

pub returns-in_ok-abis_fault-in-Err-clause-refused : goal.returns-in_ok-abis_fault-in-Err-clause-refused
returns-in_ok-abis_fault-in-Err-clause-refused g c =
    let room : c.decode.result ≢ Err NoMemory = search rules in
    answered (λ fault. IsSome fault → IsAbisMessage g.row.A.Denot c.args.octets.now → ⊥) c.refuse.result
    (λ fault some message. cc (sym c.in-Err.is ∙ c.decode.ensures.decodes.exact message.0 message.1 room))
