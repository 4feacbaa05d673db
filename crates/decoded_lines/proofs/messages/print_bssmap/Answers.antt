use Rattle.std.proofs.Common.{rules, sym, ◌∙◌, ◌≢◌, Err, IsSome}
use Rattle.bssmap_messages.specs.declared.fault.BssmapFault.TheVariants.{NoMemory}
use Rattle.decoded_lines.specs.Messages.{IsBssmapMessage}
use Rattle.decoded_lines.proofs.MessageLemmas.{answered}
use Rattle.decoded_lines.proofs.messages.print_bssmap.Goals as goal

pub returns-in_ok-bssmap_fault-in-Err-clause-refused : goal.returns-in_ok-bssmap_fault-in-Err-clause-refused
returns-in_ok-bssmap_fault-in-Err-clause-refused g c =
    let room : c.decode.result ≢ Err NoMemory = search rules in
    answered (λ fault. IsSome fault → IsBssmapMessage g.row.A.Denot c.args.octets.now → ⊥) c.refuse.result
    (λ fault some message. cc (sym c.in-Err.is ∙ c.decode.ensures.decodes.exact message.0 message.1 room))
