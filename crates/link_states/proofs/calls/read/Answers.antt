use Rattle.octet_elements.proofs.Texts.{text_answered, fault_answered}
use Rattle.link_states.specs.Notes.{call_codec}
use Rattle.link_states.proofs.Noted.{call_answered, call_text_of, call_fault_of, call_torn}
use Rattle.link_states.proofs.calls.read.Goals as goal

pub returns-in-Ok-clause-text : goal.returns-in-Ok-clause-text
returns-in-Ok-clause-text c =
    let found = c.in-Ok.ensures.whole in
    call_text_of c.args.octets.now c.read_elements.result
    (text_answered call_codec tt c.args.octets.now found.0 c.read_elements.result found.1 (call_answered found.0 c.read.new.self c.read_elements.result found.2 c.read_elements.ensures))

pub returns-in-Ok-clause-fault : goal.returns-in-Ok-clause-fault
returns-in-Ok-clause-fault c =
    let found = c.in-Ok.ensures.whole in
    call_fault_of c.args.octets.now c.read_elements.result
    (fault_answered call_codec tt c.args.octets.now found.0 c.read_elements.result found.1 (call_answered found.0 c.read.new.self c.read_elements.result found.2 c.read_elements.ensures))

pub returns-in-Err-clause-fault : goal.returns-in-Err-clause-fault
returns-in-Err-clause-fault c = call_torn c.args.octets.now c.in-Err.offset c.in-Err.ensures.torn
