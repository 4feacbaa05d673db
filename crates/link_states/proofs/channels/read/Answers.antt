use Rattle.octet_elements.proofs.Texts.{text_answered, fault_answered}
use Rattle.link_states.specs.Notes.{channel_codec}
use Rattle.link_states.proofs.Noted.{channel_answered, channel_text_of, channel_fault_of, channel_torn}
use Rattle.link_states.proofs.channels.read.Goals as goal

pub returns-in-Ok-clause-text : goal.returns-in-Ok-clause-text
returns-in-Ok-clause-text c =
    let found = c.in-Ok.ensures.whole in
    channel_text_of c.args.octets.now c.read_elements.result
    (text_answered channel_codec tt c.args.octets.now found.0 c.read_elements.result found.1 (channel_answered found.0 c.read.new.self c.read_elements.result found.2 c.read_elements.ensures))

pub returns-in-Ok-clause-fault : goal.returns-in-Ok-clause-fault
returns-in-Ok-clause-fault c =
    let found = c.in-Ok.ensures.whole in
    channel_fault_of c.args.octets.now c.read_elements.result
    (fault_answered channel_codec tt c.args.octets.now found.0 c.read_elements.result found.1 (channel_answered found.0 c.read.new.self c.read_elements.result found.2 c.read_elements.ensures))

pub returns-in-Err-clause-fault : goal.returns-in-Err-clause-fault
returns-in-Err-clause-fault c = channel_torn c.args.octets.now c.in-Err.offset c.in-Err.ensures.torn
