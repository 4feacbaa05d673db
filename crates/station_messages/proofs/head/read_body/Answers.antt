use Rattle.octet_elements.proofs.Texts.{text_answered, fault_answered}
use Rattle.station_messages.specs.Types.{head_codec}
use Rattle.station_messages.proofs.Noted.{head_answered}
use Rattle.station_messages.proofs.head.read_body.Goals as goal

pub returns-in-Ok-clause-text : goal.returns-in-Ok-clause-text
returns-in-Ok-clause-text c =
    let found = c.in-Ok.ensures.whole in
    text_answered head_codec c.args.message c.args.body.now found.0 c.head_of.result found.1 (head_answered c.args.message found.0 c.read.new.self c.head_of.result found.2 c.head_of.ensures)

pub returns-in-Ok-clause-fault : goal.returns-in-Ok-clause-fault
returns-in-Ok-clause-fault c =
    let found = c.in-Ok.ensures.whole in
    fault_answered head_codec c.args.message c.args.body.now found.0 c.head_of.result found.1 (head_answered c.args.message found.0 c.read.new.self c.head_of.result found.2 c.head_of.ensures)
