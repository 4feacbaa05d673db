use Rattle.octet_elements.proofs.Texts.{text_answered, fault_answered}
use Rattle.station_messages.specs.Texts.{codec}
use Rattle.station_messages.proofs.Noted.{answered}
use Rattle.station_messages.proofs.reading.read_body.Goals as goal

pub returns-in-Ok-clause-text : goal.returns-in-Ok-clause-text
returns-in-Ok-clause-text c =
    let found = c.in-Ok.ensures.whole in
    text_answered codec c.args.kind c.args.body.now found.0 c.read_elements.result found.1 (answered c.args.kind found.0 c.read.new.self c.read_elements.result found.2 c.read_elements.ensures)

pub returns-in-Ok-clause-fault : goal.returns-in-Ok-clause-fault
returns-in-Ok-clause-fault c =
    let found = c.in-Ok.ensures.whole in
    fault_answered codec c.args.kind c.args.body.now found.0 c.read_elements.result found.1 (answered c.args.kind found.0 c.read.new.self c.read_elements.result found.2 c.read_elements.ensures)
