use Rattle.octet_elements.proofs.Texts.{decoded}
use Rattle.rsl_messages.proofs.Unique.{not_torn, not_by_value}
use Rattle.station_messages.specs.Messages.{kind_head}
use Rattle.station_messages.specs.Texts.{codec}
use Rattle.station_messages.proofs.ByKind.{kind_heads}
use Rattle.station_messages.proofs.Unique.{not_early}
use Rattle.station_messages.proofs.reading.decode.Goals as goal

pub returns : goal.returns
returns c = record { decodes = decoded codec kind_heads c.args.octets.now c.read.result (not_early kind_head c.args.octets.now) not_torn not_by_value c.read.ensures.text c.read.ensures.fault }
