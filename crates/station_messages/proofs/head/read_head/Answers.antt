use Rattle.octet_elements.proofs.Texts.{decoded}
use Rattle.rsl_messages.proofs.Unique.{not_torn, not_by_value}
use Rattle.station_messages.specs.Types.{type_head, head_codec}
use Rattle.station_messages.proofs.ByKind.{type_heads}
use Rattle.station_messages.proofs.Unique.{not_early}
use Rattle.station_messages.proofs.head.read_head.Goals as goal

pub returns : goal.returns
returns c = record { decodes = decoded head_codec type_heads c.args.octets.now c.read.result (not_early type_head c.args.octets.now) not_torn not_by_value c.read.ensures.text c.read.ensures.fault }
