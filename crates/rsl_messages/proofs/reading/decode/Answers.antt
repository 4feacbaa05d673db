use Rattle.octet_elements.proofs.Texts.{decoded}
use Rattle.rsl_messages.specs.Texts.{codec}
use Rattle.rsl_messages.proofs.Unique.{heads, not_early, not_torn, not_by_value}
use Rattle.rsl_messages.proofs.reading.decode.Goals as goal

pub returns : goal.returns
returns g c = record { decodes = decoded (codec _) (heads _) c.args.octets.now c.read_message.result (not_early c.args.octets.now) not_torn not_by_value c.read_message.ensures.text c.read_message.ensures.fault }
