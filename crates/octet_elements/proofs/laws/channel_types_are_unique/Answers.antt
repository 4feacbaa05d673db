use Rattle.octet_elements.proofs.ChannelTypeLemmas.{types_are_unique}
use Rattle.octet_elements.proofs.laws.channel_types_are_unique.Goals as goal

pub returns : goal.returns
returns c = record { unique = types_are_unique }
