use Rattle.octet_elements.proofs.Texts.{reading_is_unique}
use Rattle.station_messages.specs.Types.{head_codec}
use Rattle.station_messages.proofs.ByKind.{type_heads}
use Rattle.station_messages.proofs.laws.heads_are_unique.Goals as goal

pub returns : goal.returns
returns c = record { unique = reading_is_unique head_codec type_heads }
