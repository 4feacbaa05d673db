use Rattle.octet_elements.proofs.Texts.{reading_is_unique}
use Rattle.station_messages.specs.Texts.{codec}
use Rattle.station_messages.proofs.ByKind.{kind_heads}
use Rattle.station_messages.proofs.laws.reading_is_unique.Goals as goal

pub returns : goal.returns
returns c = record { unique = reading_is_unique codec kind_heads }
