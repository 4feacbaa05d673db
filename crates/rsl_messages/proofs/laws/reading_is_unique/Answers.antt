use Rattle.octet_elements.proofs.Texts.{reading_is_unique}
use Rattle.rsl_messages.specs.Texts.{codec}
use Rattle.rsl_messages.proofs.Unique.{heads}
use Rattle.rsl_messages.proofs.laws.reading_is_unique.Goals as goal

pub returns : goal.returns
returns g c = record { unique = reading_is_unique (codec _) (heads _) }
