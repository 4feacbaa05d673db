use Rattle.event_text.proofs.Readings.{text_is_unique}
use Rattle.event_text.proofs.laws.text_is_unique.Goals as goal

pub returns : goal.returns
returns c = record { unique = text_is_unique }
