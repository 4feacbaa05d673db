use Rattle.event_text.proofs.Found.{reads_texts}
use Rattle.event_text.proofs.laws.reads_texts.Goals as goal

pub returns : goal.returns
returns c = record { read = reads_texts }
