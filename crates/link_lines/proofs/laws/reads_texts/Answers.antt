use Rattle.link_lines.proofs.LineFacts.{reads_texts}
use Rattle.link_lines.proofs.laws.reads_texts.Goals as goal

pub returns : goal.returns
returns g c = record { read = reads_texts }
