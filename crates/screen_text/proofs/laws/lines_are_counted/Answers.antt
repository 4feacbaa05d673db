use Rattle.screen_text.proofs.LineCounts.{from_begin}
use Rattle.screen_text.proofs.laws.lines_are_counted.Goals as goal

pub returns : goal.returns
returns c = record { lines = from_begin }
