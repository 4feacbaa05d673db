use Rattle.rr_elements.proofs.ElementLemmas.{cell-text, chan-text, power-text, cause-text}
use Rattle.rr_elements.proofs.ResultsTexts.{results-text}
use Rattle.rr_elements.proofs.laws.has_text.Goals as goal

pub returns : goal.returns
returns c = record { cell = cell-text; channel = chan-text; power = power-text; cause = cause-text; results = results-text }
