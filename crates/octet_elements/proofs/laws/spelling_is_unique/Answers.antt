use Rattle.octet_elements.proofs.Spelling.{one_spelling}
use Rattle.octet_elements.proofs.laws.spelling_is_unique.Goals as goal

pub returns : goal.returns
returns c = record { unique = one_spelling }
