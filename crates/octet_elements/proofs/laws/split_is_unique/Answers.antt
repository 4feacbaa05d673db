use Rattle.octet_elements.proofs.Splits.{one_split}
use Rattle.octet_elements.proofs.laws.split_is_unique.Goals as goal

pub returns : goal.returns
returns c = record { unique = one_split }
