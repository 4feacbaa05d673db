use Rattle.ho_candidates.proofs.OrderFacts.{one_list}
use Rattle.ho_candidates.proofs.laws.one_list_in_order.Goals as goal

pub returns : goal.returns
returns c = record { law = one_list }
