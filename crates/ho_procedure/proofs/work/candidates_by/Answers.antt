use Rattle.ho_procedure.proofs.Ranking.{all_candidates, some_of}
use Rattle.ho_procedure.proofs.work.candidates_by.Goals as goal

pub returns-clause-found : goal.returns-clause-found
returns-clause-found g c = all_candidates (λ found. found.items) _ _ _ _ c.requires c.candidates.ensures.members c.candidates.ensures.order

pub returns-clause-some : goal.returns-clause-some
returns-clause-some g c = some_of _ _ _ _ c.requires c.candidates.ensures.no_memory
