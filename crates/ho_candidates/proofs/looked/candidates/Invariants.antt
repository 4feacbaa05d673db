use Rattle.ho_candidates.proofs.CandidateFacts.{IsListBelow}
use Rattle.ho_candidates.proofs.looked.candidates.Given as goal

abbrev pub invariant-loop-other : goal.invariant-loop-other
invariant-loop-other g l = IsListBelow l.window l.site l.cell l.other l.found.items
