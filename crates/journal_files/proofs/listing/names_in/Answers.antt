use Rattle.journal_files.proofs.listing.names_in.Goals as goal

pub loop-round-preserved : goal.loop-round-preserved
loop-round-preserved g c = c.in_ok-is_more.ensures.read _ c.loop-round.invariant
