use Rattle.std.proofs.Common.{length}
use Rattle.bsc_runs.proofs.sent.+sent_away_in.Given as goal

abbrev pub decreases-sent_away_in : goal.decreases-sent_away_in
decreases-sent_away_in g l = length l.messages.now
