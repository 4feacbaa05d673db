use Rattle.radio_desk.proofs.WalkFacts.{flags_more}
use Rattle.radio_desk.proofs.audit.settled_flags.Goals as goal

pub loop-rest-preserved : goal.loop-rest-preserved
loop-rest-preserved g c = record {
  rows = c.in_ok-follow.ensures.rows;
  flags =
      flags_more c.loop-rest.rest.now _ c.in-len1-up.len_at_least c.loop-rest.followers.attempts.items c.follow.new.self.attempts.items c.opening_of.result _
      c.loop-rest.invariant.flags c.in_ok-follow.ensures.attempts c.opening_of.ensures.opening;
}
