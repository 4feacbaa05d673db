use Rattle.radio_desk.proofs.WalkFacts.{flags_left, within_more, count_more, remaining_more, held_more}
use Rattle.radio_desk.proofs.audit.walk_along.Goals as goal

pub loop-rest-preserved : goal.loop-rest-preserved
loop-rest-preserved g c = record {
  rows = c.in_ok-step.ensures.rows;
  flags = flags_left c.loop-rest.rest.now _ c.in-len1-up.len_at_least c.loop-rest.flags.now c.loop-rest.invariant.flags c.flags_behind-flags.result.now c.flags_behind-flags.ensures;
  within = within_more c.loop-rest.rest.now _ c.in-len1-up.len_at_least c.loop-rest.flags.now c.loop-rest.invariant.flags c.loop-rest.walk.followers.attempts.items c.step.new.self.followers.attempts.items c.settling.result c.settling.ensures c.in_ok-step.ensures.followed c.loop-rest.walk.attempts c.step.new.self.attempts _ c.in_ok-step.ensures.attempts c.loop-rest.invariant.within;
  attempts = count_more c.loop-rest.rest.now _ c.in-len1-up.len_at_least c.loop-rest.flags.now c.loop-rest.invariant.flags c.loop-rest.walk.followers.attempts.items c.step.new.self.followers.attempts.items c.settling.result c.settling.ensures c.in_ok-step.ensures.followed c.loop-rest.walk.attempts c.step.new.self.attempts _ c.in_ok-step.ensures.attempts c.loop-rest.invariant.attempts;
  remaining = remaining_more c.loop-rest.rest.now _ c.in-len1-up.len_at_least c.loop-rest.flags.now c.loop-rest.invariant.flags c.loop-rest.walk.followers.attempts.items c.step.new.self.followers.attempts.items c.settling.result c.settling.ensures c.in_ok-step.ensures.followed c.loop-rest.walk.remaining.items c.step.new.self.remaining.items _ c.in_ok-step.ensures.remaining c.loop-rest.invariant.remaining;
  held = held_more c.loop-rest.rest.now _ c.in-len1-up.len_at_least c.loop-rest.flags.now c.loop-rest.invariant.flags c.loop-rest.walk.followers.attempts.items c.step.new.self.followers.attempts.items c.settling.result c.settling.ensures c.in_ok-step.ensures.followed c.loop-rest.walk.held c.step.new.self.held _ c.in_ok-step.ensures.held c.loop-rest.invariant.held;
}
