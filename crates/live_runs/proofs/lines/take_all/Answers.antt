use Rattle.std.proofs.Common.{Ok, ap, subst, sym}
use Rattle.live_runs.specs.Live.{TakesAll}
use Rattle.live_runs.proofs.LiveFacts.{follows_begin, follows_next, follows_end}
use Rattle.live_runs.proofs.lines.take_all.Goals as goal

pub loop-number-init : goal.loop-number-init
loop-number-init g c = record {
  alone = c.requires.alone;
  follows = follows_begin c.args.rules.sims (g.R.Read.remaining c.args.reader.now) c.args.live.now;
}

pub loop-number-preserved : goal.loop-number-preserved
loop-number-preserved g c = record {
  alone = c.in_ok-take_next.ensures.alone;
  follows = follows_next c.args.rules.sims (g.R.Read.remaining c.args.reader.now) (g.R.Read.remaining c.loop-number.reader) (g.R.Read.remaining c.take_next.new.reader) c.args.live.now c.loop-number.live c.take_next.new.live c.loop-number.invariant.follows (c.in_ok-take_next.ensures.taken (ap Ok c.if-not-branch.false));
}

pub returns-then-not-branch : goal.returns-then-not-branch
returns-then-not-branch g c = record {
  all = subst (λ (s : _). TakesAll c.args.rules.sims (g.R.Read.remaining c.args.reader.now) c.args.live.now s) (sym (c.in_ok-take_next.ensures.kept (ap Ok c.if-not-branch.true)))
      (follows_end c.args.rules.sims (g.R.Read.remaining c.args.reader.now) (g.R.Read.remaining c.loop-number.reader) c.args.live.now c.loop-number.live c.loop-number.invariant.follows (c.in_ok-take_next.ensures.end (ap Ok c.if-not-branch.true)));
}
