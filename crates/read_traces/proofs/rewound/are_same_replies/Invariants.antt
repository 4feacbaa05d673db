use Rattle.std.proofs.Common.{◌↔◌, length}
use Rattle.read_traces.specs.Rewound.{AreSameReplies}
use Rattle.read_traces.proofs.rewound.are_same_replies.Given as goal

-- what is left is the same just where the whole is
abbrev pub invariant-loop-others : goal.invariant-loop-others
invariant-loop-others l = AreSameReplies l.whole l.others l.without ↔ AreSameReplies l.whole l.fn.others l.fn.without

abbrev pub decreases-loop-others : goal.decreases-loop-others
decreases-loop-others l = length l.others
