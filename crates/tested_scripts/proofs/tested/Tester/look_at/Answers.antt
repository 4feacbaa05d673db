use Rattle.std.proofs.Common.{ap, ◌∙◌}
use Rattle.tested_scripts.specs.Lines.{texts_of}
use Rattle.tested_scripts.specs.Meeting.{said_of}
use Rattle.tested_scripts.proofs.TestFacts.{part_met}
use Rattle.tested_scripts.proofs.tested.Tester.look_at.Goals as goal

pub returns-clause-met : goal.returns-clause-met
returns-clause-met g c =
    let one = ap said_of c.deref.ensures.value ∙ c.in_ok-lines.ensures in
    let two = ap said_of c.deref-3.ensures.value ∙ c.in_ok-lines.ensures in
    part_met c.look_at_held.result (texts_of c.args.part.now) c.args.came _ _ c.in_ok-difference.difference c.in_ok-holds.holds _ _ _ _ one two c.in_ok-difference.ensures.met c.in_ok-look_at_difference.ensures.met c.in_ok-look_at_refused.ensures.met c.look_at_held.ensures.met
