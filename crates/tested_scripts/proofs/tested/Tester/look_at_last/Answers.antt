use Rattle.std.proofs.Common.{ap, ◌∙◌}
use Rattle.tested_scripts.specs.Lines.{texts_of}
use Rattle.tested_scripts.specs.Meeting.{said_of}
use Rattle.tested_scripts.proofs.TestFacts.{last_met}
use Rattle.tested_scripts.proofs.tested.Tester.look_at_last.Goals as goal

pub returns : goal.returns
returns g c =
    let one = ap said_of c.deref.ensures.value ∙ c.in_ok-lines.ensures in
    let last = ap said_of c.deref-2.ensures.value ∙ c.in_ok-all.ensures in
    let two = ap said_of c.deref-4.ensures.value ∙ c.in_ok-all.ensures in
    record { met = last_met c.look_at_held.result (texts_of c.args.part.now) c.args.came c.args.ended _ _ _ c.in_ok-difference.difference c.in_ok-holds.holds _ _ _ _ one last two c.in_ok-difference.ensures.met c.in_ok-look_at_difference.ensures.met c.in_ok-look_at_refused.ensures.met c.look_at_held.ensures.met }
