use Rattle.std.proofs.Common.{◌≡◌}
use Rattle.site_tests.proofs.tests.add_all.Given as goal

abbrev pub invariant-loop-said : goal.invariant-loop-said
invariant-loop-said g l = l.window.width ≡ l.fn.window.width
