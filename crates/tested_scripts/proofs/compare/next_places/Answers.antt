use Rattle.std.proofs.Common.{Option, List, ℕ, IfOk, subst}
use Rattle.tested_scripts.specs.Meeting.{AreNext, said_of}
use Rattle.tested_scripts.proofs.compare.next_places.Goals as goal

pub returns-in-Some : goal.returns-in-Some
returns-in-Some g c =
    subst (λ (expected : Option (List ℕ)). IfOk c.behind_expected.result (λ found. AreNext (said_of c.args.came.now) expected c.args.places.now found.items)) c.in-Some.ensures.expected c.behind_expected.ensures
