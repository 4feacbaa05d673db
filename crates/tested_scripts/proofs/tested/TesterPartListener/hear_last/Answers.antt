use Rattle.std.proofs.Common.{◌≡◌, ◌↔◌, true, List, ℕ, subst}
use Rattle.tested_scripts.specs.Tests.{IsLastMet}
use Rattle.tested_scripts.proofs.tested.TesterPartListener.hear_last.Goals as goal

pub returns : goal.returns
returns g c =
    let met = c.in_ok-look_at_last.ensures.met in
    let same = λ (part : List (List ℕ)). (c.look_at_last.new.self.is_met ≡ true) ↔ ((c.args.self.now.is_met ≡ true) × IsLastMet part c.args.came c.args.ended met.0) in
    record { hears = (met.0, subst same c.part_at-part.ensures met.1) }
