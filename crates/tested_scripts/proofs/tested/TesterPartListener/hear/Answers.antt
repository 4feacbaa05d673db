use Rattle.std.proofs.Common.{◌≡◌, ◌↔◌, true, List, ℕ, subst}
use Rattle.tested_scripts.specs.Tests.{IsPartMet}
use Rattle.tested_scripts.proofs.tested.TesterPartListener.hear.Goals as goal

pub returns : goal.returns
returns g c =
    let met = c.in_ok-look_at.ensures.met in
    let same = λ (part : List (List ℕ)). (c.look_at.new.self.is_met ≡ true) ↔ ((c.args.self.now.is_met ≡ true) × IsPartMet part c.args.came met.0) in
    record { hears = (met.0, (c.in_ok-look_at.ensures.lines, c.next_place-next.ensures, subst same c.part_at-part.ensures met.1)) }
