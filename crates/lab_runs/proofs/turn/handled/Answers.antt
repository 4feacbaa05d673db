use Rattle.std.proofs.Common.{refl}
use Rattle.lab_runs.proofs.NoteFacts.{view_opens_as_before}
use Rattle.lab_runs.proofs.turn.handled.Goals as goal

pub returns-in-Ok-clause-opening : goal.returns-in-Ok-clause-opening
returns-in-Ok-clause-opening g c = view_opens_as_before c.args.controller.now.0 c.handle_into.new.self.0 c.handle_into.ensures.said

pub returns-in-Err-Undecoded-clause-opening : goal.returns-in-Err-Undecoded-clause-opening
returns-in-Err-Undecoded-clause-opening g c = view_opens_as_before c.args.controller.now.0 c.handle_into.new.self.0 c.handle_into.ensures.said

pub returns-in-Err-NoMemory-clause-opening : goal.returns-in-Err-NoMemory-clause-opening
returns-in-Err-NoMemory-clause-opening g c = view_opens_as_before c.args.controller.now.0 c.handle_into.new.self.0 c.handle_into.ensures.said

-- such a view never says of any place that its receipt isn't known
pub unreachable-requires : goal.unreachable-requires
unreachable-requires g c =
    let foreign = rw c.in-Err-Desk.is at c.handle_into.ensures.foreign in
    let unknown = rw c.in-Err-Desk.field-0-is at foreign in
    unknown _ refl
