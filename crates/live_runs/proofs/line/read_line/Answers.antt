use Rattle.std.proofs.Common.{List, ℕ, IfOk, subst}
use Rattle.live_runs.specs.Lines.{Says}
use Rattle.live_runs.proofs.InputFacts.{and_no}
use Rattle.live_runs.proofs.LineFacts.{says_unreadable}
use Rattle.live_runs.proofs.line.read_line.Goals as goal

pub returns-in-Some : goal.returns-in-Some
returns-in-Some g c = subst (λ (l : List ℕ). IfOk c.read_text.result (Says c.args.has_sim l)) c.in-Some.ensures.0 c.read_text.ensures

pub returns-in-None : goal.returns-in-None
returns-in-None g c = says_unreadable c.args.has_sim c.args.line.now (and_no _ _ c.in-None.ensures)
