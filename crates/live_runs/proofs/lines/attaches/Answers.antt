use Rattle.std.proofs.Common.{◌∙◌, List, ℕ, ap}
use Rattle.lab_script.specs.Script.{is_sim}
use Rattle.live_runs.specs.Lines.{script_line}
use Rattle.live_runs.proofs.LineFacts.{no_text_is_sim}
use Rattle.live_runs.proofs.lines.attaches.Goals as goal

pub returns-in-Ok : goal.returns-in-Ok
returns-in-Ok c =
    let same = c.in-Ok.ensures.cases.0 in
    c.is_sim.ensures ∙ ap (λ (line : List ℕ). is_sim line) c.without_return.ensures.stripped ∙ ap (λ (line : List ℕ). is_sim (script_line line)) same

pub returns-in-Err : goal.returns-in-Err
returns-in-Err c = no_text_is_sim c.args.line.now c.in-Err.ensures.cases.0
