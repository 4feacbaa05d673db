use Rattle.std.proofs.Common.{rules}
use Rattle.lab_script.proofs.SaidFacts.{line_said-text}
use Rattle.lab_script.proofs.said.line_said.Goals as goal

pub returns-in_err-form_of : goal.returns-in_err-form_of
returns-in_err-form_of c =
    let line = line_said-text c.args.line.now c.cut_side-side.result.1.now c.cut_side-side.result.0 c.cut_side-side.ensures.text c.cut_side-side.ensures.side in
    rw (line, ← c.cut_word.ensures.first, ← c.cut_word.ensures.rest, ← c.form_of.ensures.form, c.in_err-form_of.was) (search rules)

pub returns : goal.returns
returns c =
    let line = line_said-text c.args.line.now c.cut_side-side.result.1.now c.cut_side-side.result.0 c.cut_side-side.ensures.text c.cut_side-side.ensures.side in
    rw (line, ← c.cut_word.ensures.first, ← c.cut_word.ensures.rest, ← c.form_of.ensures.form, c.in_ok-form_of.was) c.said_by.ensures
