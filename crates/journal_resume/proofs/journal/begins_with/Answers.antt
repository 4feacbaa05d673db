use Rattle.std.proofs.Common.{sym, ◌∙◌}
use Rattle.journal_resume.proofs.Refused.{line_in_front, front_is_line}
use Rattle.journal_resume.proofs.journal.begins_with.Goals as goal

pub returns : goal.returns
returns c =
    let line = c.args.line.now in
    let text = c.args.text.now in (
      λ is. front_is_line line text (sym c.split_at.ensures.front ∙ c.is_same.ensures.0 is),
      λ begins. c.is_same.ensures.1 (c.split_at.ensures.front ∙ line_in_front line text begins),
    )
