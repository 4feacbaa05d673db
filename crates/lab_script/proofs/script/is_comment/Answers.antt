use Rattle.std.proofs.Common.{codes}
use Rattle.std.proofs.lemmas.Str.Pattern.{starts_text}
use Rattle.lab_script.proofs.script.is_comment.Goals as goal

pub returns : goal.returns
returns c = record { comment = starts_text _ (codes "#") c.args.line.now c.starts_with.ensures.cases }
