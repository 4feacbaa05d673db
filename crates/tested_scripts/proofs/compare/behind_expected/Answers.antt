use Rattle.std.proofs.Common.{sym, ◌∙◌}
use Rattle.tested_scripts.specs.Meeting.{said_of}
use Rattle.tested_scripts.proofs.MeetingLemmas.{if_text}
use Rattle.tested_scripts.proofs.compare.behind_expected.Goals as goal

pub returns-else-is_any : goal.returns-else-is_any
returns-else-is_any g c =
    if_text (λ found. found.items) c.behind_text.result (said_of c.args.came.now) c.args.text.now c.args.places.now (sym c.is_any.ensures.any ∙ c.if-is_any.false) c.behind_text.ensures
