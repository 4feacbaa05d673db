use Rattle.std.proofs.Common.{codes}
use Rattle.std.proofs.lemmas.Str.Pattern.{starts_text}
use Rattle.lab_script.proofs.side.is_for_peer.Goals as goal

pub returns : goal.returns
returns c = record { peer = starts_text _ (codes "2: ") c.args.line.now c.starts_with.ensures.cases }
