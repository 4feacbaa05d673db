use Rattle.script_reasons.specs.Reasons.{byte_order_mark}
use Rattle.std.proofs.lemmas.Str.Pattern.{starts_text}
use Rattle.script_reasons.proofs.reasons.is_marked.Goals as goal

pub returns : goal.returns
returns c = starts_text _ (byte_order_mark) c.args.line.now c.starts_with.ensures.cases
