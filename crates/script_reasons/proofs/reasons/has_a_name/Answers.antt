use Rattle.std.proofs.Common.{ap, ◌∙◌}
use Rattle.script_reasons.specs.Reasons.{a_names, is_among}
use Rattle.script_reasons.proofs.reasons.has_a_name.Goals as goal

pub returns : goal.returns
returns c = c.is_named.ensures ∙ ap (is_among a_names) c.name_and_fields.ensures.name
