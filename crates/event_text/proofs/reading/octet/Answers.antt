use Rattle.std.proofs.Common.{refl, sym, ◌∙◌}
use Rattle.event_text.proofs.Numbers.{number_from_parse}
use Rattle.event_text.proofs.reading.octet.Goals as goal

pub returns-then-is_plain : goal.returns-then-is_plain
returns-then-is_plain c =
    c.ok.ensures.value ∙ number_from_parse 256 8 c.args.text.now c.parse.result c.parse.ensures.value.0 refl (sym c.is_plain.ensures ∙ c.if-is_plain.true)
