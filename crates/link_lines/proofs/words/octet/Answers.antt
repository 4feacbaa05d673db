use Rattle.std.proofs.Common.{refl, sym, ◌∙◌}
use Rattle.lab_script.proofs.WordLemmas.{number_from_parse}
use Rattle.link_lines.proofs.words.octet.Goals as goal

pub returns-then-is_digits : goal.returns-then-is_digits
returns-then-is_digits c =
    c.ok.ensures.value ∙ number_from_parse 256 8 c.args.text.now c.parse.result c.parse.ensures.value.0 refl (sym c.is_digits.ensures ∙ c.if-is_digits.true)
