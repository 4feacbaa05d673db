use Rattle.std.proofs.Common.{◌≡◌, Some, option_map, sym, ap, ◌∙◌}
use Rattle.encoded_messages.specs.Words.{around_semicolon}
use Rattle.encoded_messages.specs.Abis.{in_parts, can_be_written_in}
use Rattle.encoded_messages.proofs.AbisLemmas.{says_octets}
use Rattle.encoded_messages.proofs.abis.says_abis.Goals as goal

pub returns-in-Some : goal.returns-in-Some
returns-in-Some c =
    let parts : around_semicolon c.args.text.now ≡ Some (c.in-Some.front.now, c.in-Some.words.now) = sym c.around_semicolon.ensures ∙ ap (option_map (λ cut. (cut.0.now, cut.1.now))) c.in-Some.is in
    record { said = c.says_parts.ensures c.args.text.now ∙ ap (λ p. can_be_written_in (in_parts c.args.text.now p)) (sym parts) ∙ sym (says_octets c.args.text.now) }
