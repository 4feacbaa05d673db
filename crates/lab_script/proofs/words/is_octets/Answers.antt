use Rattle.std.proofs.Common.{arith, ◌∙◌, ◌≡◌, ◌≢◌, ◌%◌, length}
use Rattle.lab_script.proofs.WordLemmas.{octets_from_digits}
use Rattle.lab_script.proofs.words.is_octets.Goals as goal

pub returns-then-text-eq0 : goal.returns-then-text-eq0
returns-then-text-eq0 c =
    let (some, even) : (length c.args.text.now ≢ 0) × (length c.args.text.now % 2 ≡ 0) = grind arith in
    record { read = c.is_hex_digits.ensures ∙ octets_from_digits c.args.text.now some even }
