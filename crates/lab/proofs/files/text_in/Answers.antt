use Rattle.std.proofs.Common.{◌≡◌, arith, rules}
use Rattle.std.specs.Str.Lossy.{utf8_valid_len}
use Rattle.std.proofs.lemmas.Str.{utf8_valid_len_le}
use Rattle.lab.proofs.files.text_in.Goals as goal

pub overflow_add-result : goal.overflow_add-result
overflow_add-result g c =
    let place : c.valid_up_to.result ≡ utf8_valid_len c.args.octets.items = search rules in
    omega (arith, utf8_valid_len_le c.args.octets.items, c.args.octets.small, c.args.octets.ok.0, c.args.octets.ok.1)
