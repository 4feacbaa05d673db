use Rattle.std.proofs.Common.{◌/◌, ◌∙◌, ap, sym, bit_xor}
use Rattle.journal_records.proofs.Shifts.{four, left}
use Rattle.journal_records.proofs.crc.four_shifted.Goals as goal

pub returns : goal.returns
returns c =
    let register = c.args.register in
    ap (bit_xor (register / 16)) (left register) ∙ sym (four register)
