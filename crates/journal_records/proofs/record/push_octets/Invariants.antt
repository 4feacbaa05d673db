use Rattle.std.proofs.Common.{◌≡◌, ◌+◌, ◌++◌, take}
use Rattle.arrayvec.specs.ArrayVec.{array_vec_len}
use Rattle.journal_records.proofs.record.push_octets.Given as goal

-- the octets so far are appended
abbrev pub invariant-loop-octet : goal.invariant-loop-octet
invariant-loop-octet l = (l.text.items ≡ l.fn.text.items ++ take l.octet-index l.octets) × (array_vec_len l.text ≡ array_vec_len l.fn.text + l.octet-index)
