use Rattle.std.proofs.Common.{◌≡◌, drop, fold}
use Rattle.journal_records.specs.Checksum.{after_octet, all_ones}
use Rattle.journal_records.proofs.crc.checksum.Given as goal

-- the octets that are left lead from here where all of them lead from the beginning
abbrev pub invariant-loop-octet : goal.invariant-loop-octet
invariant-loop-octet l = fold after_octet l.register (drop l.octet-index l.octets) ≡ fold after_octet all_ones l.octets
