use Rattle.std.proofs.Common.{◌≡◌, drop, fold}
use Rattle.journal_records.specs.Numerals.{after_digit}
use Rattle.journal_records.proofs.numerals.number_of.Given as goal

-- the digits that are left lead from here where all of them lead from 0
abbrev pub invariant-loop-octet : goal.invariant-loop-octet
invariant-loop-octet l = fold (after_digit l.base) l.number (drop l.octet-index l.text) ≡ fold (after_digit l.base) 0 l.text
