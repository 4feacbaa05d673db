use Rattle.std.proofs.Common.{◌≡◌, length, Some}
use Rattle.journal_files.specs.Listings.{decimal_from}
use Rattle.journal_files.proofs.names.decimal.Given as goal

-- the number so far, with the digits that are left, is that of all
abbrev pub invariant-loop-rest : goal.invariant-loop-rest
invariant-loop-rest l = decimal_from (Some l.number) l.rest ≡ decimal_from (Some 0) l.digits

abbrev pub decreases-loop-rest : goal.decreases-loop-rest
decreases-loop-rest l = length l.rest
