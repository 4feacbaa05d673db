use Rattle.std.proofs.Common.{◌≡◌, ℕ, ◌<◌, true, is_some}
use Rattle.std.specs.FinMap as map
use Rattle.radio_book.proofs.records.Records.free_number.Given as goal

-- the numbers so far are in use
abbrev pub invariant-loop-number : goal.invariant-loop-number
invariant-loop-number g l =
    (n : ℕ) → n < l.number → is_some (map.get l.self.references (record { cell = l.cell; number = n })) ≡ true
