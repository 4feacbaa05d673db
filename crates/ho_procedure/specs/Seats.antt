-- The receipts of one seat.
use Rattle.std.specs.Prelude.{◌≡◌, ℕ, List, Some, None}
use Rattle.std.specs.List.{last_or}
use Rattle.radio_desk.specs.Receipts.{Receipt}

-- there is a receipt, and the last one is of this place
abbrev pub IsLastPlace : List Receipt → ℕ → Type 0
IsLastPlace receipts place = (r : Receipt) × (last_or None receipts ≡ Some r) × (r.place ≡ place)
