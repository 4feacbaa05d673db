use Rattle.std.proofs.Common.{◌≡◌, ℕ, ◌<◌, length, false, get_or, take}
use Rattle.receipt_check.specs.Gathering.{AreFresh, has_place}
use Rattle.receipt_check.proofs.first_twice.Given as goal

abbrev pub invariant-loop-receipt : goal.invariant-loop-receipt
invariant-loop-receipt g l = record {
  fresh : AreFresh l.all l.receipt-index;
  long : length l.seen.items ≡ length l.desk.history;
  seen : (k : ℕ) → k < length l.seen.items → get_or l.seen.items k false ≡ has_place k (take l.receipt-index l.all);
}
