use Rattle.std.proofs.Common.{◌≡◌}
use Rattle.std.specs.List.{filter_map}
use Rattle.journal_files.specs.Listings.{number_of}
use Rattle.journal_files.proofs.Numbered.{now_of}
use Rattle.journal_files.proofs.listing.entered.Given as goal

-- the numbers in the names so far
abbrev pub invariant-loop-name : goal.invariant-loop-name
invariant-loop-name l = record {
  can_next : goal.iterator-loop-name.can_next l.name-iterator;
  is_finite : goal.iterator-loop-name.is_finite l.name-iterator;
  numbers : l.listing.spans.items ≡ filter_map number_of (now_of l.yielded);
}
