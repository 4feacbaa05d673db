use Rattle.std.proofs.Common.{sym, ap, ◌∙◌}
use Rattle.std.specs.FinMap as map
use Rattle.std.specs.FinMap.{len-empty}
use Rattle.std.specs.Ordering.{nat_cmp}
use Rattle.dense_tables.specs.Calls.{entries_of}
use Rattle.dense_tables.proofs.Kept.{no_entries}
use Rattle.dense_tables.proofs.calls.CallSlots.new.Goals as goal

pub invariant_of-result : goal.invariant_of-result
invariant_of-result g c =
    let keys = c.in_ok-keys.keys.items in
    record { keys_long = c.in_ok-keys.ensures.len; counted = sym (ap map.len (ap (entries_of keys) c.new.ensures.empty ∙ no_entries keys) ∙ len-empty nat_cmp _) }

pub returns : goal.returns
returns g c =
    let keys = c.in_ok-keys.keys.items in
    record { empty = ap (entries_of keys) c.new.ensures.empty ∙ no_entries keys }
