use Rattle.std.proofs.Common.{◌≡◌, Some, map, ap, rules}
use Rattle.toml.specs.Data.{as_array}
use Rattle.toml.specs.View.{view, items_view}
use Rattle.cell_table.proofs.Each.{entries_of-items_view}
use Rattle.cell_table.proofs.reading.entries_of.Goals as goal

pub returns-in-Some : goal.returns-in-Some
returns-in-Some c =
    let vs = c.in-Some.found.now.items in
    let found : as_array (view c.args.value.now) ≡ Some (items_view vs) = search rules in
    record { read = rw (found, entries_of-items_view vs) (ap (λ xs. Some (map view xs)) c.as_slice.ensures.value) }
