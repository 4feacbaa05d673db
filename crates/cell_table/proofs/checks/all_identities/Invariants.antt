use Rattle.std.proofs.Common.{◌≡◌, map, take, ◌++◌}
use Rattle.cell_table.proofs.checks.all_identities.Given as goal

abbrev pub invariant-loop-identity : goal.invariant-loop-identity
invariant-loop-identity l = l.all.items ≡ map (λ c. c.identity) l.fn.cells ++ take l.identity-index l.outside
