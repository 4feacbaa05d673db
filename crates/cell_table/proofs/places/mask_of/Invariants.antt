use Rattle.std.proofs.Common.{◌≡◌, ◌==◌, ℕ, take}
use Rattle.std.specs.List.{list_any}
use Rattle.channel_fsm.specs.Masks.{has}
use Rattle.cell_table.proofs.places.mask_of.Given as goal

abbrev pub invariant-loop-tn : goal.invariant-loop-tn
invariant-loop-tn l = (n : ℕ) → has l.mask n ≡ list_any (λ tn. tn == n) (take l.tn-index l.slots)
