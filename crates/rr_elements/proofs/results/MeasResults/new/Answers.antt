use Rattle.std.proofs.Common.{rules, length, drop, replicate, ◌++◌}
use Rattle.rr_elements.specs.MeasResults.{IsKept, no_ncell}
use Rattle.rr_elements.proofs.KeptLemmas.{kept_new}
use Rattle.rr_elements.proofs.results.MeasResults.new.Goals as goal

pub invariant_of-result : goal.invariant_of-result
invariant_of-result c =
    let cells = c.args.neighbours.now in
    let kept : IsKept c.args.head (cells ++ drop (length cells) (replicate 6 no_ncell)) = kept_new c.args.head cells (search rules) (search rules) (search rules) in
    rw c.copy_from_slice.ensures.after kept
