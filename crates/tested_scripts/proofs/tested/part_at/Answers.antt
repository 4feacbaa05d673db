use Rattle.std.proofs.Common.{not, arith}
use Rattle.std.proofs.lemmas.List.{length-map}
use Rattle.std.proofs.lemmas.List.Sums.{prefix_len-le-length}
use Rattle.tested_scripts.specs.Lines.{texts_of, is_script_line}
use Rattle.tested_scripts.proofs.tested.part_at.Goals as goal

pub split_at-requires-2 : goal.split_at-requires-2
split_at-requires-2 c =
    let left = c.split_at.result.1.now in
    omega (arith, c.part_end.ensures.end, prefix_len-le-length (λ x. not (is_script_line x)) (texts_of left), length-map left (λ x. x.now))
