use Rattle.std.proofs.Common.{◌<◌, length, arith, rules}
use Rattle.std.proofs.Output.{has_written_append, has_written_of_eq}
use Rattle.link_lines.proofs.WordFacts.{one_more}
use Rattle.link_lines.proofs.writing.HexTextDisplay.fmt.Goals as goal

pub loop-octet-preserved : goal.loop-octet-preserved
loop-octet-preserved g c =
    let within : c.loop-octet.octet-index < length c.args.self.now.0.now = omega (arith, c.loop-octet-test.true, c.loop-octet.auto.octet-index-end) in
    λ plain. has_written_of_eq _ _ _ _ _ (one_more c.args.self.now.0.now c.loop-octet.octet-index within) (has_written_append _ _ _ _ _ _ (c.loop-octet.invariant plain) (search rules))
