use Rattle.std.proofs.Common.{◌==◌, ◌∙◌, ap, w8, arith}
use Rattle.std.proofs.lemmas.Nat.Bits.{bit_at_set_same, bit_at_set_other}
use Rattle.channel_fsm.specs.Masks.{has}
use Rattle.channel_fsm.proofs.MaskFacts.{has_one}
use Rattle.channel_fsm.proofs.mask.FreeMask.give.Goals as goal

pub returns-clause-given : goal.returns-clause-given
returns-clause-given c = has_one _ c.args.tn (bit_at_set_same w8 c.self.inside.bits c.args.tn (omega arith))

pub returns-clause-others : goal.returns-clause-others
returns-clause-others c n other =
    ap (λ b. b == 1) (bit_at_set_other w8 c.self.inside.bits c.args.tn (omega arith) n other) ∙ ap (λ octet. has octet n) c.self.view_is
