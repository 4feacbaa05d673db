use Rattle.std.proofs.Common.{◌==◌, ◌∙◌, ap, w8, arith}
use Rattle.std.proofs.lemmas.Nat.Bits.{bit_at_clear_same}
use Rattle.channel_fsm.specs.Masks.{has}
use Rattle.channel_fsm.proofs.MaskFacts.{has_zero, cleared_other}
use Rattle.channel_fsm.proofs.mask.FreeMask.take.Goals as goal

pub returns-clause-taken : goal.returns-clause-taken
returns-clause-taken c = has_zero _ c.args.tn (bit_at_clear_same w8 c.self.inside.bits c.args.tn (omega arith))

pub returns-clause-others : goal.returns-clause-others
returns-clause-others c n other =
    ap (λ b. b == 1) (cleared_other c.self.inside.bits c.args.tn n (omega arith) c.requires.timeslot other) ∙ ap (λ octet. has octet n) c.self.view_is
