use Rattle.std.proofs.Common.{◌∙◌, ap, count_by, arith}
use Rattle.channel_fsm.specs.Masks.{has, timeslots}
use Rattle.channel_fsm.proofs.MaskFacts.{ones_counted}
use Rattle.channel_fsm.proofs.mask.FreeMask.count.Goals as goal

pub returns : goal.returns
returns c = record { count = ones_counted c.self.inside.bits (omega arith) ∙ ap (λ octet. count_by (has octet) timeslots) c.self.view_is }
