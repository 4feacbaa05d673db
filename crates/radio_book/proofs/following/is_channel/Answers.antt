use Rattle.std.proofs.Common.{◌∙◌}
use Rattle.channel_fsm.proofs.KeyFacts.{chan_eq_same}
use Rattle.radio_book.proofs.following.is_channel.Goals as goal

pub returns-in-Some-Some : goal.returns-in-Some-Some
returns-in-Some-Some c =
    rw (c.in-Some-Some.is-0, c.in-Some-Some.is-1) (c.eq.ensures ∙ chan_eq_same c.in-Some-Some.named c.in-Some-Some.target)
