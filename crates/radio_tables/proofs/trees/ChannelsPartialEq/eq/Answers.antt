use Rattle.std.proofs.Common.{sym, ap, ◌∙◌}
use Rattle.std.specs.FinMap as map
use Rattle.radio_tables.specs.Same.{is_same}
use Rattle.radio_tables.specs.State.{channels_code}
use Rattle.radio_tables.proofs.KeyFacts.{chan_total, chan_exact}
use Rattle.radio_tables.proofs.TableFacts.{len_listed}
use Rattle.radio_tables.proofs.SameFacts.{listed_eq, sizes_differ, chan_state_eq-Decides}
use Rattle.channel_fsm.proofs.KeyFacts.{same_chan-Decides}
use Rattle.radio_tables.proofs.trees.ChannelsPartialEq.eq.Goals as goal

pub returns-then-len : goal.returns-then-len
returns-then-len g c =
    c.eq.ensures
    ∙ listed_eq chan_total chan_exact same_chan-Decides chan_state_eq-Decides channels_code c.self.inside.states c.other.inside.states c.len.ensures.ordered c.len-2.ensures.ordered
    ∙ (λ i. is_same channels_code (c.self.view_is i) (c.other.view_is i))

pub returns-else-len : goal.returns-else-len
returns-else-len g c =
    sizes_differ channels_code c.args.self.now c.args.other.now map.len c.len.result c.len-2.result
    (c.len.ensures.len ∙ sym (len_listed chan_total c.self.inside.states c.len.ensures.ordered) ∙ ap map.len c.self.view_is)
    (c.len-2.ensures.len ∙ sym (len_listed chan_total c.other.inside.states c.len-2.ensures.ordered) ∙ ap map.len c.other.view_is) c.if-len.false
