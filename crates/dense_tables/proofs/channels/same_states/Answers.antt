use borrow.Author.Count.{below_more}
use Rattle.std.proofs.Common.{◌≡◌, sym, ap, ◌∙◌}
use Rattle.std.specs.FinMap as map
use Rattle.dense_tables.specs.Channels.{channel_at}
use Rattle.dense_tables.proofs.channels.same_states.Goals as goal

pub loop-number-preserved : goal.loop-number-preserved
loop-number-preserved g c =
    let one = c.args.one.now.states in
    let other = c.args.other.now.states in
    below_more (λ k. map.get one (channel_at k) ≡ map.get other (channel_at k)) c.loop-number.number c.loop-number.invariant
    (sym (ap (map.get one) c.channel_at-x.ensures) ∙ sym c.get.ensures.value ∙ c.same_busy.ensures.0 c.if-not-same_busy.false ∙ c.get-in-loop-number.ensures.value
    ∙ ap (map.get other) c.channel_at-x.ensures)
