use Rattle.timeslots.specs.declared.Sub.TheVariants.{Full}
use Rattle.channel_fsm.specs.declared.ChanId.{ChanId}
use Rattle.opening_events.specs.Opening.{events_at}
use Rattle.opening_events.proofs.Parts.{one_more, no_more}
use Rattle.opening_events.proofs.calls.add_calls.Goals as goal

abbrev none : ChanId
none = record { cell = 0; trx = 0; tn = 0; sub = Full }

pub loop-chan-preserved : goal.loop-chan-preserved
loop-chan-preserved g c =
    one_more (events_at c.args.book.now) c.args.channels.now c.loop-chan.chan-index none c.loop-chan.events.items c.add_at.new.events.items _ c.loop-chan-test.true
    c.in_ok-add_at.ensures c.loop-chan.invariant

pub returns : goal.returns
returns g c = no_more (events_at c.args.book.now) c.args.channels.now c.loop-chan.chan-index c.loop-chan.events.items _ c.loop-chan-test.false c.loop-chan.invariant
