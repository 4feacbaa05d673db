use Rattle.timeslots.specs.declared.Sub.TheVariants.{Full}
use Rattle.channel_fsm.specs.declared.ChanId.{ChanId}
use Rattle.radio_book.specs.State.{state_of}
use Rattle.opening_events.specs.Opening.{off_events}
use Rattle.opening_events.proofs.Parts.{one_more, no_more}
use Rattle.opening_events.proofs.listing.add_off.Goals as goal

abbrev none : ChanId
none = record { cell = 0; trx = 0; tn = 0; sub = Full }

pub loop-chan-preserved : goal.loop-chan-preserved
loop-chan-preserved g c =
    one_more (λ x. off_events x (state_of c.args.book.now x)) c.args.channels.now c.loop-chan.chan-index none c.loop-chan.events.items c.add_if_off.new.events.items _
    c.loop-chan-test.true c.in_ok-add_if_off.ensures c.loop-chan.invariant

pub returns : goal.returns
returns g c =
    no_more (λ x. off_events x (state_of c.args.book.now x)) c.args.channels.now c.loop-chan.chan-index c.loop-chan.events.items _ c.loop-chan-test.false c.loop-chan.invariant
