-- When two channels are one, by what order they stand in a map, and how each is written as numbers. Ours, of no standard.
use Rattle.std.specs.Prelude.{◌≡◌, ◌↔◌, ◌==◌, ◌&&◌, ℕ, Bool, IsTrue}
use Rattle.std.specs.declared.cmp.Ordering.{Ordering}
use Rattle.std.specs.Ordering.{nat_cmp, ordering_then}
use Rattle.std.specs.Cmp.{IsTotalOrder}
use Rattle.std.specs.Coded.{Coded}
use Rattle.std.specs.FinMap.{IsAntisymmetric}
use Rattle.timeslots.specs.Parts.{sub_number}
use Rattle.channel_fsm.specs.declared.ChanId.{ChanId}
use Rattle.channel_fsm.specs.contracts.ChanId.{the_row as chan_row}

-- the channels are one
abbrev pub same_chan : ChanId → ChanId → Bool
same_chan a b = (a.cell == b.cell) && ((a.trx == b.trx) && ((a.tn == b.tn) && (sub_number a.sub == sub_number b.sub)))

-- channels stand by cell, then TRX, then timeslot, then the whole timeslot before its halves
abbrev pub chan_cmp : ChanId → ChanId → Ordering
chan_cmp a b =
    ordering_then (nat_cmp a.cell b.cell)
    (ordering_then (nat_cmp a.trx b.trx) (ordering_then (nat_cmp a.tn b.tn) (nat_cmp (sub_number a.sub) (sub_number b.sub))))

abbrev pub coded_chan : Coded ChanId
coded_chan = chan_row.coded

-- The test tells one channel.
abbrev pub SameChannelsAreEqual : Type 0
SameChannelsAreEqual = (a b : ChanId) → IsTrue (same_chan a b) ↔ (a ≡ b)

-- The order is total, and channels that tie are one.
abbrev pub OrderIsTotal : Type 0
OrderIsTotal = IsTotalOrder chan_cmp

abbrev pub TiedChannelsAreOne : Type 0
TiedChannelsAreOne = IsAntisymmetric chan_cmp
