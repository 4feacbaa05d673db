-- By what order the tables keep channels and references, and how each is written as numbers. Ours, of no standard.
use Rattle.std.specs.Prelude.{◌≡◌, ◌+◌, ◌*◌, ◌<◌, ℕ}
use Rattle.channel_fsm.specs.declared.ChanId.{ChanId}
use Rattle.timeslots.specs.Parts.{sub_number}
pub use Rattle.channel_fsm.specs.Keys.{same_chan}
pub use Rattle.dense_tables.specs.Keys.{chan_cmp, coded_chan, reference_cmp, coded_reference}

-- the number of a channel, in whose order channels stand: a cell has fewer than 256 TRX, a TRX fewer timeslots, and a timeslot
-- three parts
pub record IsNumberOf (n : ℕ) (x : ChanId) : Type 0 where
  pub number : n ≡ ((x.cell * 256 + x.trx) * 256 + x.tn) * 3 + sub_number x.sub
  pub trx : x.trx < 256
  pub tn : x.tn < 256
