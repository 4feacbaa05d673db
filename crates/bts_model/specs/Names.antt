-- How messages name channels: a timeslot, and which of its channels (TS 48.058 clause 9.3.1, TS 44.018 clause 10.5.2.5a).
use Rattle.std.specs.Prelude.{ℕ}
use Rattle.channel_fsm.specs.declared.ChanId.{ChanId}
use Rattle.rsl_messages.specs.declared.message.ChanBits.{ChanBits}
use Rattle.bts_model.specs.declared.place.Place.{Place}

-- how a message names a channel on its TRX
abbrev pub bits_of : ChanId → ChanBits
bits_of x = record { tn = x.tn; sub = x.sub }

-- the channel of a TRX of a cell of a controller that a message names
abbrev pub place_in : ℕ → ℕ → ℕ → ChanBits → Place
place_in k cell trx channel = record { controller = k; channel = record { cell = cell; trx = trx; tn = channel.tn; sub = channel.sub } }
