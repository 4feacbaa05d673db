-- How a channel is written. Ours, of no standard.
use Rattle.std.specs.Prelude.{ℕ, List, ◌++◌, codes}
use Rattle.std.specs.Fmt.{decimal}
use Rattle.timeslots.specs.declared.Sub.{Sub}
use Rattle.timeslots.specs.declared.Sub.TheVariants.{Full, Half0, Half1}
use Rattle.channel_fsm.specs.declared.ChanId.{ChanId}

-- a timeslot in decimal digits; behind it `/0` or `/1` for a half
abbrev pub timeslot_text : ℕ → Sub → List ℕ
timeslot_text tn Full = decimal tn
timeslot_text tn Half0 = decimal tn ++ codes "/0"
timeslot_text tn Half1 = decimal tn ++ codes "/1"

-- `cell/trx/tn`, in decimal digits; behind it `/0` or `/1` for a half
abbrev pub chan_text : ChanId → List ℕ
chan_text x = decimal x.cell ++ (codes "/" ++ (decimal x.trx ++ (codes "/" ++ timeslot_text x.tn x.sub)))
