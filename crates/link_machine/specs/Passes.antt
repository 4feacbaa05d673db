-- What all channels of a site are told. Ours, of no standard.
use Rattle.std.specs.Prelude.{ℕ, Bool, ◌==◌, ◌&&◌, List, if◌then◌else◌}
use Rattle.channel_fsm.specs.declared.ChanId.{ChanId}
use Rattle.radio_book.specs.State.{State}
use Rattle.link_machine.specs.declared.calls.CallFacts.{CallFacts}
use Rattle.link_machine.specs.declared.channel.Channel.{Channel}
use Rattle.link_machine.specs.declared.moving.Moved.{Moved}
use Rattle.link_machine.specs.declared.pass.Pass.{Pass}
use Rattle.link_machine.specs.declared.pass.Pass.TheVariants.{Link, Turn}
use Rattle.link_machine.specs.Moving.{still, linked, settled}

-- it is a channel of this TRX
abbrev pub is_of : ℕ → ℕ → ChanId → Bool
is_of cell trx x = (x.cell == cell) && (x.trx == trx)

-- what a channel does
abbrev pub passed : State → List CallFacts → Pass → Channel → Moved
passed b calls (Link cell trx is_up) c = if is_of cell trx c.chan then linked b calls is_up c else still c
passed b calls (Turn turn) c = settled b calls turn c
