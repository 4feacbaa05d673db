-- Every event of others agrees, whatever is gone.
use Rattle.radio_book.specs.declared.event.Event.{Event}
use Rattle.radio_book.specs.declared.event.Event.TheVariants as event
use Rattle.radio_book.proofs.Agreement.{AgreesWithOthers}
use Rattle.radio_book.proofs.OthersAttempts.{take_agrees, reserve_agrees, activate_agrees, undo_agrees}
use Rattle.radio_book.proofs.OthersCalls.{open_agrees, clear_agrees, look_agrees}
use Rattle.radio_book.proofs.OthersStations.{confirm_agrees, refuse_agrees, released_agrees, detect_agrees, owner_agrees}
use Rattle.radio_book.proofs.OthersHandover.{command_agrees, complete_agrees, require_agrees, order_agrees, left_agrees}

pub each_agrees : (e : Event) → AgreesWithOthers e
each_agrees (event.Open d y) = open_agrees d y
each_agrees (event.Clear d) = clear_agrees d
each_agrees (event.Look d) = look_agrees d
each_agrees (event.Take d kind y) = take_agrees d kind y
each_agrees (event.Reserve d n) = reserve_agrees d n
each_agrees (event.Activate d) = activate_agrees d
each_agrees (event.Undo d why) = undo_agrees d why
each_agrees (event.Confirm y) = confirm_agrees y
each_agrees (event.Refuse y) = refuse_agrees y
each_agrees (event.Released y) = released_agrees y
each_agrees (event.Command d) = command_agrees d
each_agrees (event.Complete d) = complete_agrees d
each_agrees (event.Detect y) = detect_agrees y
each_agrees (event.Owner y) = owner_agrees y
each_agrees (event.Require d) = require_agrees d
each_agrees (event.Order d) = order_agrees d
each_agrees (event.Left d) = left_agrees d
