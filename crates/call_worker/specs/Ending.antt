-- What a closed office says of each worker. Ours, of no standard.
use Rattle.std.specs.Prelude.{◌≡◌, ℕ, List, ◌++◌}
use Rattle.radio_desk.specs.Receipts.{IsRising, receipted}
use Rattle.exchange.specs.declared.Inbound.{Inbound}
use Rattle.ho_procedure.specs.Sent.{Sent}
use Rattle.call_worker.specs.declared.posted.WorkerEnd.{WorkerEnd}
use Rattle.call_worker.specs.States.{WorkerState}
use Rattle.call_worker.specs.Turns.{IsWork, inputs_of_turns}

-- `given` is what the office gave it, and what it took is the beginning of that. Its turns, from no reports on, make its
-- receipts, whose places rise; and its links passed on the messages of the turns since the start, or refused some.
pub record IsEnd {L A : Type 0} (passed : L → List Sent) (refused : L → ℕ) (worker : WorkerState L A) (e : WorkerEnd L A) : Type 0 where
  pub given : e.given.items ≡ worker.given
  pub taken : (rest : List (Inbound A)) × (worker.given ≡ inputs_of_turns e.taken.items ++ rest)
  pub work : IsWork worker.site (passed worker.links) e.taken.items (receipted e.receipts.items) (passed e.links) (refused e.links)
  pub rising : IsRising e.receipts.items
