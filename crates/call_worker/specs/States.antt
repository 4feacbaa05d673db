-- What an office knows. Ours, of no standard.
use Rattle.std.specs.Prelude.{List, [], ◌∷◌, ◌++◌}
use Rattle.cell_table.specs.Site.{SiteView}
use Rattle.radio_book.specs.State.{State}
use Rattle.radio_desk.specs.Receipts.{Receipt}
use Rattle.exchange.specs.declared.Inbound.{Inbound}

-- a worker: its site, the inputs that it was given, in that order, and its links as they were at the start
pub record WorkerState (L A : Type 0) : Type 0 where
  pub site : SiteView
  pub given : List (Inbound A)
  pub links : L

-- one that was given nothing
abbrev pub new_worker : {L A : Type 0} → SiteView → L → WorkerState L A
new_worker site links = record { site = site; given = []; links = links }

-- one that was given one input more
abbrev pub with_input : {L A : Type 0} → Inbound A → WorkerState L A → WorkerState L A
with_input input worker = record { site = worker.site; given = worker.given ++ input ∷ []; links = worker.links }

-- an office: the book that its desk opened with, the receipts of its own seat, in their order, and its workers
pub record OfficeState (L A : Type 0) : Type 0 where
  pub opening : State
  pub front : List Receipt
  pub workers : List (WorkerState L A)
