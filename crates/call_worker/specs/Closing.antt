-- What a closed office leaves. Ours, of no standard.
use Rattle.std.specs.Prelude.{◌≡◌, ◌≢◌, ℕ, List, [], ◌∷◌, ◌++◌}
use Rattle.std.specs.List.{flat_map}
use Rattle.radio_book.specs.State.{State}
use Rattle.radio_book.specs.Run.{Leads}
use Rattle.radio_desk.specs.Receipts.{Receipt, IsRising}
use Rattle.radio_desk.specs.Desk.{DeskState}
use Rattle.ho_procedure.specs.Sent.{Sent}
use Rattle.receipt_check.specs.declared.CloseFault.{CloseFault}
use Rattle.receipt_check.specs.declared.CloseFault.TheVariants.{Missing, Twice, Count, Opening, NoMemory}
use Rattle.receipt_check.specs.Gathering.{Gathers, IsGatherFault}
use Rattle.call_worker.specs.declared.posted.WorkerEnd.{WorkerEnd}
use Rattle.call_worker.specs.declared.office.Unclosed.{Unclosed}
use Rattle.call_worker.specs.States.{WorkerState, OfficeState}
use Rattle.call_worker.specs.Ending.{IsEnd}

-- each worker of the office has its end, in their order
abbrev pub AreEnds : {L A : Type 0} → (L → List Sent) → (L → ℕ) → List (WorkerState L A) → List (WorkerEnd L A) → Type 0
AreEnds passed refused [] [] = Unit {0}
AreEnds passed refused [] (e ∷ es) = ⊥
AreEnds passed refused (w ∷ ws) [] = ⊥
AreEnds passed refused (w ∷ ws) (e ∷ es) = IsEnd passed refused w e × AreEnds passed refused ws es

-- why this desk, with these receipts, isn't that of an office which opened with the book
abbrev pub IsCloseFault : State → DeskState → List Receipt → CloseFault → Type 0
IsCloseFault opening d all (Missing r) = IsGatherFault d.history all (Missing r)
IsCloseFault opening d all (Twice place) = IsGatherFault d.history all (Twice place)
IsCloseFault opening d all Count = IsGatherFault d.history all Count
IsCloseFault opening d all Opening = Gathers d.history all × (d.opening ≢ opening)
IsCloseFault opening d all NoMemory = IsGatherFault d.history all NoMemory

-- Why an office doesn't close: what is handed out are a desk, the office's receipts and the ends of its workers, and of these
-- something isn't so.
pub record ClosesNot {L A : Type 0} (passed : L → List Sent) (refused : L → ℕ) (office : OfficeState L A) (unclosed : Unclosed L A) : Type 0 where
  pub legal : Leads unclosed.left.desk.opening unclosed.left.desk.history unclosed.left.desk.book
  pub front : unclosed.left.front.items ≡ office.front
  pub rising : IsRising unclosed.left.front.items
  pub workers : AreEnds passed refused office.workers unclosed.left.workers.items
  pub why : IsCloseFault office.opening unclosed.left.desk (unclosed.left.front.items ++ flat_map (λ worker. worker.receipts.items) unclosed.left.workers.items) unclosed.fault
