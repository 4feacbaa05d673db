use Rattle.std.proofs.Common.{◌≡◌, ◌++◌, ℕ, List, IfOk, OnOk, Result, Ok, Err, All, length}
use Rattle.std.specs.List.{flat_map}
use Rattle.radio_book.specs.Run.{Leads}
use Rattle.radio_desk.specs.Desk.{DeskState}
use Rattle.radio_desk.specs.Receipts.{Receipt}
use Rattle.receipt_check.specs.Gathering.{StandsAt}
use Rattle.ho_procedure.specs.Sent.{Sent}
use Rattle.call_worker.specs.declared.posted.WorkerEnd.{WorkerEnd}
use Rattle.call_worker.specs.States.{OfficeState}
use Rattle.call_worker.specs.Closing.{AreEnds}
use Rattle.storms.specs.declared.outcome.Figures.{Figures}
use Rattle.storms.specs.declared.outcome.StormFault.{StormFault}
use Rattle.storms.specs.Outcomes.{AreOf, DidAll}
use Rattle.storms.specs.Openings.{AreLeftBy}
use Rattle.storms.proofs.Openings.{office_asks}
use Rattle.storms.proofs.front.Front.close.Goals as goal

-- what is told of the desk of an office
told : {L A : Type 0} (passed : L → List Sent) (refused : L → ℕ) (office : OfficeState L A) (d : DeskState) (front : List Receipt) (ends : List (WorkerEnd L A)) (r : Result Figures StormFault)
    → d.opening ≡ office.opening → Leads d.opening d.history d.book → AreEnds passed refused office.workers ends → StandsAt d.history (front ++ flat_map (λ e. e.receipts.items) ends) (length (front ++ flat_map (λ e. e.receipts.items) ends))
    → OnOk r (All (DidAll refused) ends) → IfOk r (λ figures. AreOf d figures) → IfOk r (λ figures. AreLeftBy office figures)
told passed refused office d front ends (Ok figures) opens legal are stand did of = record { desk = d; opens = opens; legal = legal; asked = office_asks passed refused office ends d.history front are did stand; told = of }
told passed refused office d front ends (Err fault) opens legal are stand did of = tt

pub returns : goal.returns
returns g c =
    let closed = c.in_ok-closed.ensures in record {
      figures = told _ _ c.args.self.office c.in_ok-closed.closed.desk c.in_ok-closed.closed.front.items c.in_ok-closed.closed.workers.items c.figures_of.result closed.opening closed.legal closed.workers closed.receipts.stand c.figures_of.ensures.done c.figures_of.ensures.figures;
    }
