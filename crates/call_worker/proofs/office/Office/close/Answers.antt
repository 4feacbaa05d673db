use Rattle.std.proofs.Common.{ap, ◌∙◌}
use Rattle.call_worker.proofs.office.Office.close.Goals as goal

pub returns-clause-fault : goal.returns-clause-fault
returns-clause-fault g c = record {
  legal = c.len-entries.ensures.legal;
  front = c.into_receipts-front.ensures.receipts ∙ ap (λ y. y.front) c.self.view_is;
  rising = c.into_receipts-front.ensures.rising;
  workers = rw (ap (λ y. y.workers) c.self.view_is) at c.close_all-workers.ensures;
  why = rw (c.as_slice.ensures.value, c.as_slice-2.ensures.value, ap (λ y. y.opening) c.self.view_is) at c.in-Err.ensures;
}
