use Rattle.std.proofs.Common.{Err, ap, ◌∙◌, inl}
use Rattle.ho_procedure.specs.Sent.{all_sent}
use Rattle.radio_desk.specs.Receipts.{receipted}
use Rattle.call_worker.proofs.Handling.{took_none, took_memory}
use Rattle.call_worker.proofs.worker.answer.Goals as goal

pub returns-in-Err-Undecoded-clause-took : goal.returns-in-Err-Undecoded-clause-took
returns-in-Err-Undecoded-clause-took g c =
    let w = c.in-Err-Undecoded in
    let s = rw w.field-0-is at w.ensures.stops in
    took_none receipted (λ _ _ _. Unit {0}) _ _ _ _ _ _ _ s.0 s.1 (ap (λ l. all_sent l) c.new.ensures.items) (inl (w.field-0-0, w.field-0-1, c.handle.ensures.undecoded _ _ (w.is ∙ ap Err w.field-0-is)))

pub returns-in-Err-NoMemory-clause-took : goal.returns-in-Err-NoMemory-clause-took
returns-in-Err-NoMemory-clause-took g c =
    let w = c.in-Err-NoMemory in
    let s = rw w.field-0-is at w.ensures.stops in
    took_memory receipted (λ _ _ _. Unit {0}) _ _ _ _ _ _ _ s
