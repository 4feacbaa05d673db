use Rattle.std.proofs.Common.{◌∙◌, sym}
use Rattle.radio_book.proofs.RecordFacts.{stepped_sound}
use Rattle.radio_book.proofs.RunBack.{undone}
use Rattle.radio_book.proofs.book.Book.step.Goals as goal

pub invariant_of-self : goal.invariant_of-self
invariant_of-self g c =
    stepped_sound c.step.result c.self.inside.records c.step.new.self c.args.event c.self.invariant c.step.ensures.book c.step.ensures.unchanged

pub returns-clause-inverses : goal.returns-clause-inverses
returns-clause-inverses g c call why shown state is answered =
    let reply = rw (answered, is) at c.step.ensures.reply in
    let book = rw (answered, is) at c.step.ensures.book in
    rw (← c.self.view_is) (book ∙ undone call why shown state c.self.inside.records c.self.invariant (sym reply))
