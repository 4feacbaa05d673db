use Rattle.radio_book.proofs.RecordFacts.{stepped_sound}
use Rattle.book_tests.proofs.tests.both_tables.Sound.step.Goals as goal

pub invariant_of-self : goal.invariant_of-self
invariant_of-self g c =
    stepped_sound c.step.result c.self.inside.records c.step.new.self c.args.event c.self.invariant c.step.ensures.book c.step.ensures.unchanged
