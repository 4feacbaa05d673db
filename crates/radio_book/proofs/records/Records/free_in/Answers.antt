use Rattle.radio_book.proofs.records.Records.free_in.Goals as goal

pub returns-clause-count : goal.returns-clause-count
returns-clause-count g c = rw (← c.self.view_is) c.free_in.ensures.count
