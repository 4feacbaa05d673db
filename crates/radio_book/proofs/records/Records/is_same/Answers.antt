use Rattle.radio_book.proofs.records.Records.is_same.Goals as goal

pub returns : goal.returns
returns g c = rw (← c.self.view_is, ← c.other.view_is) c.is_same.ensures.same
