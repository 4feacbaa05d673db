use Rattle.radio_book.proofs.OwedRows.{refused_events_change_nothing}
use Rattle.radio_book.proofs.laws.refused_events_change_nothing.Goals as goal

pub returns : goal.returns
returns c = record { nothing = refused_events_change_nothing }
