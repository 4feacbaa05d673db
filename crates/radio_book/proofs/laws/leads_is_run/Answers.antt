use Rattle.radio_book.proofs.Runs.{leads_is_run}
use Rattle.radio_book.proofs.laws.leads_is_run.Goals as goal

pub returns : goal.returns
returns c = record { run = leads_is_run }
