use Rattle.octet_elements.proofs.Notes.{nothing_noted}
use Rattle.octet_elements.proofs.found.Found.new.Goals as goal

pub returns : goal.returns
returns g c = record { nothing = nothing_noted g.T.ElementTable.known }
