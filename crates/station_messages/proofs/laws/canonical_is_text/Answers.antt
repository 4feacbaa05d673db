use Rattle.station_messages.proofs.Written.{canonical_of, writable_of}
use Rattle.station_messages.proofs.laws.canonical_is_text.Goals as goal

pub returns : goal.returns
returns c = record { text = λ v. (canonical_of v, writable_of v) }
