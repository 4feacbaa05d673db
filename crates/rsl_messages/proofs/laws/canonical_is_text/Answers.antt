use Rattle.rsl_messages.proofs.Written.{canonical_of, writable_of}
use Rattle.rsl_messages.proofs.laws.canonical_is_text.Goals as goal

pub returns : goal.returns
returns g c = record { text = λ v. (λ h. canonical_of v h.0 h.1, λ h. writable_of v h) }
