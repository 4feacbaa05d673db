use Rattle.std.proofs.Common.{◌≡◌, ℕ, length, arith, refl}
use Rattle.octet_elements.specs.Bits.{bits}
use Rattle.rr_elements.specs.RrCause.{cause_text}
use Rattle.rsl_messages.proofs.Written.{canonical_of}
use Rattle.bts_model.proofs.answer.message_of.Goals as goal

-- a cause is one octet
one_octet : (n : ℕ) → length (cause_text (record { 0 = n })) ≡ 1
unfolding bits
one_octet n = refl

pub from_mobile-requires-clause-short : goal.from_mobile-requires-clause-short
from_mobile-requires-clause-short g c = omega (arith, one_octet 0)

pub from_mobile-requires-in-Failure-clause-short : goal.from_mobile-requires-in-Failure-clause-short
from_mobile-requires-in-Failure-clause-short g c = omega (arith, one_octet 1)

pub returns-in-ActivationAck-clause-canonical : goal.returns-in-ActivationAck-clause-canonical
returns-in-ActivationAck-clause-canonical g c = canonical_of _ c.requires (omega arith)

pub returns-in-ActivationNack-clause-canonical : goal.returns-in-ActivationNack-clause-canonical
returns-in-ActivationNack-clause-canonical g c = canonical_of _ c.requires (omega arith)

pub returns-in-ReleaseAck-clause-canonical : goal.returns-in-ReleaseAck-clause-canonical
returns-in-ReleaseAck-clause-canonical g c = canonical_of _ c.requires (omega arith)

pub returns-in-Detection-clause-canonical : goal.returns-in-Detection-clause-canonical
returns-in-Detection-clause-canonical g c = canonical_of _ c.requires (omega arith)
