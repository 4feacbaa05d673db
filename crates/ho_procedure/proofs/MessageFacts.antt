-- How long the messages on A are.
use Rattle.std.proofs.Common.{◌≡◌, ℕ, ◌+◌, ◌≤◌, List, [], ◌∷◌, length, length-append, true, Option, Some, None, arith}
use Rattle.bssmap_messages.specs.declared.message.CellId.{CellId}
use Rattle.bssmap_messages.specs.declared.message.Bssmap.TheVariants.{HandoverRequired, HandoverRequestAck, HandoverComplete, HandoverFailure, HandoverPerformed, ClearRequest}
use Rattle.bssmap_messages.specs.Messages.{handover_required, layer_3_alone, handover_complete, handover_failure, handover_performed, cause_alone}
use Rattle.bssmap_messages.specs.Texts.{canonical_text}
use Rattle.ho_procedure.specs.Owed.{longest}

pub short_clear_request : (A : Type 0) (cause : ℕ) → length (canonical_text {A = A} (ClearRequest cause)) ≤ longest
unfolding cause_alone
short_clear_request A cause = omega arith

pub short_complete : (A : Type 0) (rr : ℕ) → length (canonical_text {A = A} (HandoverComplete (Some rr))) ≤ longest
unfolding handover_complete
short_complete A rr = omega arith

pub short_failure : (A : Type 0) (cause : ℕ) (rr : Option ℕ) → length (canonical_text {A = A} (HandoverFailure cause rr)) ≤ longest
unfolding handover_failure
short_failure A cause None = omega arith
short_failure A cause (Some rr) = omega arith

pub short_performed : (A : Type 0) (cause : ℕ) (cell : CellId) → length (canonical_text {A = A} (HandoverPerformed cause cell)) ≤ longest
unfolding handover_performed
short_performed A cause cell = omega arith

pub request_ack_length : (A : Type 0) (layer3 : List ℕ) → length (canonical_text {A = A} (HandoverRequestAck layer3)) ≡ 5 + length layer3
unfolding layer_3_alone
request_ack_length A layer3 = simp length-append (omega arith)

pub required_length : (A : Type 0) (cause : ℕ) (cell : CellId) → length (canonical_text {A = A} (HandoverRequired cause true (cell ∷ []))) ≡ 14
unfolding handover_required
required_length A cause cell = omega arith
