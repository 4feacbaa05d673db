use Rattle.std.proofs.Common.{◌≡◌, length, ap, arith}
use Rattle.bssmap_messages.specs.Messages.{handover_request, handover_required}
use Rattle.bssmap_messages.proofs.Lengths.{request_length, required_length}
use Rattle.bssmap_messages.proofs.elements.elements_len.Goals as goal

pub returns-in-HandoverRequest : goal.returns-in-HandoverRequest
unfolding handover_request
returns-in-HandoverRequest g c =
    let arm = c.in-HandoverRequest in
    let long = request_length arm.channel arm.encryption arm.classmark arm.serving arm.target _ _ c.as_slice.ensures.octets c.as_slice-encryption.ensures.octets in
    rw arm.is (omega arith)

pub returns-in-HandoverRequired : goal.returns-in-HandoverRequired
unfolding handover_required
returns-in-HandoverRequired g c =
    let arm = c.in-HandoverRequired in
    let long = required_length arm.cause arm.response arm.cells in
    let cells : length c.as_slice-in-HandoverRequired.result.now ≡ length arm.cells = ap length c.as_slice-in-HandoverRequired.ensures.cells in
    let response = c.presence_len-response_len.ensures in
    rw arm.is (omega arith)
