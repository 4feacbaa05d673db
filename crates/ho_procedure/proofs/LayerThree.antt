-- The layer 3 information of a HANDOVER COMMAND that was read fits a DATA REQUEST.
use Rattle.std.proofs.Common.{ℕ, List, arith}
use Rattle.bssmap_messages.specs.declared.message.Bssmap.{Bssmap}
use Rattle.bssmap_messages.specs.declared.message.Bssmap.TheVariants.{HandoverRequest, HandoverRequired, HandoverRequestAck, HandoverCommand, HandoverComplete, HandoverFailure, HandoverPerformed, HandoverRequiredReject, HandoverDetect, ClearCommand, ClearComplete, ClearRequest}
use Rattle.bssmap_messages.specs.Texts.{IsTextOf}
use Rattle.bssmap_messages.proofs.LayerThree.{short_layer_3}
use Rattle.ho_procedure.specs.Following.{CanBePassedOn}

-- what was read for a mobile can be passed on
pub passed_on : {A : Type 0} (v : Bssmap A) (octets : List ℕ) → IsTextOf v octets → CanBePassedOn v
passed_on {A} (HandoverCommand layer3) octets h =
    let short = short_layer_3 {A = A} (HandoverCommand layer3) octets h in
    (short.0, omega arith)
passed_on (HandoverRequest channel encryption classmark serving target) octets h = tt
passed_on (HandoverRequired cause response cells) octets h = tt
passed_on (HandoverRequestAck layer3) octets h = tt
passed_on (HandoverComplete cause) octets h = tt
passed_on (HandoverFailure cause inner) octets h = tt
passed_on (HandoverPerformed cause cell) octets h = tt
passed_on (HandoverRequiredReject cause) octets h = tt
passed_on HandoverDetect octets h = tt
passed_on (ClearCommand cause) octets h = tt
passed_on ClearComplete octets h = tt
passed_on (ClearRequest cause) octets h = tt
