use Rattle.std.proofs.Common.{◌∷◌, [], ◌++◌, ap, ◌∙◌, append_assoc}
use Rattle.octet_elements.specs.Elements.{all_octets, element_octets}
use Rattle.bssmap_messages.specs.Forms.{interface_a}
use Rattle.octet_elements.specs.Values.{where_some}
use Rattle.bssmap_messages.specs.Messages.{handover_failure, handover_performed}
use Rattle.bssmap_messages.specs.Values.{cell_value}
use Rattle.bssmap_messages.proofs.elements.append_elements.Goals as goal

pub returns-in-HandoverRequest-clause-items : goal.returns-in-HandoverRequest-clause-items
returns-in-HandoverRequest-clause-items g c =
    let arm = c.in-HandoverRequest in
    rw arm.is c.append_request.ensures.items

pub returns-in-HandoverFailure-clause-items : goal.returns-in-HandoverFailure-clause-items
unfolding handover_failure
returns-in-HandoverFailure-clause-items g c =
    let arm = c.in-HandoverFailure in
    rw arm.is (c.append_optional_octet-in-HandoverFailure.ensures.items ∙ ap (λ x. x ++ all_octets interface_a (where_some 0x15 arm.rr)) c.append_octet.ensures.items ∙ append_assoc c.args.out.now.items (4 ∷ 1 ∷ arm.cause ∷ []) (all_octets interface_a (where_some 0x15 arm.rr)))

pub returns-in-HandoverPerformed-clause-items : goal.returns-in-HandoverPerformed-clause-items
unfolding handover_performed
returns-in-HandoverPerformed-clause-items g c =
    let arm = c.in-HandoverPerformed in
    rw arm.is (c.append_cell.ensures.items ∙ ap (λ x. x ++ element_octets interface_a (0x05, cell_value arm.cell)) c.append_octet-in-HandoverPerformed.ensures.items ∙ append_assoc c.args.out.now.items (4 ∷ 1 ∷ arm.cause ∷ []) (element_octets interface_a (0x05, cell_value arm.cell)))
