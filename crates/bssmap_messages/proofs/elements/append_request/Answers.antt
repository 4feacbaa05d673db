use Rattle.std.proofs.Common.{◌∷◌, [], ◌++◌, ◌∙◌, refl, arith}
use Rattle.octet_elements.specs.Elements.{all_octets}
use Rattle.bssmap_messages.specs.Forms.{interface_a}
use Rattle.bssmap_messages.specs.Messages.{handover_request}
use Rattle.bssmap_messages.specs.Values.{cell_value, classmark_element}
use Rattle.bssmap_messages.proofs.Lengths.{request_length, classmark_fits, five_appended}
use Rattle.bssmap_messages.proofs.elements.append_request.Goals as goal

pub append_element-requires-clause-fits : goal.append_element-requires-clause-fits
unfolding handover_request
append_element-requires-clause-fits g c =
    let long = request_length c.args.channel.now c.args.encryption.now c.args.classmark.now c.args.serving c.args.target _ _ c.as_slice.ensures.octets refl in
    omega arith

pub append_element-requires-clause-room : goal.append_element-requires-clause-room
unfolding handover_request
append_element-requires-clause-room g c =
    let long = request_length c.args.channel.now c.args.encryption.now c.args.classmark.now c.args.serving c.args.target _ _ c.as_slice.ensures.octets refl in
    omega arith

pub append_element-requires-2-clause-fits : goal.append_element-requires-2-clause-fits
unfolding handover_request
append_element-requires-2-clause-fits g c =
    let long = request_length c.args.channel.now c.args.encryption.now c.args.classmark.now c.args.serving c.args.target _ _ c.as_slice.ensures.octets c.as_slice-2.ensures.octets in
    omega arith

pub append_element-requires-2-clause-room : goal.append_element-requires-2-clause-room
unfolding handover_request
append_element-requires-2-clause-room g c =
    let long = request_length c.args.channel.now c.args.encryption.now c.args.classmark.now c.args.serving c.args.target _ _ c.as_slice.ensures.octets c.as_slice-2.ensures.octets in
    omega arith

pub append_classmark-requires-clause-fits : goal.append_classmark-requires-clause-fits
unfolding handover_request
append_classmark-requires-clause-fits g c =
    let long = request_length c.args.channel.now c.args.encryption.now c.args.classmark.now c.args.serving c.args.target _ _ c.as_slice.ensures.octets c.as_slice-2.ensures.octets in
    classmark_fits c.args.classmark.now (omega arith)

pub append_classmark-requires-clause-room : goal.append_classmark-requires-clause-room
unfolding handover_request
append_classmark-requires-clause-room g c =
    let long = request_length c.args.channel.now c.args.encryption.now c.args.classmark.now c.args.serving c.args.target _ _ c.as_slice.ensures.octets c.as_slice-2.ensures.octets in
    omega arith

pub append_cell-requires : goal.append_cell-requires
unfolding handover_request
append_cell-requires g c =
    let long = request_length c.args.channel.now c.args.encryption.now c.args.classmark.now c.args.serving c.args.target _ _ c.as_slice.ensures.octets c.as_slice-2.ensures.octets in
    omega arith

pub append_cell-requires-2 : goal.append_cell-requires-2
unfolding handover_request
append_cell-requires-2 g c =
    let long = request_length c.args.channel.now c.args.encryption.now c.args.classmark.now c.args.serving c.args.target _ _ c.as_slice.ensures.octets c.as_slice-2.ensures.octets in
    omega arith

pub returns : goal.returns
unfolding handover_request
returns g c =
    let long = request_length c.args.channel.now c.args.encryption.now c.args.classmark.now c.args.serving c.args.target _ _ c.as_slice.ensures.octets c.as_slice-2.ensures.octets in
    record {
      items = five_appended _ _ _ _ _ _ _ _ _ _ _ c.append_element.ensures.items c.append_element-2.ensures.items c.append_classmark.ensures.items c.append_cell.ensures.items c.append_cell-2.ensures.items ∙
          (λ i. c.args.out.now.items ++ all_octets interface_a ((0x0B, c.as_slice.ensures.octets i) ∷ (0x0A, c.as_slice-2.ensures.octets i) ∷ classmark_element c.args.classmark.now ∷ (0x05, cell_value c.args.serving) ∷ (0x05, cell_value c.args.target) ∷ []));
      len = omega arith;
      capacity = omega arith;
    }
