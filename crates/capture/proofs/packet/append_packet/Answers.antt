use Rattle.std.proofs.Common.{rules, ◌≡◌, append_assoc, arith}
use Rattle.octet_elements.specs.Writing.{HasRoom, Adds}
use Rattle.capture.specs.Packet.{packet}
use Rattle.capture.proofs.packet.append_packet.Goals as goal

pub returns : goal.returns
unfolding packet
returns g c = record {
  packet = record {
    items =
        rw (c.append_octets-4.ensures.items, c.append_octets-3.ensures.items, c.append_octets-2.ensures.items, c.append_octets.ensures.items, c.packet_header.ensures, c.internet_header.ensures.header, c.stream_header.ensures.header)
        (simp append_assoc);
    len = search rules;
    capacity = search rules;
  };
}
