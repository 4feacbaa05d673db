use Rattle.std.proofs.Common.{rules, arith, ◌+◌, ◌≤◌, length, vec_len, vec_capacity}
use Rattle.bssmap_messages.specs.declared.message.Bssmap.TheVariants.{HandoverRequestAck}
use Rattle.bssmap_messages.specs.Texts.{canonical_text}
use Rattle.ho_procedure.proofs.MessageFacts.{request_ack_length}
use Rattle.ho_procedure.proofs.texts.write_request_ack.Goals as goal

pub unreachable-requires : goal.unreachable-requires
unreachable-requires g c =
    let count = request_ack_length Unit c.args.layer3.now in
    let fits : vec_len c.args.text.now + length (canonical_text {A = Unit} (HandoverRequestAck c.args.layer3.now)) ≤ vec_capacity c.args.text.now = omega (arith, count, c.requires.spare.len, c.requires.spare.capacity, c.requires.short) in
    search (rules, c.encode_request_ack_into.ensures.appends.room fits)
