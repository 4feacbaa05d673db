use Rattle.std.proofs.Common.{rules, arith, ◌+◌, ◌≤◌, ◌∷◌, [], true, length, vec_len, vec_capacity}
use Rattle.bssmap_messages.specs.declared.message.Bssmap.TheVariants.{HandoverRequired}
use Rattle.bssmap_messages.specs.Texts.{canonical_text}
use Rattle.ho_procedure.proofs.MessageFacts.{required_length}
use Rattle.ho_procedure.proofs.texts.write_required.Goals as goal

pub unreachable-requires : goal.unreachable-requires
unreachable-requires g c =
    let count = required_length Unit c.args.cause c.args.cell in
    let fits : vec_len c.args.text.now + length (canonical_text {A = Unit} (HandoverRequired c.args.cause true (c.args.cell ∷ []))) ≤ vec_capacity c.args.text.now = omega (arith, count, c.requires.spare.len, c.requires.spare.capacity) in
    search (rules, c.encode_required_into.ensures.appends.room fits)
