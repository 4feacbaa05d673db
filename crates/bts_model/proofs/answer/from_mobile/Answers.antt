use Rattle.std.proofs.Common.{◌≡◌, length, length-append, [], ap, ◌∙◌, arith}
use Rattle.rr_messages.specs.Rr.{rr_text}
use Rattle.rsl_messages.proofs.Written.{canonical_of}
use Rattle.bts_model.proofs.answer.from_mobile.Goals as goal

pub returns-clause-canonical : goal.returns-clause-canonical
returns-clause-canonical g c =
    let said : c.from_vec.result ≡ rr_text c.args.message.now = c.from_vec.ensures.octets ∙ c.in_ok-octets.ensures.ok in
    let long : length c.from_vec.result ≡ length (rr_text c.args.message.now) = ap length said in
    let all = length-append c.from_vec.result [] in
    canonical_of _ (c.requires.channel, omega arith) (omega arith)
