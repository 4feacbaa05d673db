use Rattle.std.proofs.Common.{◌≡◌, ◌++◌, inr, drop, length, sym, ◌∙◌, ap, subst, IsOkAnd, arith}
use Rattle.journal_records.specs.Checksum.{checksum}
use Rattle.journal_records.proofs.Heads.{one_head, head_of_record, record_is_long, body_is_cut}
use Rattle.journal_records.proofs.record.first_record.Goals as goal

pub returns-then-octets-lt-HEAD-clause-whole : goal.returns-then-octets-lt-HEAD-clause-whole
returns-then-octets-lt-HEAD-clause-whole c = λ n body behind begins.
    omega (arith, record_is_long c.args.octets.now n body behind begins, c.if-octets-lt-HEAD.true)

pub returns-in_default-clause-whole : goal.returns-in_default-clause-whole
returns-in_default-clause-whole c = λ n body behind begins.
    c.in_default.ensures n (length body) (checksum body) (body ++ behind) (head_of_record c.args.octets.now n body behind begins)

pub returns-clause-whole : goal.returns-clause-whole
returns-clause-whole c = λ n body behind begins.
    let octets = c.args.octets.now in
    let h = c.in-Some.head in
    let one = one_head octets n (length body) (checksum body) (body ++ behind) h.number h.size h.sum (drop 67 octets) (head_of_record octets n body behind begins) c.in-Some.ensures in
    let got = c.body_at.ensures.whole body behind (record { text = c.split_at.ensures.back ∙ sym one.3; has_size = one.1; has_sum = one.2 }) in
    subst (λ k. IsOkAnd c.body_at.result (λ r. (r.number ≡ k) × (r.body.now ≡ body) × (r.behind.now ≡ behind))) (sym one.0) got

pub returns-clause-cut : goal.returns-clause-cut
returns-clause-cut c =
    let octets = c.args.octets.now in
    let h = c.in-Some.head in
    let back = ap length c.split_at.ensures.back in (
      λ is. inr (h.number, h.size, h.sum, drop 67 octets, c.in-Some.ensures, omega (arith, c.body_at.ensures.cut.0 is, back)),
      λ cut. c.body_at.ensures.cut.1 (omega (arith, body_is_cut octets h.number h.size h.sum (omega (arith, c.if-octets-lt-HEAD.false)) c.in-Some.ensures cut, back)),
    )
