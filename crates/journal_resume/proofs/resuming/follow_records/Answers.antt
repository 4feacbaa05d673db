use Rattle.std.proofs.Common.{◌≡◌, ◌+◌, ◌^◌, inr, refl, arith}
use Rattle.std.proofs.lemmas.Grind.{common_steps}
use Rattle.journal_resume.proofs.Steps.{none_yet, read_more, one_more}
use Rattle.journal_resume.proofs.Refused.{handed_on, record_reason, reason_so_far, no_number_behind}
use Rattle.journal_resume.proofs.resuming.follow_records.Goals as goal

pub returns-in_default-clause-reason : goal.returns-in_default-clause-reason
returns-in_default-clause-reason g c =
    let highest : c.args.number + 1 ≡ 2 ^ 64 = grind (arith, common_steps) in
    no_number_behind c.args.opening c.args.number c.args.octets.now highest

pub loop-next-init : goal.loop-next-init
loop-next-init g c = record { so_far = none_yet c.args.opening c.args.number c.args.octets.now; next = grind (arith, common_steps) }

pub loop-next-preserved : goal.loop-next-preserved
loop-next-preserved g c =
    let left = c.loop-next.resumed.left.now in
    let taken = c.in-Some-2.taken in
    let begins = rw c.in-Some-2.is at c.in_ok-taken.ensures.next in
    record {
      so_far =
          one_more c.args.opening c.args.number c.args.octets.now c.loop-next.resumed.book c.loop-next.resumed.last left
          c.loop-next.next taken.body.now taken.behind.now c.take_record.new.book
          c.loop-next.invariant.so_far
          (read_more left taken.number c.loop-next.next taken.body.now taken.behind.now begins c.in_ok-take_record.ensures.number)
          c.loop-next.invariant.next c.in_ok-take_record.ensures.readable c.in_ok-take_record.ensures.book c.in_ok-take_record.ensures.replies;
      next = refl;
    }

pub returns-in_err-taken-clause-reason : goal.returns-in_err-taken-clause-reason
returns-in_err-taken-clause-reason g c =
    let so_far = c.loop-next.resumed in
    let why = c.in_err-taken.field-0.0 in
    handed_on c.from_residual.result why _ c.from_residual.ensures.1
    (reason_so_far why c.args.opening c.args.number c.args.octets.now so_far.book so_far.last c.loop-next.next so_far.left.now
    c.loop-next.invariant.so_far c.loop-next.invariant.next (c.in_err-taken.ensures.reason so_far.book))

pub returns-in_err-take_record-clause-reason : goal.returns-in_err-take_record-clause-reason
returns-in_err-take_record-clause-reason g c =
    let so_far = c.loop-next.resumed in
    let taken = c.in-Some-2.taken in
    let why = c.in_err-take_record.field-0.0 in
    let begins = rw c.in-Some-2.is at c.in_ok-taken.ensures.next in
    handed_on c.from_residual-in_err-take_record.result why _ c.from_residual-in_err-take_record.ensures.1
    (reason_so_far why c.args.opening c.args.number c.args.octets.now so_far.book so_far.last c.loop-next.next so_far.left.now
    c.loop-next.invariant.so_far c.loop-next.invariant.next
    (record_reason why so_far.book c.loop-next.next taken.number so_far.left.now taken.body.now taken.behind.now begins c.in_err-take_record.ensures.reason))

pub returns-clause-reason : goal.returns-clause-reason
returns-clause-reason g c =
    let so_far = c.loop-next.invariant.so_far in
    let last = so_far.last_number in
    (so_far.records, c.loop-next.resumed.left.now, so_far.text, so_far.taken, inr (refl, omega (arith, c.loop-next-test.false, c.loop-next.invariant.next, last)))
