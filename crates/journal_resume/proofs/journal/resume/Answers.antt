use Rattle.std.proofs.Common.{sym, subst}
use Rattle.std.proofs.lemmas.Result.{IfOk-weaker, IfErr-weaker}
use Rattle.radio_book.specs.State.{empty_book}
use Rattle.journal_records.specs.Records.{BeginsWith}
use Rattle.journal_resume.specs.Refusals.{IsNextReason}
use Rattle.journal_resume.proofs.Steps.{whole_journal, uncut_front}
use Rattle.journal_resume.proofs.Refused.{handed_on, kind_reason, head_reason, record_reason, reason_at_head, reason_behind_head, file_reason}
use Rattle.journal_resume.proofs.journal.resume.Goals as goal

pub returns-in-Err-clause-reason : goal.returns-in-Err-clause-reason
returns-in-Err-clause-reason g c =
    kind_reason c.behind_first_line.result c.in-Err.fault c.args.site_sum c.args.site.value c.args.number c.args.octets.now c.in-Err.is
    c.behind_first_line.ensures.other.0 c.behind_first_line.ensures.version.0

pub returns-in_err-head-clause-reason : goal.returns-in_err-head-clause-reason
returns-in_err-head-clause-reason g c =
    let why = c.in_err-head.field-0.0 in
    handed_on c.from_residual.result why _ c.from_residual.ensures.1
    (head_reason why c.args.site_sum c.args.site.value c.args.number c.args.octets.now c.in-Ok.records.now c.in-Ok.ensures.line c.in_err-head.ensures.reason)

pub returns-in_err-opening-clause-reason : goal.returns-in_err-opening-clause-reason
returns-in_err-opening-clause-reason g c =
    let why = c.in_err-opening.field-0.0 in
    let records = c.in-Ok.records.now in
    let head = c.in_ok-head.head in
    let number = c.in_ok-head.ensures.number in
    let begins = subst (λ k. BeginsWith records k head.body.now head.behind.now) (sym number) c.in_ok-head.ensures.head in
    let next = record_reason why (empty_book c.args.site.value) head.number head.number records head.body.now head.behind.now begins c.in_err-opening.ensures.reason in
    handed_on c.from_residual-in_err-opening.result why _ c.from_residual-in_err-opening.ensures.1
    (file_reason why c.args.site_sum c.args.site.value c.args.number c.args.octets.now records c.in-Ok.ensures.line
    (reason_at_head why (empty_book c.args.site.value) c.args.number records (subst (λ k. IsNextReason why (empty_book c.args.site.value) k records) number next)))

pub returns : goal.returns
returns g c =
    let records = c.in-Ok.records.now in
    let head = c.in_ok-head.head in
    record {
      journal = IfOk-weaker c.follow_records.result _ _
          (λ r resumed. whole_journal c.args.site_sum c.args.site.value c.args.octets.now records head.behind.now c.args.number head.body.now
          c.in_ok-opening.opening r.book r.last r.left.now c.in-Ok.ensures.line c.in_ok-head.ensures.head
          (c.in_ok-is_of_site.ensures.0 c.if-not-branch.false) c.in_ok-opening.ensures.book c.in_ok-opening.ensures.readable c.in_ok-opening.ensures.replies resumed)
          c.follow_records.ensures.resumed;
      whole = IfOk-weaker c.follow_records.result _ _
          (λ r resumed. uncut_front c.args.site_sum c.args.site.value c.args.number c.args.octets.now r.book r.last r.left.now
          (whole_journal c.args.site_sum c.args.site.value c.args.octets.now records head.behind.now c.args.number head.body.now
          c.in_ok-opening.opening r.book r.last r.left.now c.in-Ok.ensures.line c.in_ok-head.ensures.head
          (c.in_ok-is_of_site.ensures.0 c.if-not-branch.false) c.in_ok-opening.ensures.book c.in_ok-opening.ensures.readable c.in_ok-opening.ensures.replies resumed))
          c.follow_records.ensures.resumed;
      reason = IfErr-weaker c.follow_records.result _ _
          (λ why behind. file_reason why c.args.site_sum c.args.site.value c.args.number c.args.octets.now records c.in-Ok.ensures.line
          (reason_behind_head why (empty_book c.args.site.value) c.in_ok-opening.opening c.args.number records head.body.now head.behind.now c.in_ok-head.ensures.head
          c.in_ok-opening.ensures.book c.in_ok-opening.ensures.readable c.in_ok-opening.ensures.replies behind))
          c.follow_records.ensures.reason;
    }
