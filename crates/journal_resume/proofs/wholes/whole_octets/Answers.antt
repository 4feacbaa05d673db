use Rattle.std.proofs.Common.{refl}
use Rattle.journal_resume.proofs.Fronts.{left_within, whole_front, whole_reason}
use Rattle.journal_resume.proofs.wholes.whole_octets.Goals as goal

pub overflow_sub-place : goal.overflow_sub-place
overflow_sub-place c =
    let all = c.behind_records-left.ensures in
    left_within all.0 c.args.octets.now c.in-Ok.records.now c.behind_records-left.result.now c.in-Ok.ensures.line all.1

pub returns-then-is_end-clause-whole : goal.returns-then-is_end-clause-whole
returns-then-is_end-clause-whole c =
    let all = c.behind_records-left.ensures in
    whole_front all.0 c.args.octets.now c.in-Ok.records.now c.behind_records-left.result.now c.split_at.result.0.now c.in-Ok.ensures.line all.1
    (c.is_end.ensures.0 c.if-is_end.true) c.split_at.ensures.front

pub returns-else-is_end-clause-reason : goal.returns-else-is_end-clause-reason
returns-else-is_end-clause-reason c =
    let all = c.behind_records-left.ensures in
    let no = c.if-is_end.false in
    whole_reason all.0 c.args.octets.now c.in-Ok.records.now c.behind_records-left.result.now _ c.in-Ok.ensures.line all.1
    (λ end. let yes = c.is_end.ensures.1 end in cc) refl
