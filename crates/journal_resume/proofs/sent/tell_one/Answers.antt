use Rattle.std.proofs.Common.{sym, subst, ap, ◌∙◌}
use Rattle.std.specs.Io.KnownBytes.{Appends}
use Rattle.std.proofs.KnownBytes.{Appends-nil}
use Rattle.std.proofs.lemmas.Result.{on_ok_weaker}
use Rattle.journal_resume.specs.Wholes.{told_lines}
use Rattle.journal_resume.proofs.Fronts.{text_told, nothing_told}
use Rattle.journal_resume.proofs.sent.tell_one.Goals as goal

pub returns-in-Ok : goal.returns-in-Ok
returns-in-Ok g c =
    let old = g.W.Write.contents c.args.out.now in
    let new = g.W.Write.contents c.tell_trace.new.out in
    let text = c.in-Ok.ensures.cases in
    on_ok_weaker c.tell_trace.result
    (λ told. subst (λ t. Appends old new t) (ap (told_lines c.args.number) text.0 ∙ sym (text_told c.args.number c.args.body.now text.1)) told)
    c.tell_trace.ensures

pub returns-in-Err : goal.returns-in-Err
returns-in-Err g c =
    let old = g.W.Write.contents c.args.out.now in
    subst (λ t. Appends old old t) (sym (nothing_told c.args.number c.args.body.now c.in-Err.ensures.cases.0)) (Appends-nil old)
