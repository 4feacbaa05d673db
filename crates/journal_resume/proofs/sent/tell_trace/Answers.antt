use Rattle.std.proofs.Common.{lit<, subst, ap}
use Rattle.std.specs.List.{flat_map}
use Rattle.std.specs.Io.KnownBytes.{Appends}
use Rattle.std.proofs.KnownBytes.{Appends-nil}
use Rattle.std.proofs.lemmas.Iterator.Consumers.{YieldsList-at, YieldsList-end}
use Rattle.std.proofs.lemmas.Iterator.Splits.{YieldsList-from_str_split}
use Rattle.journal_resume.specs.Wholes.{told_at}
use Rattle.journal_resume.proofs.Fronts.{line_told}
use Rattle.journal_resume.proofs.sent.tell_trace.Goals as goal

pub loop-line-init : goal.loop-line-init
loop-line-init g c = record { can_next = tt; is_finite = tt; told = Appends-nil (g.W.Write.contents c.args.out.now) }

pub loop-line-preserved : goal.loop-line-preserved
loop-line-preserved g c = record {
  can_next = tt;
  is_finite = tt;
  told = line_told c.args.number c.loop-line.yielded c.in-Some.line _ _ _ c.loop-line.invariant.told c.in_ok-tell_line.ensures;
}

pub returns : goal.returns
returns g c =
    let all = YieldsList-end (YieldsList-at c.into_iter-line-iterator.ensures.into_iter_gives (YieldsList-from_str_split 10 c.args.trace.now (lit< tt) c.split-line-items.ensures.text c.split-line-items.ensures.has_more c.split-line-items.ensures.pattern)) c.loop-line.yielded _ c.loop-line.yielded_by _ _ c.in-None.is c.next.ensures.steps in
    subst (λ t. Appends (g.W.Write.contents c.args.out.now) (g.W.Write.contents c.loop-line.out) t) (ap (flat_map (told_at c.args.number)) all.0) c.loop-line.invariant.told
