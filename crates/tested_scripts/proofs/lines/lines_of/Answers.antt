use Rattle.std.proofs.Common.{lit<, ap, ◌∙◌, List, ℕ, map}
use Rattle.std.specs.Str.Lines.{strip_carriage_return}
use Rattle.std.proofs.lemmas.Iterator.Consumers.{YieldsList-at, YieldsList-end}
use Rattle.std.proofs.lemmas.Iterator.Splits.{YieldsList-from_str_split}
use Rattle.tested_scripts.specs.Lines.{texts_of}
use Rattle.tested_scripts.proofs.LineLemmas.{lines-more}
use Rattle.tested_scripts.proofs.lines.lines_of.Goals as goal

pub loop-line-preserved : goal.loop-line-preserved
loop-line-preserved g c = record {
  can_next = tt;
  is_finite = tt;
  read = ap texts_of c.in_ok-push.ensures.items ∙ lines-more c.loop-line.yielded c.in-Some.line c.without_return.result c.loop-line.lines.items c.without_return.ensures.stripped c.loop-line.invariant.read;
}

pub returns : goal.returns
returns g c =
    let all = YieldsList-end (YieldsList-at c.into_iter-line-iterator.ensures.into_iter_gives (YieldsList-from_str_split 10 c.args.text.now (lit< tt) c.split-line-items.ensures.text c.split-line-items.ensures.has_more c.split-line-items.ensures.pattern)) c.loop-line.yielded _ c.loop-line.yielded_by _ _ c.in-None.is c.next.ensures.steps in
    record { lines = c.loop-line.invariant.read ∙ ap (λ (parts : List (List ℕ)). map strip_carriage_return parts) all.0 }
