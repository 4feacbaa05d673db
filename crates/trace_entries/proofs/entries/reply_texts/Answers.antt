use Rattle.std.proofs.Common.{lit<, sym, ap, ◌∙◌}
use Rattle.std.proofs.lemmas.Iterator.Consumers.{YieldsList-at, YieldsList-end}
use Rattle.std.proofs.lemmas.Iterator.Splits.{YieldsList-from_str_split}
use Rattle.trace_entries.proofs.ReplyLemmas.{now_of, replies_of, text_more, line_more}
use Rattle.trace_entries.proofs.entries.reply_texts.Goals as goal

pub loop-line-preserved-in-Continue-1 : goal.loop-line-preserved-in-Continue-1
loop-line-preserved-in-Continue-1 g c = record {
  can_next = tt;
  is_finite = tt;
  read = ap now_of c.in_ok-push.ensures.items
      ∙ text_more c.loop-line.yielded c.in-Some.line c.in-Some-reply_text.text c.loop-line.texts.items (sym c.in-Some-reply_text.ensures.text) c.loop-line.invariant.read;
}

pub loop-line-preserved : goal.loop-line-preserved
loop-line-preserved g c = record {
  can_next = tt;
  is_finite = tt;
  read = line_more c.loop-line.yielded c.in-Some.line c.loop-line.texts.items (sym c.in_default.ensures.text) c.loop-line.invariant.read;
}

pub returns : goal.returns
returns g c =
    let all = YieldsList-end (YieldsList-at c.into_iter-line-iterator.ensures.into_iter_gives (YieldsList-from_str_split 10 c.args.trace.now (lit< tt) c.split-line-items.ensures.text c.split-line-items.ensures.has_more c.split-line-items.ensures.pattern)) c.loop-line.yielded _ c.loop-line.yielded_by _ _ c.in-None.is c.next.ensures.steps in
    c.loop-line.invariant.read ∙ ap replies_of all.0
