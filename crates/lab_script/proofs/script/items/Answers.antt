use Rattle.std.proofs.Common.{lit<, refl, sym, ap, ◌∙◌, ℕ, List, length, map}
use Rattle.std.specs.List.{filter_map}
use Rattle.std.specs.Str.Lines.{strip_carriage_return}
use Rattle.std.proofs.lemmas.Iterator.Consumers.{YieldsList-at, YieldsList-turn, YieldsList-end}
use Rattle.std.proofs.lemmas.Iterator.Splits.{YieldsList-from_str_split}
use Rattle.lab_script.specs.Script.{item_of}
use Rattle.lab_script.proofs.ScriptLemmas.{items-more, items_of-some}
use Rattle.lab_script.proofs.script.items.Goals as goal

pub loop-line-preserved : goal.loop-line-preserved
loop-line-preserved g c = record {
  can_next = tt;
  is_finite = tt;
  gives = c.in_ok-add_item.ensures.added ∙ rw c.loop-line.invariant.gives (sym (items-more c.loop-line.yielded c.in-Some.line));
}

pub returns-clause-value : goal.returns-clause-value
returns-clause-value g c =
    let all = YieldsList-end (YieldsList-at c.into_iter-line-iterator.ensures.into_iter_gives (YieldsList-from_str_split 10 c.args.text.now (lit< tt) c.split-line-items.ensures.text c.split-line-items.ensures.has_more c.split-line-items.ensures.pattern)) c.loop-line.yielded _ c.loop-line.yielded_by _ _ c.in-None.is c.next.ensures.steps in
    c.loop-line.invariant.gives ∙ ap (λ (parts : List (List ℕ)). filter_map item_of (map strip_carriage_return parts)) all.0

pub returns-in_err-add_item-clause-memory : goal.returns-in_err-add_item-clause-memory
returns-in_err-add_item-clause-memory g c = λ failed.
    let turn = YieldsList-turn (YieldsList-at c.into_iter-line-iterator.ensures.into_iter_gives (YieldsList-from_str_split 10 c.args.text.now (lit< tt) c.split-line-items.ensures.text c.split-line-items.ensures.has_more c.split-line-items.ensures.pattern)) c.loop-line.yielded _ c.loop-line.yielded_by _ _ c.in-Some.line c.in-Some.is c.next.ensures.steps in
    items_of-some c.args.text.now c.in-Some.line.now (length c.loop-line.yielded) turn.0 turn.1 (c.in_err-add_item.ensures.memory refl)
