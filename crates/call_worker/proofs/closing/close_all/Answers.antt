use Rattle.std.proofs.Common.{◌≡◌, [], ◌∷◌, ◌++◌, arith, rules, sym, ◌∙◌}
use Rattle.std.proofs.lemmas.List.{nil_from_length}
use Rattle.std.specs.Vec.Iter.{into_iter_items}
use Rattle.call_worker.proofs.Closings.{done_all, ends_more, step_of}
use Rattle.call_worker.proofs.closing.close_all.Goals as goal

pub loop-posted-preserved : goal.loop-posted-preserved
loop-posted-preserved g c =
    let i = c.loop-posted.invariant in
    let s = c.in-Some.ensures.steps in record {
      iterator = (tt, tt);
      ends = (i.ends.0 ++ c.in-Some.posted ∷ [], step_of _ i.ends.0 _ _ _ i.ends.1 s.0, rw c.push_reserved.ensures.items (ends_more _ _ _ _ _ _ i.ends.2 c.close.ensures));
      room = omega (arith, s.1, c.push_reserved.ensures.len, c.push_reserved.ensures.capacity);
    }

pub loop-posted-init : goal.loop-posted-init
loop-posted-init g c =
    let i = c.into_iter-posted-iterator.ensures.into_iter_gives in record {
      iterator = (tt, tt);
      ends = ([], sym i.0, rw c.requires.empty tt);
      room = let l = i.1 in let e = c.requires.empty in let r = c.requires.room in search rules;
    }

pub returns : goal.returns
returns g c =
    let i = c.loop-posted.invariant.ends in
    let it = c.loop-posted.posted-iterator in
    let none : into_iter_items it ≡ [] = nil_from_length (into_iter_items it) (sym it.rest.ok.0 ∙ c.in-None.ensures.steps.0) in
    let all : c.args.posts.items ≡ i.0 = done_all _ i.0 (into_iter_items it) i.1 none in
    rw all i.2
