use Rattle.std.proofs.Common.{◌≡◌, [], ◌∷◌, ◌++◌, length, arith, rules, sym, ◌∙◌, vec_len}
use Rattle.std.proofs.lemmas.List.{nil_from_length}
use Rattle.std.specs.Vec.Iter.{into_iter_items}
use Rattle.call_worker.proofs.Closings.{done_all, fresh_first, fresh_rest, step_of, start_more, start_done, start_count}
use Rattle.call_worker.proofs.starting.start_all.Goals as goal

pub loop-one-preserved : goal.loop-one-preserved
loop-one-preserved g c =
    let i = c.loop-one.invariant in
    let s = c.in-Some.ensures.steps in record {
      iterator = (tt, tt);
      started = (i.started.0 ++ c.in-Some.one ∷ [], step_of _ i.started.0 _ _ _ i.started.1 s.0, start_more c.args.opening.now.site i.started.0 c.loop-one.posts.items c.push_reserved.new.self.items c.in-Some.one c.in-Ok-start_one.posted i.started.2 c.push_reserved.ensures.items c.in-Ok-start_one.ensures);
      fresh = fresh_rest g.L.Links.refused _ _ _ s.0 i.fresh;
      room = omega (arith, s.1, c.push_reserved.ensures.len, c.push_reserved.ensures.capacity);
    }

pub loop-one-init : goal.loop-one-init
loop-one-init g c =
    let i = c.into_iter-one-iterator.ensures.into_iter_gives in record {
      iterator = (tt, tt);
      started = ([], sym i.0, c.in-Ok.ensures.items);
      fresh = rw i.0 c.requires;
      room = let l = i.1 in search rules;
    }

pub start_one-requires-after_bounds : goal.start_one-requires-after_bounds
start_one-requires-after_bounds g c κs lives = fresh_first g.L.Links.refused _ _ _ c.in-Some.ensures.steps.0 c.loop-one.invariant.fresh

pub returns-clause-workers : goal.returns-clause-workers
returns-clause-workers g c =
    let i = c.loop-one.invariant.started in
    let it = c.loop-one.one-iterator in
    let none : into_iter_items it ≡ [] = nil_from_length (into_iter_items it) (sym it.rest.ok.0 ∙ c.in-None.ensures.steps.0) in
    let all : c.args.links.items ≡ i.0 = done_all _ i.0 (into_iter_items it) i.1 none in
    start_done c.args.opening.now.site c.args.links.items i.0 c.loop-one.posts.items all i.2

pub returns-clause-count : goal.returns-clause-count
returns-clause-count g c =
    let i = c.loop-one.invariant.started in
    let it = c.loop-one.one-iterator in
    let none : into_iter_items it ≡ [] = nil_from_length (into_iter_items it) (sym it.rest.ok.0 ∙ c.in-None.ensures.steps.0) in
    let all : c.args.links.items ≡ i.0 = done_all _ i.0 (into_iter_items it) i.1 none in
    let here : vec_len c.loop-one.posts ≡ length c.loop-one.posts.items = search rules in
    let there : vec_len c.args.links ≡ length c.args.links.items = search rules in
    start_count c.args.opening.now.site c.args.links.items c.loop-one.posts.items _ _ (start_done c.args.opening.now.site c.args.links.items i.0 c.loop-one.posts.items all i.2) here there
