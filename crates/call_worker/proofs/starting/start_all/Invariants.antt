use Rattle.std.proofs.Common.{◌≡◌, ◌++◌, ◌+◌, ◌≤◌, List, All, map, vec_len, vec_capacity}
use Rattle.std.specs.Vec.Iter.{into_iter_items, into_iter_len}
use Rattle.call_worker.specs.States.{new_worker}
use Rattle.call_worker.proofs.starting.start_all.Given as goal

abbrev pub invariant-loop-one : goal.invariant-loop-one
invariant-loop-one g l = record {
  iterator : (goal.iterator-loop-one g).can_next l.one-iterator × (goal.iterator-loop-one g).is_finite l.one-iterator;
  started : (done : List g.row.L.Denot) × (l.fn.links.items ≡ done ++ into_iter_items l.one-iterator) × (l.posts.items ≡ map (new_worker l.opening.site) done);
  fresh : All (λ l. g.L.Links.refused l ≡ 0) (into_iter_items l.one-iterator);
  room : vec_len l.posts + into_iter_len l.one-iterator ≤ vec_capacity l.posts;
}
