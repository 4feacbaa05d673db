use Rattle.std.proofs.Common.{◌≡◌, ◌++◌, ◌+◌, ◌≤◌, List, vec_len, vec_capacity}
use Rattle.std.specs.Vec.Iter.{into_iter_items, into_iter_len}
use Rattle.call_worker.specs.States.{WorkerState}
use Rattle.call_worker.specs.Closing.{AreEnds}
use Rattle.call_worker.proofs.closing.close_all.Given as goal

abbrev pub invariant-loop-posted : goal.invariant-loop-posted
invariant-loop-posted g l = record {
  iterator : (goal.iterator-loop-posted g).can_next l.posted-iterator × (goal.iterator-loop-posted g).is_finite l.posted-iterator;
  ends : (done : List (WorkerState g.row.L.Denot g.row.A.Denot)) × (l.fn.posts.items ≡ done ++ into_iter_items l.posted-iterator) × AreEnds g.L.Links.passed g.L.Links.refused done l.ends.items;
  room : vec_len l.ends + into_iter_len l.posted-iterator ≤ vec_capacity l.ends;
}
