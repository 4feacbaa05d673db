-- What a heap shows of itself; its counts change at any time, so that no clause names them.
use Rattle.refusing_heap.specs.declared.Refusals.{Refusals}
use Rattle.refusing_heap.specs.declared.RefusingHeap.{RefusingHeap}

-- the refusals that a heap was made with
abbrev pub refusals_of : {A : Type 0} → RefusingHeap A → Refusals
refusals_of heap = heap.ration.refusals
