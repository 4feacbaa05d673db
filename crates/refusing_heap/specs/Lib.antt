pub mod Refusals
pub mod RefusingHeap
