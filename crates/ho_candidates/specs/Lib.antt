pub mod Order
pub mod Candidates
