pub mod Arguments
pub mod Faults
pub mod Kinds
pub mod Questions
