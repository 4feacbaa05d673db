pub mod Erasing
pub mod Escapes
pub mod Keeping
pub mod Lines
pub mod Progress
pub mod Reasons
pub mod Tallies
