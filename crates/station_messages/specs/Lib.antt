pub mod Heads
pub mod Types
pub mod Messages
pub mod Texts
