pub mod Forms
pub mod Values
pub mod Messages
pub mod Heads
pub mod Texts
