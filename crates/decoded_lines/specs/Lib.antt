pub mod Answers
pub mod Lines
pub mod Messages
pub mod Reading
