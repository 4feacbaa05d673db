pub mod Heard
pub mod Lines
pub mod Meeting
pub mod Tests
