pub mod Owed
pub mod Sent
pub mod Heard
pub mod Steps
pub mod Turns
