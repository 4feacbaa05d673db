pub mod States
pub mod Sending
pub mod Turns
pub mod Finishing
pub mod Ending
pub mod Giving
pub mod Closing
pub mod Points
