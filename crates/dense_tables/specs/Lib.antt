pub mod Keys
pub mod Maps
pub mod Channels
pub mod Calls
pub mod References
