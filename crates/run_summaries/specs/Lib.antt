pub mod Causes
pub mod Rates
