pub mod Acts
pub mod Hearing
pub mod Settling
pub mod Bars
pub mod Failures
pub mod Laws
