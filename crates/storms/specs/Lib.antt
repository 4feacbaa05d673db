pub mod Width
pub mod Trips
pub mod Endings
pub mod Outcomes
pub mod Openings
