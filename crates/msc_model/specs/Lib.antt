pub mod Cells
pub mod Routes
pub mod Joins
pub mod Centre
pub mod Messages
pub mod Steps
