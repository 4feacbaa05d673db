pub mod Asked
pub mod Course
pub mod Notes
pub mod Owing
pub mod Sites
pub mod Statuses
pub mod Turns
