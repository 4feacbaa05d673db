pub mod Counting
pub mod Lines
pub mod Places
pub mod SameReports
pub mod Summed
