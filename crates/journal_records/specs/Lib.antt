pub mod Checksum
pub mod Numerals
pub mod Records
pub mod Files
