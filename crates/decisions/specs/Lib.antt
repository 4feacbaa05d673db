pub mod Judged
pub mod Named
