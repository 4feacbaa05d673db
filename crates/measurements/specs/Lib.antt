pub mod Reports
pub mod WindowKept
