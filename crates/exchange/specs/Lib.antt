pub mod Inputs
pub mod Naming
pub mod Outputs
