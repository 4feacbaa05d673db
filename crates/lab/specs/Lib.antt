pub mod Decoded
pub mod Encoded
pub mod Files
pub mod Storms
pub use Rattle.lab_script.specs.Script
