pub mod Keys
pub mod Slots
pub mod Table
pub mod Text
pub mod Masks
