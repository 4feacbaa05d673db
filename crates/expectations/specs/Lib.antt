pub mod Comments
pub mod Ends
pub mod Held
pub mod InWords
pub mod Marks
pub mod Slots
pub mod Stars
pub mod Words
