-- what is kept says what the elements say
pub mod Noted
-- what is written is read
pub mod Written
