-- octets begin with one head, or have one fault before the body
pub mod Unique
-- what holds of each kind of message, kind by kind
pub mod ByKind
-- what is kept says what the elements say
pub mod Noted
-- a message has a canonical text exactly where its fields can be written
pub mod Written
