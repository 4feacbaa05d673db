-- what is wrong with octets: a text has no fault, and no octets have two
pub mod Faults
-- how many octets a message is written as, whatever its fields are
pub mod Lengths
-- a reader of messages, by which two texts, or a text and a fault, of the same octets are compared
pub mod Readers
-- a text of a message is read as the message
pub mod Texts
