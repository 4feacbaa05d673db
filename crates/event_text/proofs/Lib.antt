-- numbers and channels: what is written is read, and what is read was written so
pub mod Numbers
-- events: what is written is read, and what is read was written so
pub mod Readings
-- the event that a text is the text of, found among all
pub mod Found
