-- a number is read back from its digits
pub mod ReadBack
-- what the fields of a head are read as
pub mod Heads
-- what bits leave in the register of the checksum
pub mod Shifts
