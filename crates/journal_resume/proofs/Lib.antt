-- one octet more
pub mod Zeros
-- one record more
pub mod Steps
-- the reasons of refusals
pub mod Refused
-- all records of some octets
pub mod Fronts
