-- what links passed on, with one message more
pub mod Passing
-- the traffic channels of a cell, from one of its places on
pub mod Places
-- what a closed office was given to open, and what its desk was asked
pub mod Openings
