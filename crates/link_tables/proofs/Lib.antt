-- what a test of all values says of each
pub mod Every
-- the laws, by computing each of their cases
pub mod Cases
