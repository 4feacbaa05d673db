-- what links pass on, with one message more
pub mod Passing
