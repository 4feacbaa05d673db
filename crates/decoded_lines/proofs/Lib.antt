-- whether all lines of some octets are good: the first, and those behind it
pub mod LineLemmas
-- facts of what is answered of octets
mod MessageLemmas
-- what the first octets of a text say
mod OctetLemmas
-- the lines of what a reader has left
pub mod ReadingLemmas
