-- facts of the first thing that is wrong with the words of a line
pub mod ReasonLemmas
