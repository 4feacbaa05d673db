-- facts of numbers of words
pub mod WordLemmas
