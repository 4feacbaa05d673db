-- facts of the messages on A that texts say
pub mod ALemmas
-- facts of the messages on Abis that texts say
pub mod AbisLemmas
-- facts of the name and the fields of a text
pub mod NameLemmas
-- facts of what is read step by step, and of two readers of one text
pub mod ReadLemmas
-- facts of the radio resource messages that texts say
pub mod RrLemmas
-- facts of numbers that a text writes
pub mod ValueLemmas
-- facts of the words of a text, and of the fields among them
pub mod WordLemmas
