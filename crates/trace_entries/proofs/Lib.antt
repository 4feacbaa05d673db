-- facts of the lines of a trace
pub mod EntryLemmas
-- a line without the carriage return that may end it
pub mod Returns
-- facts of the replies of a trace
pub mod ReplyLemmas
