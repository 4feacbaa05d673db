-- behind a turn a channel agrees with the book
pub mod Agreeing
-- channels that have moved, one after the other
pub mod Walks
-- the timers of calls run just where a book has them armed
pub mod TimersRun
-- what the controller is owed about channels
pub mod Owing
