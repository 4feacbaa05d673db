-- the orders of the keys are total, and keys that tie are one
pub mod KeyFacts
-- finite maps: what a change of one entry leaves at each key, and changes one after another; then the maps of a book
pub mod MapFacts
-- what a tree map's entries say of the finite map that they make
pub mod TableFacts
-- the maps that the entries of calls make: their records, and the timers of those that have one
pub mod EntryFacts
-- a tree map whose keys and values are clones has the same entries
pub mod CopyFacts
-- what `==` of the types of a book says
pub mod SameFacts
-- what is left of a journal whose last inverse was taken out
pub mod JournalFacts
-- which channels a choice finds, and how many it counts
pub mod Chosen
-- the free channels of a cell as a set: what it has, and how many
pub mod FreeSet
-- what one map of all that is kept of each call makes of records and timers; free channels of such tables
pub mod DenseFacts
