-- the orders of the keys are total, and keys that tie are one
pub mod KeyFacts
-- finite maps: what a change of one entry leaves at each key, and how many entries there are after it
pub mod MapFacts
-- the map that a function makes over some keys: what it answers, and what one changed key makes of it
pub mod Listed
-- what is kept of calls, by the slots under their keys
pub mod Kept
-- the calls of references, by their places in the rows
pub mod Rowed
-- which channels have a place at a site: its traffic channels, each another
pub mod Found
-- the states of channels, by their places at the site
pub mod Stated
-- what the masks say of a cell's channels: which are free, and how many
pub mod Masked
-- a list whose elements are clones has the same elements
pub mod Copied
