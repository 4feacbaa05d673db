-- a loop that reads entry by entry gives what the entries say together
pub mod Each
-- what passed a chain of checks passed each of them, and no check answers that memory was refused
pub mod Chains
-- where each key says the same, the sites are equal
pub mod Same
-- what a document says keeps the limits, and a traffic channel lies within them
pub mod SiteFacts
-- a text of white space and comments is an empty document, which lacks every key
pub mod Blank
-- what a document says is a site, or the first check that it fails
pub mod Refusals
-- two of a list are alike, by count, just where one is like a later one
pub mod Twice
-- of nine timeslots two are the same
pub mod Nine
-- the timeslots of a TRX as they are read
pub mod SlotFacts
-- what is kept of a site file says what the file says, the first check that fails too
pub mod Kept
-- the first place at which a test passes, element by element
pub mod Positions
-- at most one cell passes a test, where no two are alike and the test makes alike what passes it
pub mod Unique
-- what a search over own and outside cells finds: the one cell that passes
pub mod Lookups
-- numbers in the order of a list: as many stand before one as come before it
pub mod Ordered
-- where a carrier stands in a neighbour list; a report names one cell
pub mod NeighbourFacts
-- the channels of a TRX by their numbers, three for each timeslot
pub mod PartFacts
-- the place of a traffic channel is as many as stand before it
pub mod Counted
-- the traffic channel that has a place
pub mod Placed
-- the traffic timeslots of a TRX as the bits of an octet
pub mod Masked
-- the place and the code by which a mobile names a neighbour
pub mod NameFacts
