-- where a carrier stands in a neighbour list, and which cells there are
pub mod NamedFacts
-- a sum that lacks nothing is a candidate's
pub mod JudgedFacts
