-- a history with one more entry at its end
pub mod Leading
-- what a walk along a history finds is what its settled attempts say
mod AuditFacts
-- a desk with one more entry
pub mod Rooms
-- attempts that a step leaves as they are; that a step comes twice
pub mod FarSteps
-- rows in which attempts stand
pub mod RowFacts
-- a walk that keeps attempts that are over
pub mod WalkFacts
