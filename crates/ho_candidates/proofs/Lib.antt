-- one more candidate in a list in order
pub mod OrderFacts
-- which cells are no candidates, and the candidates below a cell
pub mod CandidateFacts
