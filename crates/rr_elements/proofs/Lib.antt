-- texts of the short elements: each is read as its value, and what is written is a text
pub mod ElementLemmas
-- what is wrong with octets: a text has no fault, and no octets have two
pub mod FaultLemmas
-- how measurement results are kept: six places, the unused ones 0
pub mod KeptLemmas
-- readers of the elements, by which two texts, or a text and a fault, of the same octets are compared
pub mod Readers
-- measurement results, read and written
pub mod ResultsLemmas
-- what is written of measurement results is a text of them
pub mod ResultsTexts
