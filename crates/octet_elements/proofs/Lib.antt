-- bit strings and numbers
pub mod BitLemmas
-- channel types that are written and read again
pub mod ChannelTypeLemmas
-- bit strings that are cut, and numbers that are written
pub mod CutLemmas
-- fields that are written and cut again
pub mod FieldLemmas
-- sixteen octets as two words
pub mod WordLemmas
-- octets that begin with an element begin with no other
pub mod Spelling
-- octets are elements, whole or torn, in one way only
pub mod Splits
-- what one more element does to the values that are kept
pub mod Notes
-- lists that are made number by number: what one more number adds
pub mod Numbered
-- octets have one reading
pub mod Texts
-- what rows read, and what that tells of each row
pub mod Rows
