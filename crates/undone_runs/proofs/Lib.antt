-- facts of what was asked of a desk, from a place on
pub mod EventFacts
