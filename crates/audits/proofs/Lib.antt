-- facts of what remains of a history
pub mod HistoryFacts
