pub mod Faults
pub mod CellDescription
pub mod ChanDescription
pub mod Power
pub mod RrCause
pub mod MeasResults
pub mod ResultsKept
