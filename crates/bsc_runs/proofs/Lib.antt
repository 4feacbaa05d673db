-- what follows of a turn's steps
pub mod StepFacts
