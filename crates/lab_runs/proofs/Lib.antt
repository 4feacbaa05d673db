-- facts of turns, and of the course of a script
pub mod CourseFacts
-- facts of notes of where no channel was free
pub mod NoteFacts
-- what was asked of a desk, from a place on
pub mod StepFacts
-- facts of one turn
pub mod TurnFacts
-- on which timeslots the channels of a sound book lie, and what the entries of a history from a place on gave
pub mod ChannelFacts
-- what a mobile measures is one list, and what comes of it one report or none
pub mod ReportFacts
