-- facts of who is told what comes of a script
pub mod HeardFacts
-- facts of the lines of a script
pub mod LineLemmas
-- facts of the places to which lines lead
pub mod MeetingLemmas
-- what a listener was told that compares it with a script, part by part
pub mod TestFacts
