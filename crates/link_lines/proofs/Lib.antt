-- words and numbers: what is written is read
pub mod WordFacts
-- steps along the words of a line: what is written is read
pub mod StepFacts
-- lines of scripts: what is written is read
pub mod ScriptFacts
-- lines: what is written is read
pub mod LineFacts
