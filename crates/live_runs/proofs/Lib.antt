-- the inputs of lines, one line after another
mod InputFacts
-- what one line says, by the rules of scripts
mod LineFacts
-- what came of lines, one after another
mod LiveFacts
