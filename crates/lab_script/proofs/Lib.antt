-- facts of the words and numbers of a line
pub mod WordLemmas
-- facts of what words say by their slots
pub mod ValueFacts
-- facts of what a line says
pub mod SaidFacts
-- facts of the lines of a script
pub mod ScriptLemmas
-- facts of the controllers that the lines of a script are for
pub mod SideLemmas
