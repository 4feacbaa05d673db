-- What there are words for.
use Rattle.std.specs.Prelude.{◌<◌, IsTrue}
use Rattle.explanations.specs.declared.Question.{Question}
use Rattle.explanations.specs.declared.Question.TheVariants.{Refusal, Cause, Fault}
use Rattle.explanations.specs.Faults.{is_fault}

-- refusals are numbered from 1 to 9; each cause has a name, be it `reserved`; a fault is known, with an argument that it may
-- have or without
abbrev pub IsKnown : Question → Type 0
IsKnown (Refusal number) = (0 < number) × (number < 10)
IsKnown (Cause link cause) = Unit {0}
IsKnown (Fault link number argument) = IsTrue (is_fault link number argument)
