-- The faults of octets that are no message. Their numbers are ours, of no standard.
use Rattle.std.specs.Prelude.{ℕ, ◌==◌, Bool, true, false, if◌then◌else◌, List, [], ◌∷◌, Option, Some, None}
use Rattle.explanations.specs.declared.fault.Argument.{Argument}
use Rattle.explanations.specs.declared.fault.Argument.TheVariants.{Absent, MessageType, Identifier, OffsetOnA, OffsetOnAbis, ElementFault}
use Rattle.explanations.specs.declared.link.LinkName.{LinkName}
use Rattle.explanations.specs.declared.link.LinkName.TheVariants.{Rr, A, Abis}
use Rattle.explanations.specs.Arguments.{range_of, is_within}

-- the faults of a link by their numbers, each with what its argument is
abbrev pub faults_on : LinkName → List (ℕ × Argument)
faults_on Rr = (1, Absent) ∷ (2, MessageType) ∷ (3, Absent) ∷ (4, ElementFault) ∷ []
faults_on A = (1, Absent) ∷ (2, Absent) ∷ (3, MessageType) ∷ (4, Identifier) ∷ (5, Identifier) ∷ (6, OffsetOnA) ∷ []
faults_on Abis = (1, Absent) ∷ (2, MessageType) ∷ (3, Identifier) ∷ (4, Identifier) ∷ (5, OffsetOnAbis) ∷ (6, Absent) ∷ []

-- what stands by a number
abbrev pub argument_at : List (ℕ × Argument) → ℕ → Option Argument
argument_at [] number = None
argument_at (fault ∷ faults) number = if number == fault.0 then Some fault.1 else argument_at faults number

-- a fault may have this argument, or be told without one
abbrev pub may_have : Option Argument → Option ℕ → Bool
may_have None argument = false
may_have (Some what) None = true
may_have (Some what) (Some n) = is_within (range_of what) n

-- a link has a fault of this number, which may have this argument
abbrev pub is_fault : LinkName → ℕ → Option ℕ → Bool
is_fault link number argument = may_have (argument_at (faults_on link) number) argument
