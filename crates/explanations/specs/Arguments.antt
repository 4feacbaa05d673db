-- Which numbers the argument of a fault may be. Ours, of no standard, but that a type and an identifier are one octet. A
-- message on A has at most 255 octets, of which two stand before its type; one on Abis at most 1,024, of which one does.
use Rattle.std.specs.Prelude.{ℕ, ◌&&◌, Bool, false, nat_le, Option, Some, None}
use Rattle.explanations.specs.declared.fault.Argument.{Argument}
use Rattle.explanations.specs.declared.fault.Argument.TheVariants.{Absent, MessageType, Identifier, OffsetOnA, OffsetOnAbis, ElementFault}

-- the least and the greatest; none where the fault has no argument
abbrev pub range_of : Argument → Option (ℕ × ℕ)
range_of Absent = None
range_of MessageType = Some (0, 255)
range_of Identifier = Some (0, 255)
range_of OffsetOnA = Some (3, 254)
range_of OffsetOnAbis = Some (1, 1023)
range_of ElementFault = Some (1, 4)

abbrev pub is_within : Option (ℕ × ℕ) → ℕ → Bool
is_within None n = false
is_within (Some range) n = nat_le range.0 n && nat_le n range.1
