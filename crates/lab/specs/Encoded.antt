-- Which texts say a message that can be written. A text is the list of its bytes.
use Rattle.std.specs.Prelude.{ℕ, List}
use Rattle.explanations.specs.declared.link.LinkName.{LinkName}
use Rattle.explanations.specs.declared.link.LinkName.TheVariants as link
use Rattle.encoded_messages.specs.Rr as rr
use Rattle.encoded_messages.specs.A as a
use Rattle.encoded_messages.specs.Abis as abis

-- the name and the fields of a text say a message of the link that has a canonical text
abbrev pub CanBeWritten : (A : Type 0) → LinkName → List ℕ → Type 0
CanBeWritten A link.Rr text = rr.CanBeWritten text
CanBeWritten A link.A text = a.CanBeWritten A text
CanBeWritten A link.Abis text = abis.CanBeWritten A text
