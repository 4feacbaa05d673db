-- Which texts write a message in hexadecimal. A text is the list of its bytes.
use Rattle.std.specs.Prelude.{ℕ, List, IsOkAnd}
use Rattle.hex.specs.Hex.{decode_of}
use Rattle.explanations.specs.declared.link.LinkName.{LinkName}
use Rattle.decoded_lines.specs.Messages.{IsMessage}

-- the text is hexadecimal, and its octets are a text of a message of the link
abbrev pub IsMessageText : (A : Type 0) → LinkName → List ℕ → Type 0
IsMessageText A link text = IsOkAnd (decode_of text) (IsMessage A link)
