use Rattle.std.proofs.Common.{take}
use Rattle.std.specs.Fmt.{HasWritten, IsPlainFormatter}
use Rattle.link_lines.specs.Text.{hex_text}
use Rattle.link_lines.proofs.writing.HexTextDisplay.fmt.Given as goal

-- what was written so far
abbrev pub invariant-loop-octet : goal.invariant-loop-octet
invariant-loop-octet g l = IsPlainFormatter l.initial.f → HasWritten g.W.Write.write_str_gives l.initial.f (hex_text (take l.octet-index l.octets)) l.f
