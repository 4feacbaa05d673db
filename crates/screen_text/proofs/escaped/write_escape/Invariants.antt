use Rattle.std.proofs.Common.{◌≡◌, List, ℕ, ◌++◌, encode_utf8_all}
use Rattle.std.specs.Fmt.{HasWritten, IsPlainFormatter}
use Rattle.std.specs.Char.Iter.{escape_rest}
use Rattle.std.specs.Char.Escape.{escape_default}
use Rattle.screen_text.proofs.escaped.write_escape.Given as goal

abbrev pub invariant-loop-character : goal.invariant-loop-character
invariant-loop-character g l =
    IsPlainFormatter l.initial.f → (done : List ℕ) × HasWritten g.W.Write.write_str_gives l.initial.f done l.f
    × (done ++ encode_utf8_all (escape_rest l.character-iterator) ≡ encode_utf8_all (escape_default l.fn.escaped))
