use Rattle.std.proofs.Common.{◌≡◌, drop}
use Rattle.tested_scripts.specs.Lines.{texts_of}
use Rattle.tested_scripts.specs.Meeting.{begins_with_echo}
use Rattle.tested_scripts.proofs.compare.begin_with_echo.Given as goal

-- those so far expect nothing
abbrev pub invariant-loop-line : goal.invariant-loop-line
invariant-loop-line l = begins_with_echo (texts_of l.lines) ≡ begins_with_echo (drop l.line-index (texts_of l.lines))
