use Rattle.std.proofs.Common.{◌≡◌, map}
use Rattle.std.specs.Str.Lines.{strip_carriage_return}
use Rattle.tested_scripts.specs.Lines.{texts_of}
use Rattle.tested_scripts.proofs.lines.lines_of.Given as goal

abbrev pub invariant-loop-line : goal.invariant-loop-line
invariant-loop-line g l = record {
  can_next : (goal.iterator-loop-line g).can_next l.line-iterator;
  is_finite : (goal.iterator-loop-line g).is_finite l.line-iterator;
  read : texts_of l.lines.items ≡ map strip_carriage_return (texts_of l.yielded);
}
