use Rattle.std.proofs.Common.{◌≡◌, map}
use Rattle.std.specs.List.{filter_map}
use Rattle.std.specs.Str.Lines.{strip_carriage_return}
use Rattle.lab_script.specs.Script.{item_of}
use Rattle.lab_script.proofs.script.items.Given as goal

abbrev pub invariant-loop-line : goal.invariant-loop-line
invariant-loop-line g l = record {
  can_next : (goal.iterator-loop-line g).can_next l.line-iterator;
  is_finite : (goal.iterator-loop-line g).is_finite l.line-iterator;
  gives : l.items.items ≡ filter_map item_of (map strip_carriage_return (map (λ x. x.now) l.yielded));
}
