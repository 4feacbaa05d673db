use Rattle.std.proofs.Common.{◌≡◌, List, ◌++◌, length}
use Rattle.std.specs.List.{AllByRecursion}
use Rattle.octet_elements.specs.Elements.{Element, Fits, all_octets}
use Rattle.octet_elements.specs.Lookup.{lookup, noted}
use Rattle.octet_elements.proofs.found.Found.read.Given as goal

-- the octets are whole elements up to the rest, and their values are kept
abbrev pub invariant-loop-rest : goal.invariant-loop-rest
invariant-loop-rest g l = (es : List Element) × AllByRecursion (Fits g.T.ElementTable.form_of) es × (l.octets ≡ all_octets g.T.ElementTable.form_of es ++ l.rest) × (lookup g.T.ElementTable.known l.self ≡ noted g.T.ElementTable.known es)

abbrev pub decreases-loop-rest : goal.decreases-loop-rest
decreases-loop-rest g l = length l.rest
