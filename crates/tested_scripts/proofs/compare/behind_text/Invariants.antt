use Rattle.std.proofs.Common.{◌≡◌, take, filter_map}
use Rattle.tested_scripts.specs.Meeting.{behind, said_of}
use Rattle.tested_scripts.proofs.compare.behind_text.Given as goal

-- the places so far
abbrev pub invariant-loop-place : goal.invariant-loop-place
invariant-loop-place g l = l.found.items ≡ filter_map (behind (said_of l.came) l.text) (take l.place-index l.places)
