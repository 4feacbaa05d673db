-- Which controller a line is for. A text is the list of its bytes.
use Rattle.std.specs.Prelude.{ℕ, Bool, true, nat_eq, if◌then◌else◌, List, drop, codes}
use Rattle.std.specs.List.{starts_with}
use Rattle.lab_script.specs.declared.side.Side.{Side}
use Rattle.lab_script.specs.declared.side.Side.TheVariants.{First, Peer}

-- a line for the peer begins so
abbrev pub is_for_peer : List ℕ → Bool
is_for_peer line = starts_with nat_eq line (codes "2: ")

-- the controller that a line is for
abbrev pub side_of : List ℕ → Side
side_of line = if is_for_peer line then Peer else First

-- what a line says to it
abbrev pub text_of : List ℕ → List ℕ
text_of line = if is_for_peer line then drop 3 line else line

-- the place of a controller among the sites that the simulators are made of
abbrev pub number_of : Side → ℕ
number_of First = 0
number_of Peer = 1

-- a controller is there: the peer where there are two
abbrev pub is_there : Bool → Side → Bool
is_there has_peer First = true
is_there has_peer Peer = has_peer
