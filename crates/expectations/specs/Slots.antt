-- Timeslots at a glance: a symbol for each. Ours, of no standard.
use Rattle.std.specs.Prelude.{ℕ, List, codes}
use Rattle.expectations.specs.declared.slots.Use.{Use}
use Rattle.expectations.specs.declared.slots.Use.TheVariants.{Free, On, Other}

-- by what the whole timeslot and its two halves are used for
abbrev pub symbol_of : Use → Use → Use → List ℕ
symbol_of Free Free Free = codes "-"
symbol_of On Free Free = codes "F"
symbol_of Free On Free = codes "H-"
symbol_of Free Free On = codes "-H"
symbol_of Free On On = codes "HH"
symbol_of full half0 half1 = codes "!"
