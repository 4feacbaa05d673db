use Rattle.std.specs.Io.KnownBytes.{Consumes}
use Rattle.journal_files.proofs.listing.names_in.Given as goal

-- the names so far are what was read
abbrev pub invariant-loop-round : goal.invariant-loop-round
invariant-loop-round g l = Consumes (g.D.Read.remaining l.fn.dir) (g.D.Read.remaining l.dir) l.names.items
