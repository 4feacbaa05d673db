-- What an `Erasing` shows to its callers.
use Rattle.std.specs.Prelude.{Bool}
use Rattle.screen_text.specs.declared.erasing.Erasing.{Erasing}
use Rattle.screen_text.specs.declared.tally.Counted.{Counted}
use Rattle.screen_text.specs.Lines.{Stand}
use Rattle.screen_text.specs.Tallies as tallies

-- what octets are passed on to
abbrev pub out_of : {W E : Type 0} → Erasing W E → W
out_of e = e.out

-- where the number of lines is said
abbrev pub terminal_of : {W E : Type 0} → Erasing W E → E
terminal_of e = e.terminal

-- which lines count
abbrev pub counted_of : {W E : Type 0} → Erasing W E → Counted
counted_of e = e.tally.counted

-- how far the counting is
abbrev pub stand_of : {W E : Type 0} → Erasing W E → Stand
stand_of e = tallies.stand_of e.tally

-- the number stands on the terminal
abbrev pub is_said : {W E : Type 0} → Erasing W E → Bool
is_said e = e.is_said
