-- What a `Progress` shows to its callers.
use Rattle.std.specs.Prelude.{ℕ}
use Rattle.screen_text.specs.declared.progress.Progress.{Progress}
use Rattle.screen_text.specs.declared.tally.Counted.{Counted}
use Rattle.screen_text.specs.Lines.{Stand}
use Rattle.screen_text.specs.Tallies as tallies

-- what octets are passed on to
abbrev pub out_of : {W E : Type 0} → Progress W E → W
out_of p = p.out

-- where the number of lines is said
abbrev pub terminal_of : {W E : Type 0} → Progress W E → E
terminal_of p = p.terminal

-- which lines count
abbrev pub counted_of : {W E : Type 0} → Progress W E → Counted
counted_of p = p.tally.counted

-- how far the counting is
abbrev pub stand_of : {W E : Type 0} → Progress W E → Stand
stand_of p = tallies.stand_of p.tally

-- how many lines make a step
abbrev pub step_of : {W E : Type 0} → Progress W E → ℕ
step_of p = p.step
