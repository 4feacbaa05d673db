-- How far a `Tally` is.
use Rattle.screen_text.specs.declared.tally.Tally.{Tally}
use Rattle.screen_text.specs.Lines.{Stand}

abbrev pub stand_of : Tally → Stand
stand_of t = record { number = t.number; begun = t.begun.items }
