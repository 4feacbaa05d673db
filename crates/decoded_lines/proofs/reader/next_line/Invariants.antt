use Rattle.std.proofs.Common.{◌≤◌, vec_len, vec_items}
use Rattle.decoded_lines.specs.Reading.{most_kept}
use Rattle.decoded_lines.proofs.ReadingLemmas.{IsRead}
use Rattle.decoded_lines.proofs.reader.next_line.Given as goal

abbrev pub invariant-loop : goal.invariant-loop
invariant-loop g l = record {
  bounded : vec_len l.line ≤ most_kept;
  read : IsRead (g.R.Read.remaining l.initial.reader) (g.R.Read.remaining l.reader) l.is_begun (vec_items l.line);
}
