use Rattle.std.proofs.Common.{◌≡◌, ◌-◌, ◌≤◌, ◌∙◌, min, length, arith}
use Rattle.decoded_lines.specs.Reading.{most_kept}
use Rattle.decoded_lines.proofs.ReadingLemmas.{keep_part}
use Rattle.decoded_lines.proofs.reader.keep.Goals as goal

pub returns-clause-kept : goal.returns-clause-kept
returns-clause-kept g c =
    let line = c.args.line.now in
    let part = c.args.part.now in
    let within : length line.items ≤ most_kept = omega (arith, c.requires, line.ok.0) in
    let room : c.min.result ≡ min (length part) (most_kept - length line.items) = omega (arith, c.min.ensures, c.len-room.ensures, line.ok.0) in
    c.in_ok-extend_from_slice.ensures.items ∙ keep_part most_kept line.items part c.min.result within room
