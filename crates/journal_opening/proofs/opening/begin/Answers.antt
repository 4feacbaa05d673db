use Rattle.std.proofs.Common.{◌≡◌, string_bytes, arith}
use Rattle.std.proofs.lemmas.Str.{IsUtf8-string_bytes}
use Rattle.std.proofs.lemmas.Grind.{common_steps}
use Rattle.journal_opening.proofs.Beginnings.{began}
use Rattle.journal_opening.proofs.opening.begin.Goals as goal

pub returns-clause-begins : goal.returns-clause-begins
returns-clause-begins g c =
    let head = c.in-Ok.head in
    let same : c.as_bytes.result.now ≡ string_bytes head = grind (arith, common_steps) in
    began g.R.File.Write.contents c.args.site_sum c.args.site.value (string_bytes head) c.as_bytes.result.now c.in_ok-journal.journal
    c.in_ok-book.book c.in_ok-book.ensures.empty (IsUtf8-string_bytes head) c.in-Ok.ensures.site c.in-Ok.ensures.leads same
    c.in_ok-journal.ensures.file c.in_ok-journal.ensures.last c.in_ok-journal.ensures.waiting
