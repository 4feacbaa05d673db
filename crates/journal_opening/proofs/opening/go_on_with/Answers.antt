use Rattle.journal_opening.proofs.Beginnings.{went_on}
use Rattle.journal_opening.proofs.opening.go_on_with.Goals as goal

pub returns-clause-goes_on : goal.returns-clause-goes_on
returns-clause-goes_on g c =
    went_on g.R.File.Write.contents c.args.site_sum c.args.site.value c.args.last.number c.args.last.octets.now c.split_at.result.0.now
    c.in_ok-journal.journal c.in_ok-found.found.book c.in_ok-found.found.last c.in_ok-found.found.whole
    c.in_ok-found.ensures.journal c.split_at.ensures.front c.in_ok-journal.ensures.file c.in_ok-journal.ensures.last c.in_ok-journal.ensures.waiting
