use Rattle.std.proofs.Common.{◌≡◌, rules}
use Rattle.bsc_runs.specs.Heard.{expired_of, back_on}
use Rattle.bsc_runs.specs.Sent.{sent_away}
use Rattle.bsc_runs.proofs.StepFacts.{follows_as, so_far_as}
use Rattle.bsc_runs.proofs.links.Links.follow.Goals as goal

pub returns-in-Ok-clause-follows : goal.returns-in-Ok-clause-follows
returns-in-Ok-clause-follows g c =
    let same : c.book-book.result.now ≡ c.args.self.now.controller.0.desk.book = search rules in
    follows_as c.args.self.now.controller.0.desk.book c.book-book.result.now (expired_of c.args.turn.input) _ c.args.known (sent_away c.args.turn.answer) _ (back_on c.args.said) _ c.args.self.now.machine.site.value c.args.turn.steps.items _ _ _
    same c.expired_of.ensures c.sent_away.ensures c.back_on.ensures c.as_slice.ensures.value c.in-Ok.ensures.follows

pub returns-in-Err-clause-so_far : goal.returns-in-Err-clause-so_far
returns-in-Err-clause-so_far g c =
    let same : c.book-book.result.now ≡ c.args.self.now.controller.0.desk.book = search rules in
    so_far_as c.args.self.now.controller.0.desk.book c.book-book.result.now (expired_of c.args.turn.input) _ c.args.known (sent_away c.args.turn.answer) _ c.args.turn.steps.items _ _ _
    same c.expired_of.ensures c.sent_away.ensures c.as_slice.ensures.value c.in-Err.ensures.so_far
