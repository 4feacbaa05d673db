use Rattle.std.proofs.Common.{rules, not}
use Rattle.std.proofs.lemmas.Fn.{filter_same}
use Rattle.radio_book.specs.declared.following.Followed.{Followed}
use Rattle.radio_book.specs.Following.{is_over}
use Rattle.radio_desk.specs.Followers.{passes_at}
use Rattle.radio_desk.proofs.rows.keep_open.Goals as goal

pub returns : goal.returns
returns g c = filter_same _ (λ i. passes_at (λ (p : Followed). not (is_over p)) c.args.attempts.now i) _ (λ x b f' says. search rules) _ _ c.retain.ensures.filtered
