use Rattle.std.proofs.Common.{map, ap, ◌∙◌}
use Rattle.radio_book.specs.declared.following.Followed.{Followed}
use Rattle.radio_book.specs.Following.{after}
use Rattle.radio_desk.proofs.RowFacts.{one_on, enough_more, all_have}
use Rattle.radio_desk.proofs.followers.go_on_at.Goals as goal

pub loop-rest-preserved : goal.loop-rest-preserved
loop-rest-preserved c = record {
  enough = enough_more c.args.step.now c.loop-rest.attempts c.go_on_one.new.attempts c.loop-rest.rest.now _ c.in-len1-up.len_at_least c.loop-rest.invariant.enough c.go_on_one.ensures;
  same =
      ap (map (λ (p : Followed). after p c.args.step.now)) c.go_on_one.ensures
      ∙ one_on c.args.step.now c.loop-rest.attempts _ ∙ c.loop-rest.invariant.same;
}

pub returns : goal.returns
returns c = all_have c.args.step.now c.loop-rest.attempts c.args.attempts.now c.loop-rest.rest.now c.in_default.len_below c.loop-rest.invariant.enough c.loop-rest.invariant.same
