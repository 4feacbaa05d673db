use Rattle.std.proofs.lemmas.Bool.{false≢true}
use Rattle.std.proofs.Common.{◌≡◌, rules, true, false, Bool, MatchBool}
use Rattle.std.proofs.lemmas.Iterator.{cases_from_all, YieldsList-from_slice}
use Rattle.std.proofs.lemmas.List.Elements.{All-from_all_within}
use Rattle.storms.specs.Outcomes.{DidAll}
use Rattle.storms.proofs.front.figures_of.Goals as goal

-- what a test that was passed says
passed : (P N : Type 0) (b : Bool) → MatchBool b P N → b ≡ true → P
passed P N true held is = held
passed P N false held is = absurd (false≢true is)

pub returns-clause-done : goal.returns-clause-done
returns-clause-done g c =
    let ends = c.args.closed.now.workers.items in
    let found = cases_from_all _ _ _ (DidAll (λ l. l.refused)) (λ e. Unit {0}) c.all.ensures.ran (YieldsList-from_slice ends cc) (λ x q k. search rules) (λ x q k. search rules) in
    All-from_all_within (DidAll (λ l. l.refused)) ends (passed _ _ _ found c.if-not-all.false)
