use Rattle.std.proofs.Common.{refl, subst}
use Rattle.decisions.specs.declared.judged.LeastSums.{LeastSums}
use Rattle.decisions.specs.Judged.{IsLack, asked_by}
use Rattle.decisions.proofs.JudgedFacts.{candidate_lacks_nothing}
use Rattle.decisions.proofs.judged.judge.Goals as goal

pub returns-clause-candidate : goal.returns-clause-candidate
returns-clause-candidate g c = λ same other full.
    let place = c.in_ok-position.position in
    let bsic = c.in_ok-position.bsic in
    let name = (c.in_ok-position.ensures.name place bsic).0 refl in
    let lacks : IsLack (asked_by c.args.window.now c.args.site.now) c.sum_of-sum.result c.lack_of-lack.result =
    subst (λ (asked : LeastSums). IsLack asked c.sum_of-sum.result c.lack_of-lack.result) same c.lack_of-lack.ensures.lack in
    candidate_lacks_nothing c.args.window.now c.args.site.now c.args.serving c.args.cell place bsic c.sum_of-sum.result c.lack_of-lack.result name c.sum_of-sum.ensures.sum lacks other full

pub returns-clause-named : goal.returns-clause-named
returns-clause-named g c =
    let place = c.in_ok-position.position in
    let bsic = c.in_ok-position.bsic in
    (place, bsic, (c.in_ok-position.ensures.name place bsic).0 refl)
