use Rattle.std.proofs.Common.{rules, refl, sym, subst, IfNone, Option, arith, ◌<◌, max, ◌+◌, ◌*◌}
use Rattle.measurements.specs.Reports.{sum_used, sum_named}
use Rattle.ho_candidates.specs.declared.listed.Candidate.{Candidate}
use Rattle.ho_candidates.specs.Candidates.{NoCandidateIn}
use Rattle.ho_candidates.proofs.CandidateFacts.{none-nameless, none-weak, one_name, only-sum}
use Rattle.ho_candidates.proofs.looked.candidate_in.Goals as goal

pub returns-in_err-place-clause-none : goal.returns-in_err-place-clause-none
returns-in_err-place-clause-none g c =
    let w = c.args.window.now in
    let site = c.args.site.now in
    let name = c.in_err-place.ensures.name in
    let none : NoCandidateIn w site c.args.cell c.args.other =
    none-nameless w site c.args.cell c.args.other (λ place bsic is. let same = (name place bsic).1 is in cc) in
    subst (λ (o : Option Candidate). IfNone o (NoCandidateIn w site c.args.cell c.args.other)) (sym c.from_residual.ensures) none

pub returns-then-sum-least-clause-none : goal.returns-then-sum-least-clause-none
returns-then-sum-least-clause-none g c =
    let w = c.args.window.now in
    let site = c.args.site.now in
    let place = c.in_ok-place.place in
    let bsic = c.in_ok-place.bsic in
    let name = c.in_ok-place.ensures.name in
    let one = one_name site c.args.cell c.args.other place bsic (λ p b is. (name p b).1 is) in
    let rule = site.handover in
    let sum = c.sum_of-sum.ensures.sum in
    let weak : sum_named place bsic w.reports < max (sum_used w.reports + rule.margin * rule.window) (rule.minimum * rule.window) = omega arith in
    none-weak w site c.args.cell c.args.other place bsic one weak

pub returns-clause-only : goal.returns-clause-only
returns-clause-only g c =
    let w = c.args.window.now in
    let site = c.args.site.now in
    let place = c.in_ok-place.place in
    let bsic = c.in_ok-place.bsic in
    let name = c.in_ok-place.ensures.name in
    let one = one_name site c.args.cell c.args.other place bsic (λ p b is. (name p b).1 is) in
    only-sum w site c.args.cell c.args.other place bsic c.sum_of-sum.result one c.sum_of-sum.ensures.sum

pub returns-clause-found : goal.returns-clause-found
returns-clause-found g c =
    let place = c.in_ok-place.place in
    let bsic = c.in_ok-place.bsic in
    let least = c.requires.least in
    let enough = c.if-sum-least.false in
    record {
      place = place;
      bsic = bsic;
      full = search rules;
      other = search rules;
      name = (c.in_ok-place.ensures.name place bsic).0 refl;
      sum = c.sum_of-sum.ensures.sum;
      margin = omega arith;
      minimum = omega arith;
    }
