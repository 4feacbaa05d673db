use Rattle.std.proofs.Common.{◌≡◌, ◌+◌, ◌++◌, true, false, take, drop, get_or, Some, sym, ◌∙◌, ap}
use Rattle.radio_book.specs.declared.following.Followed.{Followed}
use Rattle.radio_book.specs.Following.{others_from, held_from, at_last, is_settled_in, is_undone_in, opening_of}
use Rattle.radio_book.proofs.RemainderFacts.{rest_all, undone_there, others_there, held_there, settled_there, attempt_there}
use Rattle.radio_book.proofs.remainder.remainder_at.Given.{Over}
use Rattle.radio_book.proofs.remainder.remainder_at.Goals as goal

pub returns-then-not-is_undone-clause-none : goal.returns-then-not-is_undone-clause-none
returns-then-not-is_undone-clause-none g c = λ same u is.
    let steps = c.args.steps.now in
    let p = c.in-Some-opening_of.opening in
    let opens = ap opening_of (sym c.in-Some.ensures.lookup.1) ∙ sym c.in-Some-opening_of.ensures.opening in
    let undone = undone_there steps c.args.at u is c.in-Some.step.now p opens in
    let last = c.in_ok-trail.ensures.last ∙ ap (at_last p) (rest_all (c.args.at + 1) steps) in
    let bad : true ≡ false = sym undone ∙ ap (λ (q : Followed). is_undone_in q.phase) (sym last) ∙ sym c.is_undone.ensures.undone ∙ c.if-not-is_undone.true in cc

-- what opens at the place, and how it is in the end
opens : (g : Over) (c : goal.After-is_settled g) → opening_of (get_or c.args.steps.now c.args.at c.in-Some.step.now) ≡ Some c.in-Some-opening_of.opening
opens g c = ap opening_of (sym c.in-Some.ensures.lookup.1) ∙ sym c.in-Some-opening_of.ensures.opening

last : (g : Over) (c : goal.After-is_settled g) → c.in_ok-trail.trail.last ≡ at_last c.in-Some-opening_of.opening (drop (c.args.at + 1) c.args.steps.now)
last g c = c.in_ok-trail.ensures.last ∙ ap (at_last c.in-Some-opening_of.opening) (rest_all (c.args.at + 1) c.args.steps.now)

pub returns-clause-attempt : goal.returns-clause-attempt
returns-clause-attempt g c =
    attempt_there c.args.steps.now c.args.at c.in-Some.step.now c.in-Some-opening_of.opening c.in-Some.ensures.lookup.3.0 (opens g c)
    (ap (λ (q : Followed). is_undone_in q.phase) (sym (last g c)) ∙ sym c.is_undone.ensures.undone ∙ c.if-not-is_undone.false)

pub returns-clause-kept : goal.returns-clause-kept
returns-clause-kept g c = λ u is.
    c.in_ok-trail.ensures.kept ∙ ap (λ ss. take c.args.at c.args.steps.now ++ others_from c.in-Some-opening_of.opening ss) (rest_all (c.args.at + 1) c.args.steps.now)
    ∙ others_there c.args.steps.now c.args.at u is c.in-Some.step.now c.in-Some-opening_of.opening (opens g c)

pub returns-clause-held : goal.returns-clause-held
returns-clause-held g c = λ u is.
    c.in_ok-trail.ensures.held ∙ ap (held_from c.in-Some-opening_of.opening) (rest_all (c.args.at + 1) c.args.steps.now)
    ∙ held_there c.args.steps.now c.args.at u is c.in-Some.step.now c.in-Some-opening_of.opening (opens g c)

pub returns-clause-settled : goal.returns-clause-settled
returns-clause-settled g c = λ u is.
    c.is_settled.ensures.settled ∙ ap (λ (q : Followed). is_settled_in q.phase) (last g c)
    ∙ settled_there c.args.steps.now c.args.at u is c.in-Some.step.now c.in-Some-opening_of.opening (opens g c)
