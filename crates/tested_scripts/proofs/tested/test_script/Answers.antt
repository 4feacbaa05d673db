use Rattle.std.proofs.Common.{Err, inr, length, rules, refl, ◌∙◌, ap, subst}
use Rattle.tested_scripts.specs.Lines.{texts_of}
use Rattle.tested_scripts.specs.Tests.{IsMet, IsMissed}
use Rattle.tested_scripts.proofs.TestFacts.{told_met, told_missed}
use Rattle.tested_scripts.proofs.tested.test_script.Goals as goal

pub returns-in-Err-Line-clause-refused : goal.returns-in-Err-Line-clause-refused
returns-in-Err-Line-clause-refused g c =
    let found = (c.read_script.ensures.line c.in-Err-Line.line).0 (c.in-Err-Line.is ∙ ap Err c.in-Err-Line.field-0-is) in
    λ _. search rules

pub returns-then-branch-clause-met : goal.returns-then-branch-clause-met
returns-then-branch-clause-met g c = λ _.
    subst (IsMet c.args.script.now) (ap length c.in-Ok.ensures.items)
    (told_met c.in_ok-run_heard.ensures.told c.if-branch.true (λ t. t.lines.now) (λ t. t.place) (λ t. t.is_met) (record { hear = λ t came u h. h; hear_end = λ t came ended well h. h }) c.args.script.now (ap texts_of c.deref-2.ensures.value ∙ c.in_ok-lines.ensures.lines) refl refl)

pub returns-clause-missed : goal.returns-clause-missed
returns-clause-missed g c = λ _.
    inr
    (subst (IsMissed c.args.script.now) (ap length c.in-Ok.ensures.items)
    (told_missed c.in_ok-run_heard.ensures.told c.if-branch.false (λ t. t.lines.now) (λ t. t.place) (λ t. t.is_met) (record { hear = λ t came u h. h; hear_end = λ t came ended well h. h }) c.args.script.now (ap texts_of c.deref-2.ensures.value ∙ c.in_ok-lines.ensures.lines) refl refl))
