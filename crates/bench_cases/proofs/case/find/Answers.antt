use Rattle.std.proofs.Common.{◌≡◌, ◌≢◌, [], All, get_or, rules, subst}
use Rattle.std.proofs.lemmas.List.{take_all}
use Rattle.std.proofs.lemmas.List.Elements.{All-more}
use Rattle.bench_cases.specs.declared.case.Case.{Case}
use Rattle.bench_cases.specs.declared.case.Task.TheVariants.{DecodeActivation}
use Rattle.bench_cases.proofs.case.find.Goals as goal

-- the case that stands where there is none
abbrev no_case : Case
no_case = record { name = record { ref_ptr = (0, 0); now = [] }; task = DecodeActivation; octets = record { ref_ptr = (0, 0); now = [] }; place = 0 }

pub loop-case-preserved : goal.loop-case-preserved
loop-case-preserved c =
    let cases = c.args.cases.now in
    let i = c.loop-case.case-index in
    let other : (get_or cases i no_case).name.now ≢ c.args.name.now = search rules in
    All-more (λ case. case.name.now ≢ c.args.name.now) cases i no_case c.loop-case-test.true c.loop-case.invariant other

pub returns-clause-none : goal.returns-clause-none
returns-clause-none c =
    let whole = take_all c.loop-case.case-index c.args.cases.now c.loop-case-test.false in
    subst (All (λ case. case.name.now ≢ c.args.name.now)) whole c.loop-case.invariant
