use Rattle.std.proofs.Common.{◌∙◌, ap, inl, inr, List}
use Rattle.link_machine.specs.declared.calls.CallFacts.{CallFacts}
use Rattle.link_machine.proofs.Walks.{on_err}
use Rattle.bsc_runs.specs.Steps.{followed_steps}
use Rattle.bsc_runs.proofs.StepFacts.{all_changes}
use Rattle.bsc_runs.proofs.steps.follow_timers.Goals as goal

pub returns-in_err-follow_expiry-clause-told : goal.returns-in_err-follow_expiry-clause-told
returns-in_err-follow_expiry-clause-told g c = on_err _ c.from_residual.result (inl (c.in_err-follow_expiry.ensures.unchanged, c.in_err-follow_expiry.ensures.untold))

pub returns-in_err-reserve-clause-told : goal.returns-in_err-reserve-clause-told
returns-in_err-reserve-clause-told g c =
    on_err _ c.from_residual-in_err-reserve.result (inr (c.in_ok-follow_expiry.ensures.calls, c.in_err-reserve.ensures.items ∙ c.in_ok-follow_expiry.ensures.changes))

pub returns-clause-calls : goal.returns-clause-calls
returns-clause-calls g c =
    c.follow_steps.ensures.calls ∙ ap (λ (k : List CallFacts). followed_steps c.args.book.now k c.args.steps.now) c.in_ok-follow_expiry.ensures.calls

pub returns-clause-changes : goal.returns-clause-changes
returns-clause-changes g c =
    all_changes c.args.book.now c.args.expired c.args.steps.now c.args.machine.now.calls.items _ c.args.out.now.items _ _ c.in_ok-follow_expiry.ensures.calls
    (c.in_ok-reserve.ensures.items ∙ c.in_ok-follow_expiry.ensures.changes) c.follow_steps.ensures.changes
