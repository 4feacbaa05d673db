use Rattle.std.proofs.Common.{◌∙◌, subst, sym}
use Rattle.link_machine.specs.Laws.{AllAgree}
use Rattle.link_machine.proofs.Walks.{on_err}
use Rattle.bsc_runs.proofs.StepFacts.{channels_so, done_so, all_settled, all_keep}
use Rattle.bsc_runs.proofs.steps.follow_channels.Goals as goal

pub returns-in_err-reserve-clause-told : goal.returns-in_err-reserve-clause-told
returns-in_err-reserve-clause-told g c =
    on_err _ c.from_residual-in_err-reserve.result
    (all_settled c.args.book.now c.args.turn c.args.machine.now.calls.items c.args.machine.now.channels.items _ c.args.out.now.items _ c.in_ok-settle.ensures.channels
    (c.in_err-reserve.ensures.items ∙ c.in_ok-settle.ensures.done))

pub returns-clause-channels : goal.returns-clause-channels
returns-clause-channels g c =
    channels_so c.args.book.now c.args.turn c.args.back c.args.machine.now.site.value _ c.args.steps.now c.args.machine.now.calls.items _ c.args.machine.now.channels.items _ _
    c.in_ok-settle.ensures.site c.in_ok-settle.ensures.calls c.in_ok-settle.ensures.channels c.end_steps.ensures.channels

pub returns-clause-done : goal.returns-clause-done
returns-clause-done g c =
    done_so c.args.book.now c.args.turn c.args.back c.args.machine.now.site.value _ c.args.steps.now c.args.machine.now.calls.items _ c.args.machine.now.channels.items _ c.args.out.now.items _ _
    c.in_ok-settle.ensures.site c.in_ok-settle.ensures.calls c.in_ok-settle.ensures.channels (c.in_ok-reserve.ensures.items ∙ c.in_ok-settle.ensures.done) c.end_steps.ensures.done

pub returns-clause-agree : goal.returns-clause-agree
returns-clause-agree g c =
    subst (AllAgree c.args.book.now) (sym c.end_steps.ensures.channels)
    (all_keep c.args.book.now c.settle.new.self.calls.items c.args.back c.settle.new.self.site.value c.settle.new.self.channels.items c.args.steps.now c.in_ok-settle.ensures.agree)
