use Rattle.std.proofs.Common.{sym, ◌∙◌, ap, subst}
use Rattle.lab_runs.specs.Turns.{Position}
use Rattle.radio_book.specs.State.{State}
use Rattle.link_machine.specs.Timers.{TimersRun}
use Rattle.link_machine.proofs.Walks.{on_ok}
use Rattle.bsc_runs.specs.Heard.{back_on, expired_of}
use Rattle.bsc_runs.specs.Sent.{sent_away}
use Rattle.bsc_runs.specs.Turns.{Links, known_before, Follows}
use Rattle.bsc_runs.proofs.StepFacts.{timers_run, gives_so, stops_so}
use Rattle.bsc_runs.proofs.links.Links.give.Goals as goal

pub returns-in-Ok-clause-gives : goal.returns-in-Ok-clause-gives
returns-in-Ok-clause-gives g c =
    gives_so c.follow.result c.in-Ok.turn c.args.input c.said_in-said.result c.args.self.now.controller.0.desk.book c.take_turn.new.controller c.follow.new.self.controller c.known_before-known.result
    c.args.self.now.machine.site.value _ _ c.follow.ensures.turn c.in-Ok.ensures.input c.said_in-said.ensures.said c.follow.ensures.controller
    (c.known_before-known.ensures.known ∙ ap (λ (s : State). known_before s c.chan_of.result) c.book.ensures.book ∙ ap (known_before c.args.self.now.controller.0.desk.book) c.chan_of.ensures)
    c.follow.ensures.follows

pub returns-in-Ok-clause-timers : goal.returns-in-Ok-clause-timers
returns-in-Ok-clause-timers g c =
    let old = c.args.self.now.controller in
    let mid = c.take_turn.new.controller in
    let calls = c.args.self.now.machine.calls.items in
    let calls' = c.follow.new.self.machine.calls.items in
    let turn = c.in-Ok.turn in
    let it = c.in-Ok.ensures.turn in
    let before : Links = record { calls = calls; channels = c.args.self.now.machine.channels.items; timers = c.args.out.now.timers.items; done = c.args.out.now.done.items } in
    let behind : Links = record { calls = calls'; channels = c.follow.new.self.machine.channels.items; timers = c.follow.new.out.timers.items; done = c.follow.new.out.done.items } in
    on_ok (Follows mid.0.desk.book (expired_of turn.input) (record { about = c.known_before-known.result; sent_away = sent_away turn.answer }) (back_on c.said_in-said.result) c.args.self.now.machine.site.value turn.steps.items before behind)
    (TimersRun old.0.desk.book calls → TimersRun c.follow.new.self.controller.0.desk.book calls') c.follow.result
    (λ followed run. subst (λ (p : Position). TimersRun p.0.desk.book calls') (sym c.follow.ensures.controller)
    (timers_run old.0.desk.opening old.0.desk.book mid.0.desk.opening mid.0.desk.book old.0.desk.history mid.0.desk.history (expired_of turn.input) turn.steps.items calls calls' c.book.ensures.legal it.legal it.opening it.asked followed.calls run))
    c.follow.ensures.follows

pub returns-in-Ok-clause-stops : goal.returns-in-Ok-clause-stops
returns-in-Ok-clause-stops g c =
    stops_so c.follow.result c.in-Ok.turn c.args.input c.said_in-said.result c.args.self.now.controller c.take_turn.new.controller c.follow.new.self.controller c.known_before-known.result
    _ _ c.follow.ensures.fault c.in-Ok.ensures.turn c.in-Ok.ensures.input c.said_in-said.ensures.said c.follow.ensures.controller
    (c.known_before-known.ensures.known ∙ ap (λ (s : State). known_before s c.chan_of.result) c.book.ensures.book ∙ ap (known_before c.args.self.now.controller.0.desk.book) c.chan_of.ensures)
    c.follow.ensures.so_far
