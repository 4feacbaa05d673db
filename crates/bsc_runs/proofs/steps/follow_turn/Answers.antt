use Rattle.std.proofs.Common.{◌≡◌, ◌++◌, refl}
use Rattle.link_machine.proofs.Walks.{on_err}
use Rattle.bsc_runs.specs.Turns.{Links, channels_behind, done_behind, ChannelsSoFar, Follows, FollowsSoFar}
use Rattle.bsc_runs.proofs.StepFacts.{both_ok, where_err, all_follow, timers_stop, channels_stop}
use Rattle.bsc_runs.proofs.steps.follow_turn.Goals as goal

pub returns-in_err-follow_timers-clause-so_far : goal.returns-in_err-follow_timers-clause-so_far
returns-in_err-follow_timers-clause-so_far g c =
    let l : Links = record { calls = c.args.machine.now.calls.items; channels = c.args.machine.now.channels.items; timers = c.args.out.now.timers.items; done = c.args.out.now.done.items } in
    on_err _ c.from_residual.result
    (timers_stop c.args.book.now c.args.given.expired c.args.given.turn c.args.steps.now l _ _ _ _ c.in_err-follow_timers.ensures.told c.follow_timers.ensures.channels refl)

pub returns-clause-follows : goal.returns-clause-follows
returns-clause-follows g c =
    let l : Links = record { calls = c.args.machine.now.calls.items; channels = c.args.machine.now.channels.items; timers = c.args.out.now.timers.items; done = c.args.out.now.done.items } in
    let b = c.args.book.now in
    let turn = c.args.given.turn in
    let back = c.args.given.back in
    let steps = c.args.steps.now in
    let site = c.follow_timers.new.machine.site.value in
    let calls = c.follow_timers.new.machine.calls.items in
    let cs = c.follow_timers.new.machine.channels.items in
    both_ok (c.follow_channels.new.machine.channels.items ≡ channels_behind b turn back site steps calls cs)
    (c.follow_channels.new.out.items ≡ c.args.out.now.done.items ++ done_behind b turn back site steps calls cs)
    (Follows b c.args.given.expired turn back c.args.machine.now.site.value steps l (record { calls = c.follow_channels.new.machine.calls.items; channels = c.follow_channels.new.machine.channels.items; timers = c.follow_timers.new.out.items; done = c.follow_channels.new.out.items }))
    c.follow_channels.result
    (λ are told. all_follow b c.args.given.expired turn back c.args.machine.now.site.value site steps l calls c.follow_channels.new.machine.calls.items cs _ _ _
    c.in_ok-follow_timers.ensures.site c.in_ok-follow_timers.ensures.channels c.in_ok-follow_timers.ensures.calls c.in_ok-follow_timers.ensures.changes c.follow_channels.ensures.calls are told)
    c.follow_channels.ensures.channels c.follow_channels.ensures.done

pub returns-clause-so_far : goal.returns-clause-so_far
returns-clause-so_far g c =
    let l : Links = record { calls = c.args.machine.now.calls.items; channels = c.args.machine.now.channels.items; timers = c.args.out.now.timers.items; done = c.args.out.now.done.items } in
    let b = c.args.book.now in
    let turn = c.args.given.turn in
    let steps = c.args.steps.now in
    let calls = c.follow_timers.new.machine.calls.items in
    let cs = c.follow_timers.new.machine.channels.items in
    where_err (ChannelsSoFar b turn calls cs c.args.out.now.done.items c.follow_channels.new.machine.channels.items c.follow_channels.new.out.items)
    (FollowsSoFar b c.args.given.expired turn steps l (record { calls = c.follow_channels.new.machine.calls.items; channels = c.follow_channels.new.machine.channels.items; timers = c.follow_timers.new.out.items; done = c.follow_channels.new.out.items }))
    c.follow_channels.result
    (λ so. channels_stop b c.args.given.expired turn steps l calls c.follow_channels.new.machine.calls.items cs _ _ _
    c.in_ok-follow_timers.ensures.channels c.in_ok-follow_timers.ensures.calls c.in_ok-follow_timers.ensures.changes c.follow_channels.ensures.calls so)
    c.follow_channels.ensures.told
