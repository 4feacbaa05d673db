use Rattle.std.proofs.Common.{◌≡◌, ◌-◌, drop, Some, sym, ap, ◌∙◌}
use Rattle.std.specs.Option.{option_or}
use Rattle.lab_runs.specs.Asked.{released_in}
use Rattle.lab_runs.proofs.ChannelFacts.{found_behind}
use Rattle.lab_runs.proofs.calls.released_channel.Goals as goal

-- none behind it, so it is the last
pub returns-in-Some-clause-channel : goal.returns-in-Some-clause-channel
returns-in-Some-clause-channel g c =
    let book = c.args.desk.now.book in
    let h = c.args.desk.now.history in
    let call = c.args.call in
    let place = c.loop-place.place in
    let last : released_in book call (drop (place - 1) h) ≡ Some c.in-Some.chan =
    c.in-Some.ensures.channel ∙ ap (λ o. option_or o (Some c.in-Some.chan)) c.loop-place.invariant in
    sym (found_behind book call h (place - 1) c.in-Some.chan last)
