use Rattle.std.proofs.Common.{drop, if◌then◌else◌, None, Some, ap, ◌∙◌}
use Rattle.lab_runs.specs.Asked.{released_by}
use Rattle.lab_runs.proofs.ChannelFacts.{none_before, one_before}
use Rattle.lab_runs.proofs.calls.released_before.Goals as goal

pub returns-in_default-clause-channel : goal.returns-in_default-clause-channel
returns-in_default-clause-channel g c = none_before c.args.desk.now.book c.args.call c.args.desk.now.history c.args.place c.requires c.in_default.ensures.entry

pub returns-in_default-taken_by-clause-channel : goal.returns-in_default-taken_by-clause-channel
returns-in_default-taken_by-clause-channel g c =
    let b = c.args.desk.now.book in
    let h = c.args.desk.now.history in
    one_before b c.args.call h c.args.place c.in-Some.entry.now None c.requires c.in-Some.ensures.entry
    (ap (released_by b (drop c.args.place h)) c.in_default-taken_by.ensures)

pub returns-then-is_left-clause-channel : goal.returns-then-is_left-clause-channel
returns-then-is_left-clause-channel g c =
    let b = c.args.desk.now.book in
    let h = c.args.desk.now.history in
    let x = c.in-Some-taken_by.chan in
    one_before b c.args.call h c.args.place c.in-Some.entry.now (Some x) c.requires c.in-Some.ensures.entry
    (ap (λ left. if left then Some x else None) c.if-is_left.ensures.left ∙ ap (released_by b (drop c.args.place h)) c.in-Some-taken_by.ensures)

pub returns-else-is_left-clause-channel : goal.returns-else-is_left-clause-channel
returns-else-is_left-clause-channel g c =
    let b = c.args.desk.now.book in
    let h = c.args.desk.now.history in
    let x = c.in-Some-taken_by.chan in
    one_before b c.args.call h c.args.place c.in-Some.entry.now None c.requires c.in-Some.ensures.entry
    (ap (λ left. if left then Some x else None) c.if-is_left.ensures.left ∙ ap (released_by b (drop c.args.place h)) c.in-Some-taken_by.ensures)
