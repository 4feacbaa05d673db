use Rattle.std.proofs.Common.{◌+◌, ◌||◌, drop, sym, ap, ◌∙◌}
use Rattle.std.specs.List.{list_any}
use Rattle.lab_runs.specs.Asked.{takes}
use Rattle.lab_runs.proofs.ChannelFacts.{one_at, none_at}
use Rattle.lab_runs.proofs.calls.is_taken_at.Goals as goal

pub returns-in-Some : goal.returns-in-Some
returns-in-Some g c =
    let x = c.args.chan in
    let h = c.args.desk.now.history in
    let place = c.args.place in
    ap (list_any (takes x)) (one_at h place _ c.in-Some.ensures.entry) ∙ ap (λ b. b || list_any (takes x) (drop (place + 1) h)) (sym c.takes.ensures)

pub returns-in-None : goal.returns-in-None
returns-in-None g c = ap (list_any (takes c.args.chan)) (none_at c.args.desk.now.history c.args.place c.in-None.ensures.entry)
