use Rattle.std.proofs.Common.{None, sym, ap, ◌∙◌, is_some, rules}
use Rattle.timeslots.specs.declared.Sub.TheVariants.{Full}
use Rattle.bts_model.specs.declared.hold.Hold.{Hold}
use Rattle.bts_model.specs.declared.setting.Held.TheVariants.{Acknowledgement}
use Rattle.bts_model.proofs.KeptFacts.{some_kept}
use Rattle.bts_model.proofs.hold.all_kept.Goals as goal

pub returns-in_err-push-clause-memory : goal.returns-in_err-push-clause-memory
returns-in_err-push-clause-memory g c =
    let none : Hold = record { place = record { controller = 0; channel = record { cell = 0; trx = 0; tn = 0; sub = Full } }; held = Acknowledgement; kept = None } in
    let some = ap is_some (sym c.kept_by.ensures ∙ c.in-Some.is) in
    let full = some_kept c.args.place c.args.holds.now c.loop-hold.hold-index none c.loop-hold-test.true some in
    search (rules, full)
