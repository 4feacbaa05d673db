use Rattle.std.proofs.Common.{Err, ap, subst, ◌∙◌}
use Rattle.radio_desk.specs.Desk.{IsForeign}
use Rattle.audits.proofs.traced.judge.Goals as goal

-- a new seat has no receipt
pub unreachable-requires : goal.unreachable-requires
unreachable-requires g c =
    let place = c.in-Err-Foreign.field-0-0 in
    let foreign = (c.judge.ensures.foreign place).0 (c.in-Err-Foreign.is ∙ ap (λ fault. Err fault) c.in-Err-Foreign.field-0-is) in
    subst (λ seat. IsForeign c.args.desk.now.history seat place) c.new.ensures.none foreign
