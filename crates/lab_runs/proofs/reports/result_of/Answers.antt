use Rattle.std.proofs.Common.{[], ◌∷◌, length, length-append, ap, arith}
use Rattle.rsl_messages.specs.declared.message.ChanBits.{ChanBits}
use Rattle.rsl_messages.proofs.Written.{canonical_of}
use Rattle.lab_runs.proofs.reports.result_of.Goals as goal

pub encode-requires : goal.encode-requires
encode-requires g c =
    let three = ap length c.in_ok-uplink_of.ensures in
    let timeslot = ap (λ (b : ChanBits). b.tn) c.bits_of.ensures in
    let long = length-append c.in_ok-uplink_of.field-0 (4 ∷ c.args.power ∷ []) in
    canonical_of _ (omega arith, omega arith, tt) (omega arith)
