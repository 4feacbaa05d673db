use Rattle.std.proofs.Common.{rules, ◌≡◌, ◌+◌, length, arith}
use Rattle.capture.specs.Frames.{unitdata, bssap}
use Rattle.capture.proofs.frame.a_frame.Goals as goal

pub returns : goal.returns
returns g c =
    let whole : length (unitdata bssap bssap c.args.message.now) ≡ 12 + length c.args.message.now = omega arith in
    rw whole (search rules)
