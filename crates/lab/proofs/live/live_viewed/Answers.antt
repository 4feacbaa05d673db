use Rattle.std.proofs.Common.{◌≡◌, true, Result, Ok, Err, IsOk, OnOk, IfOk, IfSome, subst}
use Rattle.lab.proofs.live.live_viewed.Goals as goal

-- what is so where a call went well, of one that did
went_well : {T E : Type 0} (r : Result T E) (P : Type 0) → IsOk r → OnOk r P → P
went_well (Ok x) P is_ok so = so
went_well (Err e) P is_ok so = absurd cc

pub returns : goal.returns
returns g c = record {
  handled = λ done.
      let ended = subst (λ r. IfOk r (λ status. c.ended_live.result ≡ Ok status)) done c.ended_viewed.ensures.ended in
      went_well c.live_run-ended.result _ (c.ended_live.ensures.done ended) c.live_run-ended.ensures.handled;
}
