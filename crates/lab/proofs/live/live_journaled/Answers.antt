use Rattle.std.proofs.Common.{◌≡◌, false, Result, Ok, Err, IsOk, OnOk, IfOk, IfSome, subst}
use Rattle.std.specs.declared.alloc.Global.{Global}
use Rattle.live_runs.specs.Lines.{items_from}
use Rattle.live_runs.specs.Live.{Played}
use Rattle.lab.proofs.live.live_journaled.Goals as goal

-- what is so where a call went well, of one that did
went_well : {T E : Type 0} (r : Result T E) (P : Type 0) → IsOk r → OnOk r P → P
went_well (Ok x) P is_ok so = so
went_well (Err e) P is_ok so = absurd cc

pub returns : goal.returns
returns g c = record {
  handled = λ done.
      let ended = subst (λ r. IfOk r (λ status. c.ended_live.result ≡ Ok status)) done c.ended_viewed.ensures.ended in
      let ran = went_well c.live_run-ended.result _ (c.in_ok-ended.ensures.ended (c.ended_live.ensures.done ended)) c.live_run-ended.ensures.handled in
      subst (λ sims. IfSome (g.I.Read.remaining c.args.reader.now) (λ octets. Played Global c.args.opened.book (items_from {A = Global} sims false octets))) c.rules_behind-rules.ensures.sims ran;
}
