use Rattle.std.proofs.Common.{◌≡◌, rules}
use Rattle.std.proofs.lemmas.List.Elements.{All-push}
use Rattle.worker_tests.proofs.bag.bags.Goals as goal

pub loop-preserved : goal.loop-preserved
loop-preserved g c = record {
  count = search rules;
  fresh = rw c.in_ok-push.ensures.items (All-push (λ bag. bag.refused ≡ 0) c.loop.bags.items c.new.result c.loop.invariant.fresh c.new.ensures.fresh);
}
