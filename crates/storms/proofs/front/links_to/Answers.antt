use Rattle.std.proofs.Common.{◌≡◌, rules}
use Rattle.std.proofs.lemmas.List.Elements.{All-push}
use Rattle.storms.proofs.front.links_to.Goals as goal

pub loop-preserved : goal.loop-preserved
loop-preserved g c = record {
  count = search rules;
  fresh = rw c.in_ok-push.ensures.items (All-push (λ links. links.refused ≡ 0) c.loop.links.items c.new.result c.loop.invariant.fresh c.new.ensures.refused);
}
