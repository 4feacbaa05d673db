use Rattle.std.proofs.Common.{◌≡◌, All, vec_len}
use Rattle.storms.proofs.front.links_to.Given as goal

abbrev pub invariant-loop : goal.invariant-loop
invariant-loop g l = record {
  count : vec_len l.links ≡ l.counter;
  fresh : All (λ links. links.refused ≡ 0) l.links.items;
}
