use Rattle.std.proofs.Common.{◌≡◌, All, vec_len}
use Rattle.worker_tests.proofs.bag.bags.Given as goal

abbrev pub invariant-loop : goal.invariant-loop
invariant-loop g l = record {
  count : vec_len l.bags ≡ l.counter;
  fresh : All (λ bag. bag.refused ≡ 0) l.bags.items;
}
