use Rattle.std.proofs.Common.{◌≡◌, map, take}
use Rattle.bts_model.specs.Trxs.{trxs_of}
use Rattle.bts_model.proofs.trx.trxs_of.Given as goal

-- the sites so far
abbrev pub invariant-loop-controller : goal.invariant-loop-controller
invariant-loop-controller g l = l.trxs.items ≡ trxs_of (take l.controller (map (λ site. site.value) l.sites))
