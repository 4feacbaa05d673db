-- What an input of a controller holds.
use Rattle.std.specs.Prelude.{◌≢◌, []}
use Rattle.exchange.specs.declared.Inbound.{Inbound}
use Rattle.exchange.specs.declared.Inbound.TheVariants as inbound

-- the input has octets, so that a copy of it takes memory
abbrev pub HoldsOctets : {A : Type 0} → Inbound A → Type 0
HoldsOctets (inbound.Abis cell trx octets) = octets ≢ []
HoldsOctets (inbound.A call octets) = octets ≢ []
HoldsOctets (inbound.Expiry call timer) = ⊥
HoldsOctets (inbound.Operator line) = ⊥
