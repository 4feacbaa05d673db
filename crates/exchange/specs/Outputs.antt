-- What an output of a controller holds.
use Rattle.std.specs.Prelude.{ℕ, List}
use Rattle.exchange.specs.declared.Outbound.{Outbound}
use Rattle.exchange.specs.declared.Outbound.TheVariants as outbound

-- the octets of the message
abbrev pub octets_sent : {A : Type 0} → Outbound A → List ℕ
octets_sent (outbound.Abis cell trx octets) = octets
octets_sent (outbound.A call octets) = octets
