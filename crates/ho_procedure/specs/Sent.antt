-- The messages that a controller sends.
use Rattle.std.specs.Prelude.{◌≢◌, ℕ, List, [], map}
use Rattle.exchange.specs.declared.Outbound.{Outbound}
use Rattle.exchange.specs.declared.Outbound.TheVariants as outbound

-- Octets that are sent on Abis, to a TRX of a cell (TS 48.058), or on A, about a call (TS 48.008).
pub data Sent : Type 0 where
  OnAbis : ℕ → ℕ → List ℕ → Sent
  OnA : ℕ → List ℕ → Sent

abbrev pub sent : {A : Type 0} → Outbound A → Sent
sent (outbound.Abis cell trx octets) = OnAbis cell trx octets
sent (outbound.A call octets) = OnA call octets

abbrev pub all_sent : {A : Type 0} → List (Outbound A) → List Sent
all_sent messages = map sent messages

-- the message has octets, so that a copy of it takes memory
abbrev pub SendsOctets : Sent → Type 0
SendsOctets (OnAbis cell trx octets) = octets ≢ []
SendsOctets (OnA call octets) = octets ≢ []
