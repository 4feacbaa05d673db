use Rattle.std.proofs.Common.{◌≢◌, ℕ, List, []}
use Rattle.decoded_lines.specs.Messages.{IsBssmapMessage, IsAbisMessage}
use Rattle.decoded_lines.proofs.messages.print_or_fault.Goals as goal

-- a message has octets
bssmap-octets : {A : Type 0} (octets : List ℕ) → IsBssmapMessage A octets → octets ≢ []
bssmap-octets octets message none = let framed = message.1.head.framed in absurd cc

abis-octets : {A : Type 0} (octets : List ℕ) → IsAbisMessage A octets → octets ≢ []
abis-octets octets message none = let head = message.1.head.1 in absurd cc

pub returns-in-A-clause-some : goal.returns-in-A-clause-some
returns-in-A-clause-some g c = λ refused. bssmap-octets c.args.octets.now (c.print_bssmap.ensures.memory refused)

pub returns-in-Abis-clause-some : goal.returns-in-Abis-clause-some
returns-in-Abis-clause-some g c = λ refused. abis-octets c.args.octets.now (c.print_abis.ensures.memory refused)
