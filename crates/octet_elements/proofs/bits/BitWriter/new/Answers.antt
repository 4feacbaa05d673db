use Rattle.std.proofs.Common.{refl}
use Rattle.octet_elements.specs.Bits.{bits}
use Rattle.octet_elements.proofs.bits.BitWriter.new.Goals as goal

pub returns : goal.returns
unfolding bits
returns c = refl
