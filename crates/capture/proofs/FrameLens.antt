-- How many octets frames and packets have.
use Rattle.std.proofs.Common.{◌≡◌, ◌≤◌, ◌+◌, ℕ, List, length, arith, refl}
use Rattle.capture.specs.declared.path.Wire.{Wire}
use Rattle.capture.specs.declared.path.Wire.TheVariants.{Abis, A}
use Rattle.capture.specs.declared.segment.Segment.{Segment}
use Rattle.capture.specs.Frames.{frame, limit}
use Rattle.capture.specs.Packet.{packet}

-- a frame fits into an internet datagram
pub frame_fits : (link : Wire) (message : List ℕ) → length message ≤ limit link → length (frame link message) ≤ 65495
unfolding frame
frame_fits (Abis cell trx) message short = omega arith
frame_fits (A call) message short = omega arith

pub packet_len : (seconds : ℕ) (s : Segment) (load : List ℕ) → length (packet seconds s load) ≡ 56 + length load
unfolding packet
packet_len seconds s load = omega arith
