-- Which addresses and ports tell a message's link. Ours, of no standard.
use Rattle.std.specs.Prelude.{◌≡◌, ◌<◌, ℕ, ◌+◌, ◌*◌, ◌/◌, ◌%◌, ◌^◌}
use Rattle.capture.specs.declared.path.Side.{Side}
use Rattle.capture.specs.declared.path.Side.TheVariants.{First, Peer}
use Rattle.capture.specs.declared.path.Wire.{Wire}
use Rattle.capture.specs.declared.path.Wire.TheVariants.{Abis, A}
use Rattle.capture.specs.declared.path.Path.{Path}
use Rattle.capture.specs.declared.path.Way.{Way}
use Rattle.capture.specs.declared.path.Way.TheVariants.{Sent, Received}
use Rattle.capture.specs.declared.path.Stream.{Stream}
use Rattle.capture.specs.declared.segment.Segment.{Segment}

-- the address 10.b.c.d
abbrev pub address : ℕ → ℕ → ℕ → ℕ
address b c d = 167772160 + b * 65536 + c * 256 + d

-- the number of a controller
abbrev pub number_of : Side → ℕ
number_of First = 1
number_of Peer = 2

-- a controller: 10.0.0.1, or 10.0.0.2
abbrev pub near : Path → ℕ
near p = address 0 0 (number_of p.side)

-- The other end: of a TRX 10.N.CELL.TRX, where N is the controller's number; of a call the centre, at the digits of the
-- call's number: 10.(100 N + first digit).(the next two).(the last two).
abbrev pub far : Side → Wire → ℕ
far side (Abis cell trx) = address (number_of side) cell trx
far side (A call) = address (100 * number_of side + call / 100 / 100) (call / 100 % 100) (call % 100)

-- the ports that IPA's protocols have: 3003 of Abis, 5000 of A
abbrev pub port_of : Wire → ℕ
port_of (Abis cell trx) = 3003
port_of (A call) = 5000

-- the next segment of a stream
abbrev pub segment : Path → Way → Stream → Segment
segment p Sent s = record { source = near p; destination = far p.side p.link; port = port_of p.link; sequence = s.sent; acknowledgment = s.received }
segment p Received s = record { source = far p.side p.link; destination = near p; port = port_of p.link; sequence = s.received; acknowledgment = s.sent }

-- the stream behind a segment with so many octets of data: its sequence number rises by them (RFC 9293 clause 3.4)
abbrev pub behind : Way → Stream → ℕ → Stream
behind Sent s len = record { sent = (s.sent + len) % 2 ^ 32; received = s.received }
behind Received s len = record { sent = s.sent; received = (s.received + len) % 2 ^ 32 }

-- a stream that nothing was sent in: both ends begin behind a handshake whose sequence numbers were 0
abbrev pub begun : Stream
begun = record { sent = 1; received = 1 }

-- a link's numbers are those that its types have
abbrev pub Fits : Wire → Type 0
Fits (Abis cell trx) = (cell < 256) × (trx < 256)
Fits (A call) = call < 65536

-- no two links of the controllers have the same other end
abbrev pub FarIsUnique : Type 0
FarIsUnique = (s t : Side) (k l : Wire) → Fits k → Fits l → far s k ≡ far t l → (s ≡ t) × (k ≡ l)
