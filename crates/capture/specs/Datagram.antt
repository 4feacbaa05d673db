-- One segment of TCP in one internet datagram.
use Rattle.std.specs.Prelude.{ℕ, ◌+◌, List, [], ◌∷◌, ◌++◌, length}
use Rattle.capture.specs.Checksum.{checksum}
use Rattle.capture.specs.Numbers.{two, four}
use Rattle.capture.specs.declared.segment.Segment.{Segment}

-- The header of RFC 791 clause 3.1, field by field: version 4 and a header of five words; type of service 0; total
-- length; identification 0; the flag Don't Fragment alone, and no offset; time to live 64; protocol 6, which is TCP;
-- header checksum; source; destination. It has no options.
abbrev pub ipv4_header : Segment → ℕ → ℕ → List ℕ
ipv4_header s total sum = 69 ∷ 0 ∷ two total ++ two 0 ++ two 16384 ++ 64 ∷ 6 ∷ two sum ++ four s.source ++ four s.destination

-- The header of RFC 9293 clause 3.1, field by field: source port and destination port; sequence number;
-- acknowledgment number; data offset of five words; the control bits ACK and PSH; window 65535; checksum; urgent
-- pointer 0. It has no options.
abbrev pub tcp_header : Segment → ℕ → List ℕ
tcp_header s sum = two s.port ++ two s.port ++ four s.sequence ++ four s.acknowledgment ++ 80 ∷ 24 ∷ two 65535 ++ two sum ++ two 0

-- The pseudo header that TCP's checksum is taken over too (RFC 9293 clause 3.1): source address, destination address,
-- zero, protocol, and the length of header and data.
abbrev pub pseudo_header : Segment → ℕ → List ℕ
pseudo_header s len = four s.source ++ four s.destination ++ 0 ∷ 6 ∷ two len

-- how many octets a datagram has that carries this load
abbrev pub total_len : List ℕ → ℕ
total_len load = 40 + length load

-- the checksum of an internet header
abbrev pub header_sum : Segment → List ℕ → ℕ
header_sum s load = checksum (ipv4_header s (total_len load) 0)

-- the checksum of a segment
abbrev pub segment_sum : Segment → List ℕ → ℕ
segment_sum s load = checksum ((pseudo_header s (20 + length load) ++ tcp_header s 0) ++ load)

-- the datagram that carries this load
abbrev pub datagram : Segment → List ℕ → List ℕ
datagram s load = ipv4_header s (total_len load) (header_sum s load) ++ tcp_header s (segment_sum s load) ++ load
