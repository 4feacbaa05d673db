-- A capture file: a header, and then packets one behind the other (pcap, draft-ietf-opsawg-pcap). The numbers in it
-- have their most significant octet first, which a reader sees by the magic number.
use Rattle.std.specs.Prelude.{ℕ, List, ◌++◌}
use Rattle.capture.specs.Datagram.{total_len, datagram}
use Rattle.capture.specs.Numbers.{two, four}
use Rattle.capture.specs.declared.segment.Segment.{Segment}

-- the magic number A1B2C3D4 of a file with microseconds; version 2.4; two reserved numbers; the most octets that are
-- kept of a packet; the link type 101: each packet begins with an internet header
abbrev pub file_header : List ℕ
file_header = four 2712847316 ++ two 2 ++ two 4 ++ four 0 ++ four 0 ++ four 65535 ++ four 101

-- the time in seconds and microseconds; how many octets are kept, and how many there were
abbrev pub packet_header : ℕ → ℕ → List ℕ
packet_header seconds len = four seconds ++ four 0 ++ four len ++ four len

-- a datagram that was seen at this second
unfoldable pub packet : ℕ → Segment → List ℕ → List ℕ
packet seconds s load = packet_header seconds (total_len load) ++ datagram s load
