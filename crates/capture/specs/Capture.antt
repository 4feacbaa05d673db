-- What a capture has, and what it gains by a message.
use Rattle.std.specs.Prelude.{◌≡◌, ◌≢◌, ℕ, List, ◌++◌, length, unwrap_or}
use Rattle.std.specs.Ordering.{nat_cmp}
use Rattle.std.specs.BTreeMap.{get}
use Rattle.capture.specs.declared.capture.Capture.{Capture}
use Rattle.capture.specs.declared.path.Path.{Path}
use Rattle.capture.specs.declared.path.Way.{Way}
use Rattle.capture.specs.declared.path.Stream.{Stream}
use Rattle.capture.specs.Ends.{far, segment, behind, begun}
use Rattle.capture.specs.Frames.{frame}
use Rattle.capture.specs.Packet.{file_header, packet}

-- the file's octets so far
abbrev pub octets_of : {A : Type 0} → Capture A → List ℕ
octets_of c = c.octets.items

-- how far the stream to this address has come
abbrev pub stream_of : {A : Type 0} → Capture A → ℕ → Stream
stream_of c address = unwrap_or (get nat_cmp c.streams address) begun

-- the file's header alone, and no stream in which anything was sent
pub record IsNew {A : Type 0} (c : Capture A) : Type 0 where
  pub octets : octets_of c ≡ file_header
  pub streams : (address : ℕ) → stream_of c address ≡ begun

-- The file has one packet more: the next segment of the path's stream, with these octets. That stream has come on by
-- them; other streams stand where they stood.
pub record AddsFrame {A : Type 0} (old new : Capture A) (seconds : ℕ) (p : Path) (way : Way) (load : List ℕ) : Type 0 where
  pub octets : octets_of new ≡ octets_of old ++ packet seconds (segment p way (stream_of old (far p.side p.link))) load
  pub stream : stream_of new (far p.side p.link) ≡ behind way (stream_of old (far p.side p.link)) (length load)
  pub others : (address : ℕ) → address ≢ far p.side p.link → stream_of new address ≡ stream_of old address

-- a packet is added: a message in the frame of its link
abbrev pub Adds : {A : Type 0} → Capture A → Capture A → ℕ → Path → Way → List ℕ → Type 0
Adds old new seconds p way message = AddsFrame old new seconds p way (frame p.link message)

-- all is as it was
pub record IsUnchanged {A : Type 0} (old new : Capture A) : Type 0 where
  pub octets : octets_of new ≡ octets_of old
  pub streams : (address : ℕ) → stream_of new address ≡ stream_of old address
