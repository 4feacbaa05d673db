-- The message on Abis that a text says (TS 48.058 clause 8), or the first thing that is wrong with the text: its name; a word
-- that is no field of the message; then each field, in the order in which it stands here. A text is the list of its bytes;
-- the words are ours, of no standard.
use Rattle.std.specs.Prelude.{◌≡◌, ◌⊎◌, ℕ, ◌+◌, ◌&&◌, Bool, true, false, nat_le, if◌then◌else◌, List, [], ◌∷◌, length, codes, Option, Some, None, option_map, option_and_then, unwrap_or, Ok, Err, IsOkAnd, bytes_eq}
use Rattle.std.specs.Result.{result_ok}
use Rattle.encoded_messages.specs.FieldFaults.{Read as FieldRead, ◌>>=◌, ◌>>◌, read_map}
use Rattle.encoded_messages.specs.Fields.{name_of, fields_of, only_keys, number_at, cause_at, traffic_channel_at, optional_octet_at, octets_at, optional_octets_at}
use Rattle.rsl_messages.specs.declared.message.ChanBits.{ChanBits}
use Rattle.rsl_messages.specs.declared.message.Rsl.{Rsl}
use Rattle.rsl_messages.specs.declared.message.Rsl.TheVariants.{DataRequest, DataIndication, ChannelActivation, ChannelActivationAck, ChannelActivationNack, ConnectionFailureIndication, HandoverDetection, MeasurementResult, RfChannelRelease, RfChannelReleaseAck}
use Rattle.rsl_messages.specs.Texts.{HasCanonical, canonical_text}
use Rattle.encoded_messages.specs.Faults.{Fault, Name, NoLayer3, TooLong, Read, in_fields, as_layer3}
use Rattle.encoded_messages.specs.Words.{around_semicolon}
use Rattle.encoded_messages.specs.Rr as rr
use Rattle.rr_messages.specs.Rr.{rr_text}

-- the channel that a message is about
unfoldable pub channel : List ℕ → FieldRead ChanBits
channel fields = read_map (λ c. record { tn = c.0; sub = c.1 }) (traffic_channel_at (codes "tn") fields)

unfoldable pub data_request : {A : Type 0} → List ℕ → FieldRead (Rsl A)
data_request fields = do
  only_keys (codes "tn" ∷ codes "link" ∷ codes "layer3" ∷ []) fields
  channel ← channel fields
  link ← number_at 255 (codes "link") fields
  layer3 ← octets_at 1 (codes "layer3") fields
  Ok (DataRequest channel link layer3)

unfoldable pub data_indication : {A : Type 0} → List ℕ → FieldRead (Rsl A)
data_indication fields = do
  only_keys (codes "tn" ∷ codes "link" ∷ codes "layer3" ∷ []) fields
  channel ← channel fields
  link ← number_at 255 (codes "link") fields
  layer3 ← octets_at 1 (codes "layer3") fields
  Ok (DataIndication channel link layer3)

-- the keys of the fields of CHANNEL ACTIVATION
unfoldable pub activation_keys : List (List ℕ)
activation_keys = codes "tn" ∷ codes "activation" ∷ codes "mode" ∷ codes "reference" ∷ []

unfoldable pub activation : {A : Type 0} → List ℕ → FieldRead (Rsl A)
activation fields = do
  only_keys activation_keys fields
  channel ← channel fields
  activation ← number_at 255 (codes "activation") fields
  mode ← octets_at 1 (codes "mode") fields
  reference ← optional_octet_at (codes "reference") fields
  Ok (ChannelActivation channel activation mode reference)

unfoldable pub activation_ack : {A : Type 0} → List ℕ → FieldRead (Rsl A)
activation_ack fields = do
  only_keys (codes "tn" ∷ codes "frame" ∷ []) fields
  channel ← channel fields
  frame ← number_at 65535 (codes "frame") fields
  Ok (ChannelActivationAck channel frame)

unfoldable pub cause : List ℕ → FieldRead (ChanBits × ℕ)
cause fields = do
  only_keys (codes "tn" ∷ codes "cause" ∷ []) fields
  channel ← channel fields
  cause ← cause_at (codes "cause") fields
  Ok (channel, cause)

unfoldable pub detection : {A : Type 0} → List ℕ → FieldRead (Rsl A)
detection fields = do
  only_keys (codes "tn" ∷ codes "delay" ∷ []) fields
  channel ← channel fields
  delay ← optional_octet_at (codes "delay") fields
  Ok (HandoverDetection channel delay)

-- the keys of the fields of MEASUREMENT RESULT
unfoldable pub measurement_keys : List (List ℕ)
measurement_keys = codes "tn" ∷ codes "number" ∷ codes "uplink" ∷ codes "power" ∷ codes "layer3" ∷ []

unfoldable pub measurement : {A : Type 0} → List ℕ → FieldRead (Rsl A)
measurement fields = do
  only_keys measurement_keys fields
  channel ← channel fields
  number ← number_at 255 (codes "number") fields
  uplink ← octets_at 0 (codes "uplink") fields
  power ← number_at 255 (codes "power") fields
  layer3 ← optional_octets_at 1 (codes "layer3") fields
  Ok (MeasurementResult channel number uplink power layer3)

unfoldable pub channel_alone : List ℕ → FieldRead ChanBits
channel_alone fields = do
  only_keys (codes "tn" ∷ []) fields
  channel fields

-- the message of this name with these fields, without those that have octets
unfoldable pub short_message : {A : Type 0} → List ℕ → List ℕ → Read (Rsl A)
short_message name fields =
    if bytes_eq name (codes "CHANNEL ACTIVATION ACK") then in_fields (activation_ack fields)
    else if bytes_eq name (codes "CHANNEL ACTIVATION NACK") then in_fields (read_map (λ c. ChannelActivationNack c.0 c.1) (cause fields))
    else if bytes_eq name (codes "CONNECTION FAILURE INDICATION") then in_fields (read_map (λ c. ConnectionFailureIndication c.0 c.1) (cause fields))
    else if bytes_eq name (codes "HANDOVER DETECTION") then in_fields (detection fields)
    else if bytes_eq name (codes "RF CHANNEL RELEASE") then in_fields (read_map RfChannelRelease (channel_alone fields))
    else if bytes_eq name (codes "RF CHANNEL RELEASE ACK") then in_fields (read_map RfChannelReleaseAck (channel_alone fields))
    else Err (Name name)

-- the message of this name with these fields
unfoldable pub message_of : {A : Type 0} → List ℕ → List ℕ → Read (Rsl A)
message_of name fields =
    if bytes_eq name (codes "DATA REQUEST") then in_fields (data_request fields)
    else if bytes_eq name (codes "DATA INDICATION") then in_fields (data_indication fields)
    else if bytes_eq name (codes "CHANNEL ACTIVATION") then in_fields (activation fields)
    else if bytes_eq name (codes "MEASUREMENT RESULT") then in_fields (measurement fields)
    else short_message name fields

-- DATA REQUEST and DATA INDICATION without their layer 3
unfoldable pub data_head : List ℕ → FieldRead (ChanBits × ℕ)
data_head fields = do
  only_keys (codes "tn" ∷ codes "link" ∷ []) fields
  channel ← channel fields
  link ← number_at 255 (codes "link") fields
  Ok (channel, link)

-- the keys of the fields of MEASUREMENT RESULT without its layer 3
unfoldable pub measurement_keys_with : List (List ℕ)
measurement_keys_with = codes "tn" ∷ codes "number" ∷ codes "uplink" ∷ codes "power" ∷ []

-- MEASUREMENT RESULT with these octets of layer 3
unfoldable pub measurement_with : {A : Type 0} → List ℕ → List ℕ → FieldRead (Rsl A)
measurement_with layer3 fields = do
  only_keys measurement_keys_with fields
  channel ← channel fields
  number ← number_at 255 (codes "number") fields
  uplink ← octets_at 0 (codes "uplink") fields
  power ← number_at 255 (codes "power") fields
  Ok (MeasurementResult channel number uplink power (Some layer3))

-- the message of this name with these fields and these octets of layer 3; messages without layer 3 have none
unfoldable pub message_with : {A : Type 0} → List ℕ → List ℕ → List ℕ → Read (Rsl A)
message_with name fields layer3 =
    if bytes_eq name (codes "DATA REQUEST") then in_fields (read_map (λ d. DataRequest d.0 d.1 layer3) (data_head fields))
    else if bytes_eq name (codes "DATA INDICATION") then in_fields (read_map (λ d. DataIndication d.0 d.1 layer3) (data_head fields))
    else if bytes_eq name (codes "MEASUREMENT RESULT") then in_fields (measurement_with layer3 fields)
    else Err (NoLayer3 name)

-- what a text says whose message has its layer 3 in words behind it, and what another says
abbrev pub in_parts : {A : Type 0} → List ℕ → Option (List ℕ × List ℕ) → Read (Rsl A)
in_parts text None = message_of (name_of text) (fields_of text)
in_parts text (Some (front, words)) = as_layer3 (rr.message_in words) >>= (λ layer3. message_with (name_of front) (fields_of front) (rr_text layer3))

-- The message that a text says: by its name and its fields; or, where a `;` and a blank stand in it, by those in front, with the
-- radio resource message that the words behind them say as its layer 3.
abbrev pub message_in : {A : Type 0} → List ℕ → Read (Rsl A)
message_in text = in_parts text (around_semicolon text)

-- they say a message that has a canonical text
abbrev pub CanBeWritten : Type 0 → List ℕ → Type 0
CanBeWritten A text = IsOkAnd (message_in {A = A} text) HasCanonical

-- and that is these octets
abbrev pub Writes : Type 0 → List ℕ → List ℕ → Type 0
Writes A text octets = IsOkAnd (message_in {A = A} text) (λ message. HasCanonical message × (octets ≡ canonical_text message))

-- The first thing that is wrong with a text: they say no message, and why; or one that has no canonical text.
abbrev pub HasFault : Type 0 → List ℕ → Fault → Type 0
HasFault A text fault = (message_in {A = A} text ≡ Err fault) ⊎ ((fault ≡ TooLong) × IsOkAnd (message_in {A = A} text) (λ message. HasCanonical message → ⊥))

-- Behind the head and the channel number of MEASUREMENT RESULT, in 1,024 octets, so many of uplink measurements and, where
-- there is one, of a report have room.
abbrev pub measured_fit : ℕ → Option ℕ → Bool
measured_fit uplink None = nat_le uplink 255
measured_fit uplink (Some report) = nat_le uplink 255 && nat_le (uplink + report) 1011

-- a message that a text says has a canonical text: no list in it is too long, nor all of it
abbrev pub can_be_written : {A : Type 0} → Rsl A → Bool
can_be_written (DataRequest channel link layer3) = nat_le (length layer3) 1015
can_be_written (DataIndication channel link layer3) = nat_le (length layer3) 1015
can_be_written (ChannelActivation channel activation mode reference) = nat_le (length mode) 255
can_be_written (ChannelActivationAck channel frame) = true
can_be_written (ChannelActivationNack channel cause) = true
can_be_written (ConnectionFailureIndication channel cause) = true
can_be_written (HandoverDetection channel delay) = true
can_be_written (MeasurementResult channel number uplink power layer3) = measured_fit (length uplink) (option_map (λ octets. length octets) layer3)
can_be_written (RfChannelRelease channel) = true
can_be_written (RfChannelReleaseAck channel) = true

-- the canonical text of a message, where it has one
abbrev pub octets_of_message : {A : Type 0} → Rsl A → Option (List ℕ)
octets_of_message message = if can_be_written message then Some (canonical_text message) else None

-- what fields say can be written
abbrev pub can_be_written_of : FieldRead (Rsl Unit) → Bool
can_be_written_of read = unwrap_or (option_map can_be_written (result_ok read)) false

-- and of what a name and fields say
abbrev pub can_be_written_in : Read (Rsl Unit) → Bool
can_be_written_in read = unwrap_or (option_map can_be_written (result_ok read)) false

-- so many octets, where they are at most this many
abbrev pub up_to : ℕ → Option ℕ → Option ℕ
up_to most octets = option_and_then (λ n. if nat_le n most then Some n else None) octets

-- The octets of the message that a text says, which is its canonical text; nothing where the text says none that has one.
unfoldable pub octets_said : List ℕ → Option (List ℕ)
octets_said text = option_and_then octets_of_message (result_ok (message_in {A = Unit} text))
