-- Facts of the messages on Abis that texts say: whatever the allocator, a text says the same, and when that can be written.
use Rattle.std.proofs.Common.{◌≡◌, ℕ, ◌<◌, ◌≤◌, ◌/◌, ◌%◌, ◌∷◌, ◌++◌, ◌↔◌, ◌&&◌, nat_le, Bool, true, false, if◌then◌else◌, List, [], length, length-append, codes, Option, Some, None, option_and_then, IfSome, Ok, Err, is_some, is_ok, refl, sym, subst, ap, ◌∙◌, arith, inl, inr}
use Rattle.std.specs.Prelude.{bytes_eq}
use Rattle.std.specs.Result.{result_ok}
use Rattle.std.proofs.lemmas.Bool.{cases_Bool}
use Rattle.std.proofs.lemmas.Bool.Decides.{nat_tests}
use Rattle.timeslots.specs.declared.Sub.{Sub}
use Rattle.rsl_messages.specs.declared.message.ChanBits.{ChanBits}
use Rattle.rsl_messages.specs.declared.message.Rsl.{Rsl}
use Rattle.rsl_messages.specs.declared.message.Rsl.TheVariants.{DataRequest, DataIndication, ChannelActivation, ChannelActivationAck, ChannelActivationNack, ConnectionFailureIndication, HandoverDetection, MeasurementResult, RfChannelRelease, RfChannelReleaseAck}
use Rattle.rsl_messages.specs.Texts.{HasCanonical, canonical_text}
use Rattle.rsl_messages.proofs.Written.{canonical_of, writable_of}
use Rattle.encoded_messages.specs.FieldFaults.{Read as FieldRead, ◌>>=◌, read_map}
use Rattle.encoded_messages.specs.Faults.{Fault, Read, in_fields, as_layer3}
use Rattle.encoded_messages.specs.Faults as fault
use Rattle.encoded_messages.specs.Fields.{name_of, fields_of, only_keys, number_at, cause_at, traffic_channel_at, optional_octet_at, octets_at, optional_octets_at}
use Rattle.encoded_messages.specs.Abis.{channel, data_request, data_indication, activation_keys, activation, activation_ack, cause, detection, measurement_keys, measurement, channel_alone, short_message, message_of, data_head, measurement_keys_with, measurement_with, message_with, in_parts, message_in, can_be_written, can_be_written_of, can_be_written_in, octets_of_message, octets_said}
use Rattle.encoded_messages.specs.Words.{around_semicolon}
use Rattle.encoded_messages.specs.Rr as rr
use Rattle.rr_messages.specs.declared.message.Rr.{Rr}
use Rattle.rr_messages.specs.Rr.{rr_text}
use Rattle.encoded_messages.proofs.RrLemmas.{rr_long, rr_short}
use Rattle.encoded_messages.proofs.ReadLemmas.{Alike, after, past, made, chosen, of_fields, weaker, both_read, behind, channel_low, octets_long, optional_octets_long}

-- a message, its lists from no allocator
abbrev bare : {A : Type 0} → Rsl A → Rsl Unit
bare (DataRequest c link layer3) = DataRequest c link layer3
bare (DataIndication c link layer3) = DataIndication c link layer3
bare (ChannelActivation c n mode reference) = ChannelActivation c n mode reference
bare (ChannelActivationAck c frame) = ChannelActivationAck c frame
bare (ChannelActivationNack c why) = ChannelActivationNack c why
bare (ConnectionFailureIndication c why) = ConnectionFailureIndication c why
bare (HandoverDetection c delay) = HandoverDetection c delay
bare (MeasurementResult c number uplink power layer3) = MeasurementResult c number uplink power layer3
bare (RfChannelRelease c) = RfChannelRelease c
bare (RfChannelReleaseAck c) = RfChannelReleaseAck c

-- its fields are as a text can say them
abbrev AreRead : {A : Type 0} → Rsl A → Type 0
AreRead (DataRequest c link layer3) = (c.tn < 8) × (1 ≤ length layer3)
AreRead (DataIndication c link layer3) = (c.tn < 8) × (1 ≤ length layer3)
AreRead (ChannelActivation c n mode reference) = (c.tn < 8) × (1 ≤ length mode)
AreRead (ChannelActivationAck c frame) = c.tn < 8
AreRead (ChannelActivationNack c why) = c.tn < 8
AreRead (ConnectionFailureIndication c why) = c.tn < 8
AreRead (HandoverDetection c delay) = c.tn < 8
AreRead (MeasurementResult c number uplink power layer3) = (c.tn < 8) × IfSome layer3 (λ octets. 1 ≤ length octets)
AreRead (RfChannelRelease c) = c.tn < 8
AreRead (RfChannelReleaseAck c) = c.tn < 8

-- one is the other without octets, and its fields are so
abbrev Same : {A : Type 0} → Rsl A → Rsl Unit → Type 0
Same v w = (w ≡ bare v) × AreRead v

-- and which can be written
abbrev Short : {A : Type 0} → Rsl A → Rsl Unit → Type 0
Short v w = (w ≡ bare v) × AreRead v × (can_be_written w ≡ true)

-- the timeslot of a channel that is read
abbrev tn_or : ℕ → FieldRead ChanBits → ℕ
tn_or tn (Ok channel) = channel.tn
tn_or tn (Err fault) = tn

-- the channel of a message is one of a timeslot from 0 to 7
low : (fields : List ℕ) (c : ChanBits) → channel fields ≡ Ok c → c.tn < 8
unfolding channel
low fields c h = by (traffic_channel_at (codes "tn") fields) refl h
  where
    by : (r : FieldRead (ℕ × Sub)) → traffic_channel_at (codes "tn") fields ≡ r → read_map {Y = ChanBits} (λ c. record { tn = c.0; sub = c.1 }) r ≡ Ok c → c.tn < 8
    by (Ok x) e h = let tn = channel_low (codes "tn") fields x e in let same : x.0 ≡ c.tn = ap (tn_or 0) h in omega arith
    by (Err e) is h = absurd cc

cause_low : (fields : List ℕ) (c : ChanBits × ℕ) → cause fields ≡ Ok c → c.0.tn < 8
unfolding cause
cause_low fields c h =
    let read = behind (only_keys (codes "tn" ∷ codes "cause" ∷ []) fields) (channel fields >>= (λ channel. cause_at (codes "cause") fields >>= (λ cause. Ok (channel, cause)))) c h in
    let (channel, first, more) = both_read (channel fields) (λ channel. cause_at (codes "cause") fields >>= (λ cause. Ok (channel, cause))) c read in
    let (cause, _, is) = both_read (cause_at (codes "cause") fields) (λ cause. Ok (channel, cause)) c more in
    let same : channel ≡ c.0 = cc in
    subst (λ channel. channel.tn < 8) same (low fields channel first)

alone_low : (fields : List ℕ) (c : ChanBits) → channel_alone fields ≡ Ok c → c.tn < 8
unfolding channel_alone
alone_low fields c h = low fields c (behind (only_keys (codes "tn" ∷ []) fields) (channel fields) c h)

-- Fields say the same message, and one that can be read.
data_request_alike : (A : Type 0) (fields : List ℕ) → Alike (Same {A = A}) (data_request fields) (data_request fields)
unfolding data_request
data_request_alike A fields =
    past Same (only_keys (codes "tn" ∷ codes "link" ∷ codes "layer3" ∷ []) fields) _ _ (after Same (channel fields) _ _ (λ c at.
    after Same (number_at 255 (codes "link") fields) _ _ (λ link _.
    after Same (octets_at 1 (codes "layer3") fields) _ _ (λ layer3 read. (refl, (low fields c at, octets_long 1 (codes "layer3") fields layer3 read))))))

data_indication_alike : (A : Type 0) (fields : List ℕ) → Alike (Same {A = A}) (data_indication fields) (data_indication fields)
unfolding data_indication
data_indication_alike A fields =
    past Same (only_keys (codes "tn" ∷ codes "link" ∷ codes "layer3" ∷ []) fields) _ _ (after Same (channel fields) _ _ (λ c at.
    after Same (number_at 255 (codes "link") fields) _ _ (λ link _.
    after Same (octets_at 1 (codes "layer3") fields) _ _ (λ layer3 read. (refl, (low fields c at, octets_long 1 (codes "layer3") fields layer3 read))))))

activation_alike : (A : Type 0) (fields : List ℕ) → Alike (Same {A = A}) (activation fields) (activation fields)
unfolding activation
activation_alike A fields =
    past Same (only_keys activation_keys fields) _ _ (after Same (channel fields) _ _ (λ c at.
    after Same (number_at 255 (codes "activation") fields) _ _ (λ number _.
    after Same (octets_at 1 (codes "mode") fields) _ _ (λ mode read.
    after Same (optional_octet_at (codes "reference") fields) _ _ (λ reference _. (refl, (low fields c at, octets_long 1 (codes "mode") fields mode read)))))))

activation_ack_alike : (A : Type 0) (fields : List ℕ) → Alike (Short {A = A}) (activation_ack fields) (activation_ack fields)
unfolding activation_ack
activation_ack_alike A fields =
    past Short (only_keys (codes "tn" ∷ codes "frame" ∷ []) fields) _ _ (after Short (channel fields) _ _ (λ c at.
    after Short (number_at 65535 (codes "frame") fields) _ _ (λ frame _. (refl, low fields c at, refl))))

detection_alike : (A : Type 0) (fields : List ℕ) → Alike (Short {A = A}) (detection fields) (detection fields)
unfolding detection
detection_alike A fields =
    past Short (only_keys (codes "tn" ∷ codes "delay" ∷ []) fields) _ _ (after Short (channel fields) _ _ (λ c at.
    after Short (optional_octet_at (codes "delay") fields) _ _ (λ delay _. (refl, low fields c at, refl))))

measurement_alike : (A : Type 0) (fields : List ℕ) → Alike (Same {A = A}) (measurement fields) (measurement fields)
unfolding measurement
measurement_alike A fields =
    past Same (only_keys measurement_keys fields) _ _ (after Same (channel fields) _ _ (λ c at.
    after Same (number_at 255 (codes "number") fields) _ _ (λ number _.
    after Same (octets_at 0 (codes "uplink") fields) _ _ (λ uplink _.
    after Same (number_at 255 (codes "power") fields) _ _ (λ power _.
    after Same (optional_octets_at 1 (codes "layer3") fields) _ _ (λ layer3 read. (refl, (low fields c at, optional_octets_long 1 (codes "layer3") fields layer3 read))))))))

-- So do a name and its fields.
short_alike : (A : Type 0) (name fields : List ℕ) → Alike (Short {A = A}) (short_message name fields) (short_message name fields)
unfolding short_message
short_alike A name fields =
    chosen Short (bytes_eq name (codes "CHANNEL ACTIVATION ACK")) _ _ _ _ (of_fields Short _ _ (activation_ack_alike A fields)) (
    chosen Short (bytes_eq name (codes "CHANNEL ACTIVATION NACK")) _ _ _ _ (of_fields Short _ _ (made Short _ _ (cause fields) (λ c is. (refl, cause_low fields c is, refl)))) (
    chosen Short (bytes_eq name (codes "CONNECTION FAILURE INDICATION")) _ _ _ _ (of_fields Short _ _ (made Short _ _ (cause fields) (λ c is. (refl, cause_low fields c is, refl)))) (
    chosen Short (bytes_eq name (codes "HANDOVER DETECTION")) _ _ _ _ (of_fields Short _ _ (detection_alike A fields)) (
    chosen Short (bytes_eq name (codes "RF CHANNEL RELEASE")) _ _ _ _ (of_fields Short _ _ (made Short _ _ (channel_alone fields) (λ c is. (refl, alone_low fields c is, refl)))) (
    chosen Short (bytes_eq name (codes "RF CHANNEL RELEASE ACK")) _ _ _ _ (of_fields Short _ _ (made Short _ _ (channel_alone fields) (λ c is. (refl, alone_low fields c is, refl)))) refl)))))

alike : (A : Type 0) (name fields : List ℕ) → Alike (Same {A = A}) (message_of name fields) (message_of name fields)
unfolding message_of
alike A name fields =
    chosen Same (bytes_eq name (codes "DATA REQUEST")) _ _ _ _ (of_fields Same _ _ (data_request_alike A fields)) (
    chosen Same (bytes_eq name (codes "DATA INDICATION")) _ _ _ _ (of_fields Same _ _ (data_indication_alike A fields)) (
    chosen Same (bytes_eq name (codes "CHANNEL ACTIVATION")) _ _ _ _ (of_fields Same _ _ (activation_alike A fields)) (
    chosen Same (bytes_eq name (codes "MEASUREMENT RESULT")) _ _ _ _ (of_fields Same _ _ (measurement_alike A fields)) (weaker Short Same (λ v w h. (h.0, h.1)) _ _ (short_alike A name fields)))))

-- What stands beside the layer 3 of a message.
data_low : (fields : List ℕ) (d : ChanBits × ℕ) → data_head fields ≡ Ok d → d.0.tn < 8
unfolding data_head
data_low fields d h =
    let read = behind (only_keys (codes "tn" ∷ codes "link" ∷ []) fields) (channel fields >>= (λ channel. number_at 255 (codes "link") fields >>= (λ link. Ok (channel, link)))) d h in
    let (channel, first, more) = both_read (channel fields) (λ channel. number_at 255 (codes "link") fields >>= (λ link. Ok (channel, link))) d read in
    let (link, _, is) = both_read (number_at 255 (codes "link") fields) (λ link. Ok (channel, link)) d more in
    let same : channel ≡ d.0 = cc in
    subst (λ channel. channel.tn < 8) same (low fields channel first)

measurement_with_alike : (A : Type 0) (layer3 fields : List ℕ) → 1 ≤ length layer3 → Alike (Same {A = A}) (measurement_with layer3 fields) (measurement_with layer3 fields)
unfolding measurement_with
measurement_with_alike A layer3 fields long =
    past Same (only_keys measurement_keys_with fields) _ _ (after Same (channel fields) _ _ (λ c at.
    after Same (number_at 255 (codes "number") fields) _ _ (λ number _.
    after Same (octets_at 0 (codes "uplink") fields) _ _ (λ uplink _.
    after Same (number_at 255 (codes "power") fields) _ _ (λ power _. (refl, (low fields c at, long)))))))

with_alike : (A : Type 0) (name fields layer3 : List ℕ) → 1 ≤ length layer3 → Alike (Same {A = A}) (message_with name fields layer3) (message_with name fields layer3)
unfolding message_with
with_alike A name fields layer3 long =
    chosen Same (bytes_eq name (codes "DATA REQUEST")) _ _ _ _ (of_fields Same _ _ (made Same _ _ (data_head fields) (λ d is. (refl, (data_low fields d is, long))))) (
    chosen Same (bytes_eq name (codes "DATA INDICATION")) _ _ _ _ (of_fields Same _ _ (made Same _ _ (data_head fields) (λ d is. (refl, (data_low fields d is, long))))) (
    chosen Same (bytes_eq name (codes "MEASUREMENT RESULT")) _ _ _ _ (of_fields Same _ _ (measurement_with_alike A layer3 fields long)) refl))

text_alike : (A : Type 0) (text : List ℕ) → Alike (Same {A = A}) (message_in text) (message_in text)
text_alike A text = by (around_semicolon text)
  where
    by : (parts : Option (List ℕ × List ℕ)) → Alike (Same {A = A}) (in_parts text parts) (in_parts text parts)
    by None = alike A (name_of text) (fields_of text)
    by (Some (front, words)) = after Same (as_layer3 (rr.message_in words)) _ _ (λ layer3 _. with_alike A (name_of front) (fields_of front) (rr_text layer3) (rr_long layer3))

-- What is read can be written just where it has a canonical text.
written : {A : Type 0} (v : Rsl A) → AreRead v → (can_be_written v ≡ true) ↔ HasCanonical v
written (DataRequest c link layer3) h = let long = length-append layer3 [] in
    (λ t. canonical_of (DataRequest c link layer3) h (grind (arith, nat_tests, long, t)), λ text. let w = writable_of (DataRequest c link layer3) text in grind (arith, nat_tests, long, w.1))
written (DataIndication c link layer3) h = let long = length-append layer3 [] in
    (λ t. canonical_of (DataIndication c link layer3) h (grind (arith, nat_tests, long, t)), λ text. let w = writable_of (DataIndication c link layer3) text in grind (arith, nat_tests, long, w.1))
written (ChannelActivation c n mode None) h = let long = length-append mode [] in
    (λ t. canonical_of (ChannelActivation c n mode None) (h.0, h.1, grind (arith, nat_tests, t)) (grind (arith, nat_tests, long, t)), λ text. let w = writable_of (ChannelActivation c n mode None) text in grind (arith, nat_tests, w.0.2))
written (ChannelActivation c n mode (Some reference)) h = let long = length-append mode (9 ∷ reference ∷ []) in
    (λ t. canonical_of (ChannelActivation c n mode (Some reference)) (h.0, h.1, grind (arith, nat_tests, t)) (grind (arith, nat_tests, long, t)), λ text. let w = writable_of (ChannelActivation c n mode (Some reference)) text in grind (arith, nat_tests, w.0.2))
written (ChannelActivationAck c frame) h = (λ _. canonical_of (ChannelActivationAck c frame) h (omega arith), λ _. refl)
written (ChannelActivationNack c why) h = (λ _. canonical_of (ChannelActivationNack c why) h (omega arith), λ _. refl)
written (ConnectionFailureIndication c why) h = (λ _. canonical_of (ConnectionFailureIndication c why) h (omega arith), λ _. refl)
written (HandoverDetection c None) h = (λ _. canonical_of (HandoverDetection c None) h (omega arith), λ _. refl)
written (HandoverDetection c (Some delay)) h = (λ _. canonical_of (HandoverDetection c (Some delay)) h (omega arith), λ _. refl)
written (MeasurementResult c number uplink power None) h = let long = length-append uplink (4 ∷ power ∷ []) in
    (λ t. canonical_of (MeasurementResult c number uplink power None) (h.0, grind (arith, nat_tests, t), h.1) (grind (arith, nat_tests, long, t)), λ text. let w = writable_of (MeasurementResult c number uplink power None) text in grind (arith, nat_tests, w.0.1))
written (MeasurementResult c number uplink power (Some layer3)) h =
    let message = MeasurementResult c number uplink power (Some layer3) in
    let long = length-append uplink (4 ∷ power ∷ 11 ∷ length layer3 / 256 ∷ length layer3 % 256 ∷ layer3 ++ []) in
    let longer = length-append layer3 [] in
    (λ t. canonical_of message (h.0, grind (arith, nat_tests, t), h.1) (grind (arith, nat_tests, long, longer, t)), λ text. let w = writable_of message text in grind (arith, nat_tests, long, longer, w.0.1, w.1))
written (RfChannelRelease c) h = (λ _. canonical_of (RfChannelRelease c) h (omega arith), λ _. refl)
written (RfChannelReleaseAck c) h = (λ _. canonical_of (RfChannelReleaseAck c) h (omega arith), λ _. refl)

same_octets : {A : Type 0} (v : Rsl A) → octets_of_message (bare v) ≡ octets_of_message v
same_octets (DataRequest c link layer3) = refl
same_octets (DataIndication c link layer3) = refl
same_octets (ChannelActivation c n mode reference) = refl
same_octets (ChannelActivationAck c frame) = refl
same_octets (ChannelActivationNack c why) = refl
same_octets (ConnectionFailureIndication c why) = refl
same_octets (HandoverDetection c delay) = refl
same_octets (MeasurementResult c number uplink power layer3) = refl
same_octets (RfChannelRelease c) = refl
same_octets (RfChannelReleaseAck c) = refl

-- the octets of a message that is read twice
abbrev octets_read : Read (Rsl Unit) → Option (List ℕ)
octets_read r = option_and_then octets_of_message (result_ok r)

abbrev of_test : {A : Type 0} (v : Rsl A) → Bool → Option (List ℕ)
of_test v b = if b then Some (canonical_text v) else None

has_octets : {A : Type 0} (v : Rsl A) (r : Read (Rsl Unit)) → Alike Same (Ok v) r → HasCanonical v → octets_read r ≡ Some (canonical_text v)
has_octets v (Ok w) h canonical = ap octets_of_message h.0 ∙ same_octets v ∙ ap (of_test v) ((written v h.1).1 canonical)
has_octets v (Err e) h canonical = absurd h

has_none : {A : Type 0} (v : Rsl A) (r : Read (Rsl Unit)) → Alike Same (Ok v) r → (HasCanonical v → ⊥) → octets_read r ≡ None
has_none v (Ok w) h long = ap octets_of_message h.0 ∙ same_octets v ∙ elim (cases_Bool (can_be_written v)) [
  | inl e ↦ absurd (long ((written v h.1).0 e))
  | inr e ↦ ap (of_test v) e
]
has_none v (Err e) h long = absurd h

is_wrong : (A : Type 0) (e : Fault) (r : Read (Rsl Unit)) → Alike (Same {A = A}) (Err e) r → octets_read r ≡ None
is_wrong A e (Ok w) h = absurd h
is_wrong A e (Err f) h = refl

-- the octets that a text says: those of its message, whatever the allocator
pub said_octets : {A : Type 0} (text : List ℕ) (v : Rsl A) → message_in text ≡ Ok v → HasCanonical v → octets_said text ≡ Some (canonical_text v)
unfolding octets_said
said_octets text v h canonical = has_octets v (message_in text) (subst (λ r. Alike Same r (message_in text)) h (text_alike _ text)) canonical

-- none where that is too long
pub said_too_long : {A : Type 0} (text : List ℕ) (v : Rsl A) → message_in text ≡ Ok v → (HasCanonical v → ⊥) → octets_said text ≡ None
unfolding octets_said
said_too_long text v h long = has_none v (message_in text) (subst (λ r. Alike Same r (message_in text)) h (text_alike _ text)) long

-- nor where it says no message
pub said_nothing : (A : Type 0) (text : List ℕ) (e : Fault) → message_in {A = A} text ≡ Err e → octets_said text ≡ None
unfolding octets_said
said_nothing A text e h = is_wrong A e (message_in text) (subst (λ r. Alike Same r (message_in text)) h (text_alike _ text))

tested : {A : Type 0} (v : Rsl A) (b : Bool) → is_some (of_test v b) ≡ b
tested v true = refl
tested v false = refl

-- a text says octets just where its message can be written
pub says_octets : (text : List ℕ) → is_some (octets_said text) ≡ can_be_written_in (message_in text)
unfolding octets_said
says_octets text = by (message_in text)
  where
    by : (r : Read (Rsl Unit)) → is_some (octets_read r) ≡ can_be_written_in r
    by (Ok v) = tested v (can_be_written v)
    by (Err e) = refl

-- what fields say is what a message of them does
pub written_of_fields : (r : FieldRead (Rsl Unit)) → can_be_written_in (in_fields r) ≡ can_be_written_of r
written_of_fields (Ok v) = refl
written_of_fields (Err e) = refl

-- data with a radio resource message can always be written
fits_with : (layer3 : List ℕ) → length layer3 ≤ 255 → nat_le (length layer3) 1015 ≡ true
fits_with layer3 short = grind (arith, nat_tests, short)

pub request_written : (fields layer3 : List ℕ) → length layer3 ≤ 255 → is_ok (data_head fields) ≡ can_be_written_in (in_fields (read_map (λ d. DataRequest d.0 d.1 layer3) (data_head fields)))
request_written fields layer3 short = by (data_head fields)
  where
    by : (r : FieldRead (ChanBits × ℕ)) → is_ok r ≡ can_be_written_in (in_fields (read_map (λ d. DataRequest d.0 d.1 layer3) r))
    by (Ok d) = sym (fits_with layer3 short)
    by (Err e) = refl

pub indication_written : (fields layer3 : List ℕ) → length layer3 ≤ 255 → is_ok (data_head fields) ≡ can_be_written_in (in_fields (read_map (λ d. DataIndication d.0 d.1 layer3) (data_head fields)))
indication_written fields layer3 short = by (data_head fields)
  where
    by : (r : FieldRead (ChanBits × ℕ)) → is_ok r ≡ can_be_written_in (in_fields (read_map (λ d. DataIndication d.0 d.1 layer3) r))
    by (Ok d) = sym (fits_with layer3 short)
    by (Err e) = refl

-- a text says a message with its layer 3 in words where these say one, and what stands in front has room for it
pub parts_said : (front words : List ℕ) (has_layer3 has_room : Bool) → has_layer3 ≡ is_ok (rr.message_in words)
    → ((layer3 : List ℕ) → length layer3 ≤ 255 → has_room ≡ can_be_written_in (message_with (name_of front) (fields_of front) layer3))
    → (has_layer3 && has_room) ≡ can_be_written_in (as_layer3 (rr.message_in words) >>= (λ layer3. message_with (name_of front) (fields_of front) (rr_text layer3)))
parts_said front words has_layer3 has_room says room = rw says (by (rr.message_in words))
  where
    by : (r : Read Rr) → (is_ok r && has_room) ≡ can_be_written_in (as_layer3 r >>= (λ layer3. message_with (name_of front) (fields_of front) (rr_text layer3)))
    by (Ok layer3) = room (rr_text layer3) (rr_short layer3)
    by (Err (fault.Name name)) = refl
    by (Err (fault.NoLayer3 name)) = refl
    by (Err (fault.Layer3 name)) = refl
    by (Err (fault.Field fault)) = refl
    by (Err (fault.Neighbours count found)) = refl
    by (Err fault.TooLong) = refl
    by (Err fault.NoMemory) = refl

-- a message without octets can always be written
fits_always : {A : Type 0} (r : Read (Rsl A)) (s : Read (Rsl Unit)) → Alike Short r s → is_ok r ≡ can_be_written_in s
fits_always (Ok v) (Ok w) h = sym h.2
fits_always (Ok v) (Err f) h = absurd h
fits_always (Err e) (Ok w) h = absurd h
fits_always (Err e) (Err f) h = refl

pub short_written : (A : Type 0) (name fields : List ℕ) → is_ok (short_message {A = A} name fields) ≡ can_be_written_in (short_message name fields)
short_written A name fields = fits_always _ _ (short_alike A name fields)
