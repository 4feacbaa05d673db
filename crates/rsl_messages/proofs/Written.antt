-- A message has a canonical text exactly where its fields can be written.
use Rattle.std.proofs.Common.{◌≡◌, ℕ, ◌+◌, ◌*◌, ◌<◌, ◌≤◌, ◌/◌, ◌%◌, List, [], ◌∷◌, length, length-append, Option, Some, None, Result, Ok, Err, refl, sym, ◌∙◌, ap, arith, subst, cond, IfSome}
use borrow.Author.Tests.{eq-eqb}
use Rattle.std.specs.List.{AllByRecursion}
use Rattle.octet_elements.specs.Elements.{Fits, FitsAs, first_of, all_octets, nth}
use Rattle.octet_elements.specs.ChannelTypes.{type_of, sub_of}
use Rattle.timeslots.specs.declared.Sub.{Sub}
use Rattle.octet_elements.specs.Lookup.{Lookup, values_in}
use Rattle.octet_elements.specs.Rows.{◌>>=◌}
use Rattle.octet_elements.specs.Rows.{Row, octet, optional_octet, u16_be, octets, any_octets, optional_octets, ◌▸◌}
use Rattle.octet_elements.specs.Values.{optional_octet_in, u16_be_in, u16_octets, octets_in, optional_octets_in, where_some, where_value}
use Rattle.octet_elements.specs.declared.form.Form.TheVariants.{Fixed}
use Rattle.octet_elements.specs.declared.values.ValueFault.{ValueFault}
use Rattle.octet_elements.proofs.ChannelTypeLemmas.{sub_again}
use Rattle.octet_elements.proofs.Rows.{went_on, both_read, each_read}
use Rattle.octet_elements.proofs.Spelling.{IsFixedAs}
use Rattle.octet_elements.proofs.Splits.{AreFixed}
use Rattle.octet_elements.proofs.Texts.{written_says}
use Rattle.rsl_messages.specs.declared.message.ChanBits.{ChanBits}
use Rattle.rsl_messages.specs.declared.message.Rsl.{Rsl}
use Rattle.rsl_messages.specs.declared.message.Rsl.TheVariants.{DataRequest, DataIndication, ChannelActivation, ChannelActivationAck, ChannelActivationNack, ConnectionFailureIndication, HandoverDetection, MeasurementResult, RfChannelRelease, RfChannelReleaseAck}
use Rattle.rsl_messages.specs.Forms.{abis, LINK_IDENTIFIER, ACTIVATION_TYPE, POWER, CHANNEL_MODE, FRAME_NUMBER, HANDOVER_REFERENCE, LAYER3, ACCESS_DELAY, UPLINK_MEASUREMENTS, CAUSE, RESULT_NUMBER}
use Rattle.rsl_messages.specs.Heads.{Begins}
use Rattle.rsl_messages.specs.Values.{channel_with, channel_in, channel_octet}
use Rattle.rsl_messages.specs.Messages.{head_of, Said, CanBeSaid, said, kind_of, elements_of, channel_number, data_rows, activation_rows, activation_ack_rows, cause_rows, detection_rows, measurement_rows}
use Rattle.rsl_messages.specs.Texts.{codec, HasCanonical, canonical_text, limit}
use Rattle.rsl_messages.proofs.Unique.{one_head}

-- Each reader reads again what is written.
channel_again : (channel : ChanBits) → channel.tn < 8 → channel_in (Some (channel_octet channel ∷ [])) ≡ Ok channel
channel_again channel h =
    let n = 8 * type_of channel.sub + channel.tn in
    let kind : n / 8 ≡ type_of channel.sub = omega arith in
    let same : n % 8 ≡ channel.tn = omega arith in
    ap (λ k. channel_with (sub_of k) (n % 8)) kind ∙ ap (λ found. channel_with found (n % 8)) (sub_again channel.sub) ∙ (λ i. Ok (record { tn = same i; sub = channel.sub }))

octets_again : (i : ℕ) (v : List ℕ) → 0 < length v → octets_in i (Some v) ≡ Ok v
octets_again i [] h = absurd (omega arith)
octets_again i (octet ∷ v) h = refl

octets_some_again : (i : ℕ) (v : List ℕ) → 0 < length v → optional_octets_in i (Some v) ≡ Ok (Some v)
octets_some_again i [] h = absurd (omega arith)
octets_some_again i (octet ∷ v) h = refl

optional_again : (i : ℕ) (o : Option ℕ) → optional_octet_in i (first_of i (where_some i o)) ≡ Ok o
optional_again i None = refl
optional_again i (Some n) = ap (λ b. optional_octet_in i (nth 0 (cond b ((n ∷ []) ∷ []) []))) (eq-eqb i i refl)

u16_again : (i n : ℕ) → u16_be_in i (Some (u16_octets n)) ≡ Ok n
u16_again i n = let same : 256 * (n / 256) + n % 256 ≡ n = omega arith in ap Ok same

-- the timeslot of the channel that is read, or else this one
abbrev tn_or : ℕ → Result ChanBits ValueFault → ℕ
tn_or tn (Ok channel) = channel.tn
tn_or tn (Err fault) = tn

-- A reader that goes on has read what was written, and it fits.
channel_fits : (channel read : ChanBits) → channel_in (Some (channel_octet channel ∷ [])) ≡ Ok read → read ≡ channel → channel.tn < 8
channel_fits channel read h same = by (sub_of ((8 * type_of channel.sub + channel.tn) / 8)) h
  where
    by : (found : Option Sub) → channel_with found ((8 * type_of channel.sub + channel.tn) % 8) ≡ Ok read → channel.tn < 8
    by None h = absurd cc
    by (Some sub) h =
        let tn : (8 * type_of channel.sub + channel.tn) % 8 ≡ channel.tn = ap (λ r. tn_or 0 r) h ∙ ap (λ c. c.tn) same in
        omega arith

-- the first of the two values that are read, or else this one
abbrev first_or : {X Y F : Type 0} → X → Result (X × Y) F → X
first_or x (Ok xy) = xy.0
first_or x (Err fault) = x

-- the first of some rows has read the first of what they read
first_read : {X Y : Type 0} (a : Row X) (b : Row Y) (found : Lookup) (xy : X × Y) → (a ▸ b).read found ≡ Ok xy → a.read found ≡ Ok xy.0
first_read a b found xy h =
    let first = went_on (a.read found) (λ x. b.read found >>= λ y. Ok (x, y)) xy h in
    let second = went_on (b.read found) (λ y. Ok (first.0, y)) xy first.2 in
    first.1 ∙ ap (λ r. Ok (first_or first.0 r)) second.2

octets_some : (i : ℕ) (v : List ℕ) → (read : List ℕ) × (octets_in i (Some v) ≡ Ok read) → 0 < length v
octets_some i [] (read, h) = cc
octets_some i (octet ∷ v) h = omega arith

optional_some : (i : ℕ) (v : List ℕ) → (read : Option (List ℕ)) × (optional_octets_in i (Some v) ≡ Ok read) → 0 < length v
optional_some i [] (read, h) = cc
optional_some i (octet ∷ v) h = omega arith

octet_fits : (i : ℕ) (o : Option ℕ) → abis i ≡ Fixed 1 → AllByRecursion (Fits abis) (where_some i o)
octet_fits i None form = tt
octet_fits i (Some n) form = (subst (λ f. FitsAs f (n ∷ [])) (sym form) refl, tt)

fixed_some : (i : ℕ) (o : Option ℕ) → abis i ≡ Fixed 1 → AreFixed abis (where_some i o)
fixed_some i None form = tt
fixed_some i (Some n) form = (subst (λ f. IsFixedAs f (n ∷ [])) (sym form) refl, tt)

fixed_layer3 : (o : Option (List ℕ)) → AreFixed abis (where_value LAYER3 o)
fixed_layer3 None = tt
fixed_layer3 (Some v) = (tt, tt)

are_fixed : {A : Type 0} (v : Rsl A) → AreFixed abis (elements_of v)
are_fixed (DataRequest channel link layer3) = (refl, (refl, (tt, tt)))
are_fixed (DataIndication channel link layer3) = (refl, (refl, (tt, tt)))
are_fixed (ChannelActivation channel activation mode reference) = (refl, (refl, (tt, fixed_some HANDOVER_REFERENCE reference refl)))
are_fixed (ChannelActivationAck channel frame) = (refl, (refl, tt))
are_fixed (ChannelActivationNack channel cause) = (refl, (tt, tt))
are_fixed (ConnectionFailureIndication channel cause) = (refl, (tt, tt))
are_fixed (HandoverDetection channel delay) = (refl, fixed_some ACCESS_DELAY delay refl)
are_fixed (MeasurementResult channel number uplink power layer3) = (refl, (refl, (tt, (refl, fixed_layer3 layer3))))
are_fixed (RfChannelRelease channel) = (refl, tt)
are_fixed (RfChannelReleaseAck channel) = (refl, tt)

-- What is written fits and says the message exactly where it is a text of it.
text_of : {A : Type 0} (v : Rsl A) → length (canonical_text v) ≤ limit → AllByRecursion (Fits abis) (elements_of v) → said (kind_of v) (values_in (elements_of v)) ≡ Ok v → HasCanonical v
text_of v within each says = record {
  kind = kind_of v;
  body = all_octets abis (elements_of v);
  head = (within, ((head_of (kind_of v)).0, (head_of (kind_of v)).1, refl, (refl, refl)));
  says = record { elements = elements_of v; split = record { each = each; spelling = refl }; says = says };
}

written_of : {A : Type 0} (v : Rsl A) → HasCanonical v → AllByRecursion (Fits abis) (elements_of v) × (said (kind_of v) (values_in (elements_of v)) ≡ Ok v)
written_of {A} v h =
    let here : Begins (kind_of v) (canonical_text v) (all_octets abis (elements_of v)) = ((head_of (kind_of v)).0, (head_of (kind_of v)).1, refl, (refl, refl)) in
    let same = one_head h.kind (kind_of v) (canonical_text v) h.body (all_octets abis (elements_of v)) h.head.1 here in
    written_says (codec A) h.kind (kind_of v) h.body (elements_of v) v same.0 same.1 (are_fixed v) h.says

-- The rows of each message read again what they write, and no more than can be written.
data_again : (channel : ChanBits) (link : ℕ) (layer3 : List ℕ) → channel.tn < 8 → 0 < length layer3 → data_rows.read (values_in (data_rows.written (channel, (link, layer3)))) ≡ Ok (channel, (link, layer3))
data_again channel link layer3 p q =
    let found = values_in (data_rows.written (channel, (link, layer3))) in
    both_read channel_number (octet LINK_IDENTIFIER ▸ octets LAYER3) found channel (link, layer3) (channel_again channel p) (both_read (octet LINK_IDENTIFIER) (octets LAYER3) found link layer3 refl (octets_again LAYER3 layer3 q))

data_fits : (channel : ChanBits) (link : ℕ) (layer3 : List ℕ) (read : ChanBits × (ℕ × List ℕ)) → data_rows.read (values_in (data_rows.written (channel, (link, layer3)))) ≡ Ok read → read.0 ≡ channel → (channel.tn < 8) × (0 < length layer3)
data_fits channel link layer3 read h same =
    let found = values_in (data_rows.written (channel, (link, layer3))) in
    let first = each_read channel_number (octet LINK_IDENTIFIER ▸ octets LAYER3) found read h in
    let second = each_read (octet LINK_IDENTIFIER) (octets LAYER3) found first.1.0 first.1.1 in
    (channel_fits channel read.0 (first_read channel_number (octet LINK_IDENTIFIER ▸ octets LAYER3) found read h) same, octets_some LAYER3 layer3 second.1)

activation_again : (channel : ChanBits) (activation : ℕ) (mode : List ℕ) (reference : Option ℕ) → channel.tn < 8 → 0 < length mode → activation_rows.read (values_in (activation_rows.written (channel, (activation, (mode, reference))))) ≡ Ok (channel, (activation, (mode, reference)))
activation_again channel activation mode reference p q =
    let found = values_in (activation_rows.written (channel, (activation, (mode, reference)))) in
    let last = octets CHANNEL_MODE ▸ optional_octet HANDOVER_REFERENCE in
    both_read channel_number (octet ACTIVATION_TYPE ▸ last) found channel (activation, (mode, reference)) (channel_again channel p) (both_read (octet ACTIVATION_TYPE) last found activation (mode, reference) refl (both_read (octets CHANNEL_MODE) (optional_octet HANDOVER_REFERENCE) found mode reference (octets_again CHANNEL_MODE mode q) (optional_again HANDOVER_REFERENCE reference)))

activation_fits : (channel : ChanBits) (activation : ℕ) (mode : List ℕ) (reference : Option ℕ) (read : ChanBits × (ℕ × (List ℕ × Option ℕ))) → activation_rows.read (values_in (activation_rows.written (channel, (activation, (mode, reference))))) ≡ Ok read → read.0 ≡ channel → (channel.tn < 8) × (0 < length mode)
activation_fits channel activation mode reference read h same =
    let found = values_in (activation_rows.written (channel, (activation, (mode, reference)))) in
    let last = octets CHANNEL_MODE ▸ optional_octet HANDOVER_REFERENCE in
    let first = each_read channel_number (octet ACTIVATION_TYPE ▸ last) found read h in
    let second = each_read (octet ACTIVATION_TYPE) last found first.1.0 first.1.1 in
    let third = each_read (octets CHANNEL_MODE) (optional_octet HANDOVER_REFERENCE) found second.1.0 second.1.1 in
    (channel_fits channel read.0 (first_read channel_number (octet ACTIVATION_TYPE ▸ last) found read h) same, octets_some CHANNEL_MODE mode third.0)

layer3_again : (o : Option (List ℕ)) → IfSome o (λ l. 0 < length l) → optional_octets_in LAYER3 (first_of LAYER3 (where_value LAYER3 o)) ≡ Ok o
layer3_again None h = refl
layer3_again (Some v) h = octets_some_again LAYER3 v h

layer3_some : (o : Option (List ℕ)) → (read : Option (List ℕ)) × (optional_octets_in LAYER3 (first_of LAYER3 (where_value LAYER3 o)) ≡ Ok read) → IfSome o (λ l. 0 < length l)
layer3_some None h = tt
layer3_some (Some v) h = optional_some LAYER3 v h

measurement_again : (channel : ChanBits) (number : ℕ) (uplink : List ℕ) (power : ℕ) (layer3 : Option (List ℕ)) → channel.tn < 8 → IfSome layer3 (λ l. 0 < length l) → measurement_rows.read (values_in (measurement_rows.written (channel, (number, (uplink, (power, layer3)))))) ≡ Ok (channel, (number, (uplink, (power, layer3))))
measurement_again channel number uplink power layer3 p q =
    let found = values_in (measurement_rows.written (channel, (number, (uplink, (power, layer3))))) in
    let last = octet POWER ▸ optional_octets LAYER3 in
    let middle = any_octets UPLINK_MEASUREMENTS ▸ last in
    both_read channel_number (octet RESULT_NUMBER ▸ middle) found channel (number, (uplink, (power, layer3))) (channel_again channel p) (both_read (octet RESULT_NUMBER) middle found number (uplink, (power, layer3)) refl (both_read (any_octets UPLINK_MEASUREMENTS) last found uplink (power, layer3) refl (both_read (octet POWER) (optional_octets LAYER3) found power layer3 refl (layer3_again layer3 q))))

measurement_fits : (channel : ChanBits) (number : ℕ) (uplink : List ℕ) (power : ℕ) (layer3 : Option (List ℕ)) (read : ChanBits × (ℕ × (List ℕ × (ℕ × Option (List ℕ))))) → measurement_rows.read (values_in (measurement_rows.written (channel, (number, (uplink, (power, layer3)))))) ≡ Ok read → read.0 ≡ channel → (channel.tn < 8) × IfSome layer3 (λ l. 0 < length l)
measurement_fits channel number uplink power layer3 read h same =
    let found = values_in (measurement_rows.written (channel, (number, (uplink, (power, layer3))))) in
    let last = octet POWER ▸ optional_octets LAYER3 in
    let middle = any_octets UPLINK_MEASUREMENTS ▸ last in
    let first = each_read channel_number (octet RESULT_NUMBER ▸ middle) found read h in
    let second = each_read (octet RESULT_NUMBER) middle found first.1.0 first.1.1 in
    let third = each_read (any_octets UPLINK_MEASUREMENTS) last found second.1.0 second.1.1 in
    let fourth = each_read (octet POWER) (optional_octets LAYER3) found third.1.0 third.1.1 in
    (channel_fits channel read.0 (first_read channel_number (octet RESULT_NUMBER ▸ middle) found read h) same, layer3_some layer3 fourth.1)

-- A layer 3 message in a text that isn't too long has a length of two octets.
layer3_fits : (o : Option (List ℕ)) (n : ℕ) → n + length (all_octets abis (where_value LAYER3 o)) ≤ limit → AllByRecursion (Fits abis) (where_value LAYER3 o)
layer3_fits None n h = tt
layer3_fits (Some v) n h = let long = length-append v [] in (omega arith, tt)

-- What can be written has a canonical text.
pub canonical_of : {A : Type 0} (v : Rsl A) → CanBeSaid v → length (canonical_text v) ≤ limit → HasCanonical v
canonical_of {A} (DataRequest channel link layer3) h within = let v : Rsl A = DataRequest channel link layer3 in let long = length-append layer3 [] in
    text_of v within (refl, (refl, (omega arith, tt))) (λ i. data_again channel link layer3 h.0 h.1 i >>= λ (channel, (link, layer3)). Ok (DataRequest channel link layer3))
canonical_of {A} (DataIndication channel link layer3) h within = let v : Rsl A = DataIndication channel link layer3 in let long = length-append layer3 [] in
    text_of v within (refl, (refl, (omega arith, tt))) (λ i. data_again channel link layer3 h.0 h.1 i >>= λ (channel, (link, layer3)). Ok (DataIndication channel link layer3))
canonical_of {A} (ChannelActivation channel activation mode reference) h within = let v : Rsl A = ChannelActivation channel activation mode reference in
    text_of v within (refl, (refl, (h.2, octet_fits HANDOVER_REFERENCE reference refl))) (λ i. activation_again channel activation mode reference h.0 h.1 i >>= λ (channel, (activation, (mode, reference))). Ok (ChannelActivation channel activation mode reference))
canonical_of {A} (ChannelActivationAck channel frame) h within = let v : Rsl A = ChannelActivationAck channel frame in
    text_of v within (refl, (refl, tt)) (λ i. both_read channel_number (u16_be FRAME_NUMBER) (values_in (elements_of v)) channel frame (channel_again channel h) (u16_again FRAME_NUMBER frame) i >>= λ (channel, frame). Ok (ChannelActivationAck channel frame))
canonical_of {A} (ChannelActivationNack channel cause) h within = let v : Rsl A = ChannelActivationNack channel cause in
    text_of v within (refl, (omega arith, tt)) (λ i. both_read channel_number (octet CAUSE) (values_in (elements_of v)) channel cause (channel_again channel h) refl i >>= λ (channel, cause). Ok (ChannelActivationNack channel cause))
canonical_of {A} (ConnectionFailureIndication channel cause) h within = let v : Rsl A = ConnectionFailureIndication channel cause in
    text_of v within (refl, (omega arith, tt)) (λ i. both_read channel_number (octet CAUSE) (values_in (elements_of v)) channel cause (channel_again channel h) refl i >>= λ (channel, cause). Ok (ConnectionFailureIndication channel cause))
canonical_of {A} (HandoverDetection channel delay) h within = let v : Rsl A = HandoverDetection channel delay in
    text_of v within (refl, octet_fits ACCESS_DELAY delay refl) (λ i. both_read channel_number (optional_octet ACCESS_DELAY) (values_in (elements_of v)) channel delay (channel_again channel h) (optional_again ACCESS_DELAY delay) i >>= λ (channel, delay). Ok (HandoverDetection channel delay))
canonical_of {A} (MeasurementResult channel number uplink power layer3) h within =
    let v : Rsl A = MeasurementResult channel number uplink power layer3 in
    let long = length-append uplink (POWER ∷ power ∷ all_octets abis (where_value LAYER3 layer3)) in
    text_of v within (refl, (refl, (h.1, (refl, layer3_fits layer3 0 (omega arith))))) (λ i. measurement_again channel number uplink power layer3 h.0 h.2 i >>= λ (channel, (number, (uplink, (power, layer3)))). Ok (MeasurementResult channel number uplink power layer3))
canonical_of {A} (RfChannelRelease channel) h within = let v : Rsl A = RfChannelRelease channel in
    text_of v within (refl, tt) (λ i. channel_again channel h i >>= λ channel. Ok (RfChannelRelease channel))
canonical_of {A} (RfChannelReleaseAck channel) h within = let v : Rsl A = RfChannelReleaseAck channel in
    text_of v within (refl, tt) (λ i. channel_again channel h i >>= λ channel. Ok (RfChannelReleaseAck channel))

-- What has a canonical text can be written.
are_writable : {A : Type 0} (v : Rsl A) → AllByRecursion (Fits abis) (elements_of v) → said (kind_of v) (values_in (elements_of v)) ≡ Ok v → CanBeSaid v
are_writable {A} (DataRequest channel link layer3) each says =
    let go : ChanBits × (ℕ × List ℕ) → Said A = λ (channel, (link, layer3)). Ok (DataRequest channel link layer3) in
    let read = went_on (data_rows.read (values_in (data_rows.written (channel, (link, layer3))))) go (DataRequest channel link layer3) says in
    let is = read.2 in
    let same : read.0.0 ≡ channel = cc in
    data_fits channel link layer3 read.0 read.1 same
are_writable {A} (DataIndication channel link layer3) each says =
    let go : ChanBits × (ℕ × List ℕ) → Said A = λ (channel, (link, layer3)). Ok (DataIndication channel link layer3) in
    let read = went_on (data_rows.read (values_in (data_rows.written (channel, (link, layer3))))) go (DataIndication channel link layer3) says in
    let is = read.2 in
    let same : read.0.0 ≡ channel = cc in
    data_fits channel link layer3 read.0 read.1 same
are_writable {A} (ChannelActivation channel activation mode reference) each says =
    let go : ChanBits × (ℕ × (List ℕ × Option ℕ)) → Said A = λ (channel, (activation, (mode, reference))). Ok (ChannelActivation channel activation mode reference) in
    let read = went_on (activation_rows.read (values_in (activation_rows.written (channel, (activation, (mode, reference)))))) go (ChannelActivation channel activation mode reference) says in
    let is = read.2 in
    let same : read.0.0 ≡ channel = cc in
    let fits = activation_fits channel activation mode reference read.0 read.1 same in
    (fits.0, fits.1, each.1.1.0)
are_writable {A} (ChannelActivationAck channel frame) each says =
    let found = values_in (activation_ack_rows.written (channel, frame)) in
    let go : ChanBits × ℕ → Said A = λ (channel, frame). Ok (ChannelActivationAck channel frame) in
    let read = went_on (activation_ack_rows.read found) go (ChannelActivationAck channel frame) says in
    let is = read.2 in
    let same : read.0.0 ≡ channel = cc in
    channel_fits channel read.0.0 (first_read channel_number (u16_be FRAME_NUMBER) found read.0 read.1) same
are_writable {A} (ChannelActivationNack channel cause) each says =
    let found = values_in (cause_rows.written (channel, cause)) in
    let go : ChanBits × ℕ → Said A = λ (channel, cause). Ok (ChannelActivationNack channel cause) in
    let read = went_on (cause_rows.read found) go (ChannelActivationNack channel cause) says in
    let is = read.2 in
    let same : read.0.0 ≡ channel = cc in
    channel_fits channel read.0.0 (first_read channel_number (octet CAUSE) found read.0 read.1) same
are_writable {A} (ConnectionFailureIndication channel cause) each says =
    let found = values_in (cause_rows.written (channel, cause)) in
    let go : ChanBits × ℕ → Said A = λ (channel, cause). Ok (ConnectionFailureIndication channel cause) in
    let read = went_on (cause_rows.read found) go (ConnectionFailureIndication channel cause) says in
    let is = read.2 in
    let same : read.0.0 ≡ channel = cc in
    channel_fits channel read.0.0 (first_read channel_number (octet CAUSE) found read.0 read.1) same
are_writable {A} (HandoverDetection channel delay) each says =
    let found = values_in (detection_rows.written (channel, delay)) in
    let go : ChanBits × Option ℕ → Said A = λ (channel, delay). Ok (HandoverDetection channel delay) in
    let read = went_on (detection_rows.read found) go (HandoverDetection channel delay) says in
    let is = read.2 in
    let same : read.0.0 ≡ channel = cc in
    channel_fits channel read.0.0 (first_read channel_number (optional_octet ACCESS_DELAY) found read.0 read.1) same
are_writable {A} (MeasurementResult channel number uplink power layer3) each says =
    let go : ChanBits × (ℕ × (List ℕ × (ℕ × Option (List ℕ)))) → Said A = λ (channel, (number, (uplink, (power, layer3)))). Ok (MeasurementResult channel number uplink power layer3) in
    let read = went_on (measurement_rows.read (values_in (measurement_rows.written (channel, (number, (uplink, (power, layer3))))))) go (MeasurementResult channel number uplink power layer3) says in
    let is = read.2 in
    let same : read.0.0 ≡ channel = cc in
    let fits = measurement_fits channel number uplink power layer3 read.0 read.1 same in
    (fits.0, each.1.1.0, fits.1)
are_writable {A} (RfChannelRelease channel) each says =
    let go : ChanBits → Said A = λ channel. Ok (RfChannelRelease channel) in
    let read = went_on (channel_in (Some (channel_octet channel ∷ []))) go (RfChannelRelease channel) says in
    let is = read.2 in
    let same : read.0 ≡ channel = cc in
    channel_fits channel read.0 read.1 same
are_writable {A} (RfChannelReleaseAck channel) each says =
    let go : ChanBits → Said A = λ channel. Ok (RfChannelReleaseAck channel) in
    let read = went_on (channel_in (Some (channel_octet channel ∷ []))) go (RfChannelReleaseAck channel) says in
    let is = read.2 in
    let same : read.0 ≡ channel = cc in
    channel_fits channel read.0 read.1 same

pub writable_of : {A : Type 0} (v : Rsl A) → HasCanonical v → CanBeSaid v × (length (canonical_text v) ≤ limit)
writable_of v h = let written = written_of v h in (are_writable v written.0 written.1, h.head.0)
