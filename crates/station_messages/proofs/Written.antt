-- A message has a canonical text exactly where its fields can be written.
use Rattle.std.proofs.Common.{◌≡◌, ℕ, ◌+◌, ◌*◌, ◌<◌, ◌≤◌, ◌/◌, ◌%◌, [], ◌∷◌, length, Option, Some, None, Result, Ok, Err, refl, ◌∙◌, ap, arith}
use Rattle.std.specs.List.{AllByRecursion}
use Rattle.octet_elements.specs.ChannelTypes.{type_of, sub_of}
use Rattle.octet_elements.specs.Elements.{Fits, all_octets}
use Rattle.octet_elements.specs.Lookup.{Lookup, values_in}
use Rattle.octet_elements.specs.Rows.{Row, ◌>>=◌, octet, ◌▸◌}
use Rattle.octet_elements.specs.declared.values.ValueFault.{ValueFault}
use Rattle.octet_elements.proofs.ChannelTypeLemmas.{sub_again}
use Rattle.octet_elements.proofs.Rows.{went_on, both_read}
use Rattle.octet_elements.proofs.Splits.{AreFixed}
use Rattle.octet_elements.proofs.Texts.{written_says}
use Rattle.timeslots.specs.declared.Sub.{Sub}
use Rattle.rsl_messages.specs.declared.message.ChanBits.{ChanBits}
use Rattle.rsl_messages.specs.Forms.{abis, LINK_IDENTIFIER}
use Rattle.rsl_messages.specs.Messages.{channel_number}
use Rattle.rsl_messages.specs.Values.{channel_with, channel_in, channel_octet}
use Rattle.station_messages.specs.declared.message.StationMessage.{StationMessage}
use Rattle.station_messages.specs.declared.message.StationMessage.TheVariants.{ReleaseIndication, DeactivateSacch}
use Rattle.station_messages.specs.Heads.{Begins}
use Rattle.station_messages.specs.Messages.{kind_head, said, kind_of, elements_of, CanBeSaid, release_indication_rows}
use Rattle.station_messages.specs.Texts.{codec, HasCanonical, canonical_text}
use Rattle.station_messages.proofs.ByKind.{kinds_are_told}
use Rattle.station_messages.proofs.Unique.{one_head}

-- The channel number is read again.
channel_again : (channel : ChanBits) → channel.tn < 8 → channel_in (Some (channel_octet channel ∷ [])) ≡ Ok channel
channel_again channel h =
    let n = 8 * type_of channel.sub + channel.tn in
    let kind : n / 8 ≡ type_of channel.sub = omega arith in
    let same : n % 8 ≡ channel.tn = omega arith in
    ap (λ k. channel_with (sub_of k) (n % 8)) kind ∙ ap (λ found. channel_with found (n % 8)) (sub_again channel.sub) ∙ (λ i. Ok (record { tn = same i; sub = channel.sub }))

-- the timeslot of the channel that is read, or else this one
abbrev tn_or : ℕ → Result ChanBits ValueFault → ℕ
tn_or tn (Ok channel) = channel.tn
tn_or tn (Err fault) = tn

-- What is read of a channel number that is written is below 8.
channel_fits : (channel read : ChanBits) → channel_in (Some (channel_octet channel ∷ [])) ≡ Ok read → read ≡ channel → channel.tn < 8
channel_fits channel read h same = by (sub_of ((8 * type_of channel.sub + channel.tn) / 8)) h
  where
    by : (found : Option Sub) → channel_with found ((8 * type_of channel.sub + channel.tn) % 8) ≡ Ok read → channel.tn < 8
    by None h = absurd cc
    by (Some sub) h =
        let tn : (8 * type_of channel.sub + channel.tn) % 8 ≡ channel.tn = ap (λ r. tn_or 0 r) h ∙ ap (λ c. c.tn) same in
        omega arith

-- the first of the two values that are read, or else this one
abbrev first_or : {X Y F : Type 0} → X → Result (X × Y) F → X
first_or x (Ok xy) = xy.0
first_or x (Err fault) = x

-- the first of some rows has read the first of what they read
first_read : {X Y : Type 0} (a : Row X) (b : Row Y) (found : Lookup) (xy : X × Y) → (a ▸ b).read found ≡ Ok xy → a.read found ≡ Ok xy.0
first_read a b found xy h =
    let first = went_on (a.read found) (λ x. b.read found >>= λ y. Ok (x, y)) xy h in
    let second = went_on (b.read found) (λ y. Ok (first.0, y)) xy first.2 in
    first.1 ∙ ap (λ r. Ok (first_or first.0 r)) second.2

are_fixed : (v : StationMessage) → AreFixed abis (elements_of v)
are_fixed (ReleaseIndication channel link) = (refl, (refl, tt))
are_fixed (DeactivateSacch channel) = (refl, tt)

short : (v : StationMessage) → length (canonical_text v) ≤ 1024
short (ReleaseIndication channel link) = omega arith
short (DeactivateSacch channel) = omega arith

-- What is written fits and says the message exactly where it is a text of it.
text_of : (v : StationMessage) → AllByRecursion (Fits abis) (elements_of v) → said (kind_of v) (values_in (elements_of v)) ≡ Ok v → HasCanonical v
text_of v each says = record {
  kind = kind_of v;
  body = all_octets abis (elements_of v);
  head = (short v, ((kind_head (kind_of v)).0, (kind_head (kind_of v)).1, refl, (refl, refl)));
  says = record { elements = elements_of v; split = record { each = each; spelling = refl }; says = says };
}

written_of : (v : StationMessage) → HasCanonical v → said (kind_of v) (values_in (elements_of v)) ≡ Ok v
written_of v h =
    let here : Begins kind_head (kind_of v) (canonical_text v) (all_octets abis (elements_of v)) = ((kind_head (kind_of v)).0, (kind_head (kind_of v)).1, refl, (refl, refl)) in
    let same = one_head kind_head kinds_are_told h.kind (kind_of v) (canonical_text v) h.body (all_octets abis (elements_of v)) h.head.1 here in
    (written_says codec h.kind (kind_of v) h.body (elements_of v) v same.0 same.1 (are_fixed v) h.says).1

-- What can be written has a canonical text.
pub canonical_of : (v : StationMessage) → CanBeSaid v → HasCanonical v
canonical_of (ReleaseIndication channel link) h =
    let v = ReleaseIndication channel link in
    text_of v (refl, (refl, tt)) (λ i. both_read channel_number (octet LINK_IDENTIFIER) (values_in (elements_of v)) channel link (channel_again channel h) refl i >>= λ (channel, link). Ok (ReleaseIndication channel link))
canonical_of (DeactivateSacch channel) h =
    text_of (DeactivateSacch channel) (refl, tt) (λ i. channel_again channel h i >>= λ channel. Ok (DeactivateSacch channel))

-- What has a canonical text can be written.
pub writable_of : (v : StationMessage) → HasCanonical v → CanBeSaid v
writable_of (ReleaseIndication channel link) h =
    let found = values_in (release_indication_rows.written (channel, link)) in
    let go : ChanBits × ℕ → Result StationMessage ValueFault = λ (channel, link). Ok (ReleaseIndication channel link) in
    let read = went_on (release_indication_rows.read found) go (ReleaseIndication channel link) (written_of (ReleaseIndication channel link) h) in
    let is = read.2 in
    let same : read.0.0 ≡ channel = cc in
    channel_fits channel read.0.0 (first_read channel_number (octet LINK_IDENTIFIER) found read.0 read.1) same
writable_of (DeactivateSacch channel) h =
    let go : ChanBits → Result StationMessage ValueFault = λ channel. Ok (DeactivateSacch channel) in
    let read = went_on (channel_in (Some (channel_octet channel ∷ []))) go (DeactivateSacch channel) (written_of (DeactivateSacch channel) h) in
    let is = read.2 in
    let same : read.0 ≡ channel = cc in
    channel_fits channel read.0 read.1 same
