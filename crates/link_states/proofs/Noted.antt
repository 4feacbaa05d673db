-- What is kept says what the elements say; octets have one head, since they have none.
use Rattle.std.proofs.Common.{◌≡◌, ◌≢◌, inl, inr, List, ◌∙◌, ap, subst, sym, refl, Result, Ok, Err, IfOk, IfErr, ℕ}
use Rattle.octet_elements.specs.Elements.{Element, IsTornAt}
use Rattle.octet_elements.specs.Lookup.{Lookup, Kept, lookup, noted, values_in}
use Rattle.octet_elements.specs.Texts.{Answers, HeadsAreUnique, Says, IsTextOf, HasBodyFault, HasFault}
use Rattle.octet_elements.specs.declared.values.ValueFault.{ValueFault}
use Rattle.octet_elements.specs.declared.values.ValueFault.TheVariants.{Absent, Bad}
use Rattle.link_states.specs.declared.calls.CallNote.{CallNote}
use Rattle.link_states.specs.declared.channels.ChannelNote.{ChannelNote}
use Rattle.link_states.specs.declared.fault.StateFault.{StateFault}
use Rattle.link_states.specs.declared.fault.StateFault.TheVariants as fault
use Rattle.link_states.specs.Forms.{known, states, fault_of}
use Rattle.link_states.specs.Notes.{channel_said, call_said, codec_of, channel_codec, call_codec}

pub heads : {V : Type 0} (said : Lookup → Result V ValueFault) → HeadsAreUnique (codec_of said)
heads said = record {
  head = λ j k octets x y p q. (refl, sym p ∙ q);
  fault = λ octets f g p q. absurd p;
  either = λ octets f kind body p q. p;
}

-- memory is no fault of a value, nor of a tear
pub not_torn : (at : ℕ) → fault.NoMemory ≢ fault.Torn at
not_torn at e = absurd cc

pub not_by_value : (e : ValueFault) → fault.NoMemory ≢ fault_of e
not_by_value (Absent i) e = absurd cc
not_by_value (Bad i) e = absurd cc

channel_noted : (es : List Element) → channel_said (noted known es) ≡ channel_said (values_in es)
channel_noted es = refl

call_noted : (es : List Element) → call_said (noted known es) ≡ call_said (values_in es)
call_noted es = refl

pub channel_answered : (es : List Element) (kept : Kept) (r : Result ChannelNote StateFault) → lookup known kept ≡ noted known es → Answers channel_codec r (channel_said (lookup known kept)) → Answers channel_codec r (channel_said (values_in es))
channel_answered es kept r h answers = subst (Answers channel_codec r) (ap channel_said h ∙ channel_noted es) answers

pub call_answered : (es : List Element) (kept : Kept) (r : Result CallNote StateFault) → lookup known kept ≡ noted known es → Answers call_codec r (call_said (lookup known kept)) → Answers call_codec r (call_said (values_in es))
call_answered es kept r h answers = subst (Answers call_codec r) (ap call_said h ∙ call_noted es) answers

-- what a body says is what octets without a head say
text_of : {V : Type 0} (said : Lookup → Result V ValueFault) (octets : List ℕ) (r : Result V StateFault) → IfOk r (λ v. Says (codec_of said) tt octets (Ok v)) → IfOk r (λ v. IsTextOf (codec_of said) v octets)
text_of said octets (Ok v) h = record { kind = tt; body = octets; head = refl; says = h }
text_of said octets (Err f) h = tt

fault_by : {V : Type 0} (said : Lookup → Result V ValueFault) (octets : List ℕ) (r : Result V StateFault) → IfErr r (HasBodyFault (codec_of said) tt octets) → IfErr r (HasFault (codec_of said) octets)
fault_by said octets (Ok v) h = tt
fault_by said octets (Err f) h = inr (tt, octets, refl, h)

torn_at : {V : Type 0} (said : Lookup → Result V ValueFault) (octets : List ℕ) (at : ℕ) → IsTornAt states octets at → HasFault (codec_of said) octets (fault.Torn at)
torn_at said octets at h = inr (tt, octets, refl, inl (at, h, refl))

pub channel_text_of : (octets : List ℕ) (r : Result ChannelNote StateFault) → IfOk r (λ v. Says channel_codec tt octets (Ok v)) → IfOk r (λ v. IsTextOf channel_codec v octets)
channel_text_of octets r h = text_of channel_said octets r h

pub channel_fault_of : (octets : List ℕ) (r : Result ChannelNote StateFault) → IfErr r (HasBodyFault channel_codec tt octets) → IfErr r (HasFault channel_codec octets)
channel_fault_of octets r h = fault_by channel_said octets r h

pub channel_torn : (octets : List ℕ) (at : ℕ) → IsTornAt states octets at → HasFault channel_codec octets (fault.Torn at)
channel_torn octets at h = torn_at channel_said octets at h

pub call_text_of : (octets : List ℕ) (r : Result CallNote StateFault) → IfOk r (λ v. Says call_codec tt octets (Ok v)) → IfOk r (λ v. IsTextOf call_codec v octets)
call_text_of octets r h = text_of call_said octets r h

pub call_fault_of : (octets : List ℕ) (r : Result CallNote StateFault) → IfErr r (HasBodyFault call_codec tt octets) → IfErr r (HasFault call_codec octets)
call_fault_of octets r h = fault_by call_said octets r h

pub call_torn : (octets : List ℕ) (at : ℕ) → IsTornAt states octets at → HasFault call_codec octets (fault.Torn at)
call_torn octets at h = torn_at call_said octets at h
