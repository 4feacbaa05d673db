-- Facts of what is read step by step, and of two readers of one text.
use Rattle.std.proofs.Common.{◌≡◌, ℕ, ◌<◌, ◌≤◌, Bool, true, false, if◌then◌else◌, List, length, Option, Some, None, option_map, ok_or, Result, Ok, Err, IfSome, is_ok, refl, ap}
use Rattle.std.specs.Prelude.{bytes_eq, codes}
use Rattle.std.specs.Result.{result_ok}
use Rattle.hex.specs.Hex.{decode_of}
use Rattle.timeslots.specs.declared.Sub.{Sub}
use Rattle.encoded_messages.specs.declared.field_fault.Allowed.{Allowed}
use Rattle.encoded_messages.specs.declared.field_fault.Allowed.TheVariants as may
use Rattle.encoded_messages.specs.FieldFaults.{Fault, Value, Read, ◌>>=◌, ◌>>◌, read_map}
use Rattle.encoded_messages.specs.declared.fault.MessageFault.{MessageFault}
use Rattle.encoded_messages.specs.Faults.{in_fields}
use Rattle.encoded_messages.specs.Faults as message
use Rattle.encoded_messages.specs.Fields.{value_at, field_at, octets_at, optional_octets_at, optional_octets_of, traffic_channel_at}
use Rattle.encoded_messages.specs.Values.{octets_of, traffic_channel_of}
use Rattle.encoded_messages.specs.Words.{cut_at}
use Rattle.encoded_messages.proofs.ValueLemmas.{enough, slot_low}

-- Two readers read alike: both find the same fault, or what they read is so related.
abbrev pub Alike : {M N E : Type 0} → (M → N → Type 0) → Result M E → Result N E → Type 0
Alike Same (Ok v) (Ok w) = Same v w
Alike Same (Ok v) (Err f) = ⊥
Alike Same (Err e) (Ok w) = ⊥
Alike Same (Err e) (Err f) = e ≡ f

-- they do where they go on alike behind one step
pub after : {X M N E : Type 0} (Same : M → N → Type 0) (r : Result X E) (f : X → Result M E) (g : X → Result N E) → ((x : X) → r ≡ Ok x → Alike Same (f x) (g x)) → Alike Same (r >>= f) (r >>= g)
after Same (Ok x) f g h = h x refl
after Same (Err e) f g h = refl

pub past : {X M N E : Type 0} (Same : M → N → Type 0) (r : Result X E) (p : Result M E) (q : Result N E) → Alike Same p q → Alike Same (r >> p) (r >> q)
past Same (Ok x) p q h = h
past Same (Err e) p q h = refl

-- where they make alike what is read
pub made : {X M N E : Type 0} (Same : M → N → Type 0) (f : X → M) (g : X → N) (r : Result X E) → ((x : X) → r ≡ Ok x → Same (f x) (g x)) → Alike Same (read_map f r) (read_map g r)
made Same f g (Ok x) h = h x refl
made Same f g (Err e) h = refl

pub after_made : {X Y Z M N E : Type 0} (Same : M → N → Type 0) (p : X → Y) (q : X → Z) (r : Result X E) (f : Y → Result M E) (g : Z → Result N E) → ((x : X) → r ≡ Ok x → Alike Same (f (p x)) (g (q x))) → Alike Same (read_map p r >>= f) (read_map q r >>= g)
after_made Same p q (Ok x) f g h = h x refl
after_made Same p q (Err e) f g h = refl

-- where they choose alike
pub chosen : {M N E : Type 0} (Same : M → N → Type 0) (b : Bool) (p r : Result M E) (q s : Result N E) → Alike Same p q → Alike Same r s → Alike Same (if b then p else r) (if b then q else s)
chosen Same true p r q s h k = h
chosen Same false p r q s h k = k

-- and where they read fields alike
pub of_fields : {M N : Type 0} (Same : M → N → Type 0) (r : Read M) (s : Read N) → Alike Same r s → Alike Same (in_fields r) (in_fields s)
of_fields Same (Ok v) (Ok w) h = h
of_fields Same (Ok v) (Err f) h = absurd h
of_fields Same (Err e) (Ok w) h = absurd h
of_fields Same (Err e) (Err f) h = ap message.field_fault h

-- what is so related is related in a weaker way
pub weaker : {M N E : Type 0} (Strong Weak : M → N → Type 0) → ((v : M) (w : N) → Strong v w → Weak v w) → (r : Result M E) (s : Result N E) → Alike Strong r s → Alike Weak r s
weaker Strong Weak weak (Ok v) (Ok w) h = weak v w h
weaker Strong Weak weak (Ok v) (Err f) h = absurd h
weaker Strong Weak weak (Err e) (Ok w) h = absurd h
weaker Strong Weak weak (Err e) (Err f) h = h

-- what was read, by the texts of its fault
pub read_ok : {X : Type 0} (r : Result X MessageFault) → is_ok r ≡ is_ok (message.read_of r)
read_ok (Ok x) = refl
read_ok (Err fault) = refl

-- what is read behind a step that is passed
pub behind : {X Y E : Type 0} (r : Result X E) (s : Result Y E) (y : Y) → (r >> s) ≡ Ok y → s ≡ Ok y
behind (Ok x) s y h = h
behind (Err e) s y h = absurd cc

-- what is read in two steps
pub both_read : {X Y E : Type 0} (r : Result X E) (f : X → Result Y E) (y : Y) → (r >>= f) ≡ Ok y → (x : X) × (r ≡ Ok x) × (f x ≡ Ok y)
both_read (Ok x) f y h = (x, refl, h)
both_read (Err e) f y h = absurd cc

-- what is said of a field is what its value says
value_said : {X : Type 0} (says : List ℕ → Option X) (fault : List ℕ → Fault) (x : X) (r : Read (List ℕ)) → (r >>= λ value. ok_or (says value) (fault value)) ≡ Ok x → (value : List ℕ) × (says value ≡ Some x)
value_said {X} says fault x (Ok value) h = (value, by (says value) h)
  where
    by : (o : Option X) → ok_or o (fault value) ≡ Ok x → o ≡ Some x
    by (Some y) h = cc
    by None h = absurd cc
value_said says fault x (Err e) h = absurd cc

pub field_said : {X : Type 0} (allowed : Allowed) (says : List ℕ → Option X) (key fields : List ℕ) (x : X) → field_at allowed says key fields ≡ Ok x → (value : List ℕ) × (says value ≡ Some x)
field_said allowed says key fields x h = value_said says (λ value. Value key value allowed) x (value_at key fields) h

-- octets of a field are so many or more
pub octets_long : (least : ℕ) (key fields v : List ℕ) → octets_at least key fields ≡ Ok v → least ≤ length v
unfolding octets_at
octets_long least key fields v h =
    let (value, said) = field_said (may.Octets least) (octets_of least) key fields v h in
    enough least v (result_ok (decode_of value)) said

some_long : (least : ℕ) (v : Option (List ℕ)) (b : Bool) (o : Option (List ℕ)) → ((octets : List ℕ) → o ≡ Some octets → least ≤ length octets) → (if b then Some None else option_map Some o) ≡ Some v → IfSome v (λ octets. least ≤ length octets)
some_long least None b o long h = tt
some_long least (Some v) true o long h = absurd cc
some_long least (Some v) false None long h = absurd cc
some_long least (Some v) false (Some octets) long h = let same : octets ≡ v = cc in long v (ap Some same)

pub optional_octets_long : (least : ℕ) (key fields : List ℕ) (v : Option (List ℕ)) → optional_octets_at least key fields ≡ Ok v → IfSome v (λ octets. least ≤ length octets)
unfolding optional_octets_at
optional_octets_long least key fields v h =
    let (value, said) = field_said (may.OptionalOctets least) (optional_octets_of least) key fields v h in
    some_long least v (bytes_eq value (codes "-")) (octets_of least value) (λ octets e. enough least octets (result_ok (decode_of value)) e) said

-- the timeslot of a channel is below 8
pub channel_low : (key fields : List ℕ) (channel : ℕ × Sub) → traffic_channel_at key fields ≡ Ok channel → channel.0 < 8
unfolding traffic_channel_at
channel_low key fields channel h =
    let (value, said) = field_said may.TrafficChannel traffic_channel_of key fields channel h in
    slot_low channel value (cut_at 47 value) said
