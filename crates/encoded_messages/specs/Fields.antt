-- The fields of a message, and the first thing that is wrong with them. A text is the list of its bytes. Ours, of no
-- standard.
use Rattle.std.specs.Prelude.{ℕ, ◌==◌, Bool, if◌then◌else◌, List, [], ◌∷◌, length, drop, codes, Option, Some, None, option_map, ok_or, Ok, Err, bytes_eq}
use Rattle.std.specs.List.{list_any, position_or_len, before_first, join_with_byte}
use Rattle.encoded_messages.specs.declared.field_fault.Allowed.{Allowed}
use Rattle.encoded_messages.specs.declared.field_fault.Allowed.TheVariants as may
use Rattle.timeslots.specs.declared.Sub.{Sub}
use Rattle.encoded_messages.specs.Words.{words_of, values_of, first_unknown}
use Rattle.encoded_messages.specs.Values.{number_to, cause_of, flag_of, octets_of, traffic_channel_of}
use Rattle.encoded_messages.specs.FieldFaults.{Unknown, Missing, Twice, Value, Read, ◌>>=◌}

-- a word has an `=`
abbrev pub has_equals : List ℕ → Bool
has_equals word = list_any (λ b. b == 61) word

-- the name of a message: its words before the first that has an `=`
unfoldable pub name_of : List ℕ → List ℕ
name_of text = join_with_byte 32 (before_first has_equals (words_of text))

-- its fields: the words from that one on
unfoldable pub fields_of : List ℕ → List ℕ
fields_of text = join_with_byte 32 (drop (position_or_len has_equals (words_of text)) (words_of text))

-- no word, or the first of those that are no field
abbrev pub none_unknown : Option (List ℕ) → Read (Unit {0})
none_unknown None = Ok tt
none_unknown (Some word) = Err (Unknown word)

-- each word is a field with one of these keys, or else the first that is none is wrong; no fields at all have no word
unfoldable pub only_keys : List (List ℕ) → List ℕ → Read (Unit {0})
only_keys keys fields = if length fields == 0 then Ok tt else none_unknown (first_unknown keys (words_of fields))

-- the only one of the values of a key
abbrev pub only : List ℕ → List (List ℕ) → Read (List ℕ)
only key [] = Err (Missing key)
only key (value ∷ []) = Ok value
only key (value ∷ next ∷ more) = Err (Twice key)

-- the value of the only field with this key
unfoldable pub value_at : List ℕ → List ℕ → Read (List ℕ)
value_at key fields = only key (values_of key (words_of fields))

-- what that value says, where it is one that the field may have
abbrev pub field_at : {X : Type 0} → Allowed → (List ℕ → Option X) → List ℕ → List ℕ → Read X
field_at allowed says key fields = value_at key fields >>= (λ value. ok_or (says value) (Value key value allowed))

-- a number up to the greatest
unfoldable pub number_at : ℕ → List ℕ → List ℕ → Read ℕ
number_at most key fields = field_at (may.Number most) (number_to most) key fields

-- a cause
unfoldable pub cause_at : List ℕ → List ℕ → Read ℕ
cause_at key fields = field_at may.Cause cause_of key fields

-- an octet in decimal, or nothing
abbrev pub optional_octet_of : List ℕ → Option (Option ℕ)
optional_octet_of text = if bytes_eq text (codes "-") then Some None else option_map Some (number_to 255 text)

unfoldable pub optional_octet_at : List ℕ → List ℕ → Read (Option ℕ)
optional_octet_at key fields = field_at may.OptionalOctet optional_octet_of key fields

-- a timeslot, and which of its traffic channels
unfoldable pub traffic_channel_at : List ℕ → List ℕ → Read (ℕ × Sub)
traffic_channel_at key fields = field_at may.TrafficChannel traffic_channel_of key fields

-- yes or no
unfoldable pub flag_at : List ℕ → List ℕ → Read Bool
flag_at key fields = field_at may.Flag flag_of key fields

-- so many octets or more
unfoldable pub octets_at : ℕ → List ℕ → List ℕ → Read (List ℕ)
octets_at least key fields = field_at (may.Octets least) (octets_of least) key fields

-- octets, or nothing
abbrev pub optional_octets_of : ℕ → List ℕ → Option (Option (List ℕ))
optional_octets_of least text = if bytes_eq text (codes "-") then Some None else option_map Some (octets_of least text)

unfoldable pub optional_octets_at : ℕ → List ℕ → List ℕ → Read (Option (List ℕ))
optional_octets_at least key fields = field_at (may.OptionalOctets least) (optional_octets_of least) key fields
