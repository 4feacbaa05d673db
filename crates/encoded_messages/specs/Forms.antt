-- The forms of fields, by which they are read. A text is the list of its bytes. Ours, of no standard.
use Rattle.std.specs.Prelude.{◌≡◌, ℕ, List, map}
use Rattle.encoded_messages.specs.declared.field_fault.Allowed.{Allowed}
use Rattle.encoded_messages.specs.declared.field_fault.Allowed.TheVariants as may
use Rattle.encoded_messages.specs.declared.form.FieldForm.{FieldForm}

-- the keys of fields, in their order
abbrev pub keys_of : List FieldForm → List (List ℕ)
keys_of forms = map (λ form. form.0.now) forms

-- the greatest number that a field may be
abbrev pub most_of : Allowed → ℕ
most_of (may.Number most) = most
most_of allowed = 0

-- the fewest octets that it may have
abbrev pub least_of : Allowed → ℕ
least_of (may.Octets least) = least
least_of (may.OptionalOctets least) = least
least_of allowed = 0

-- it is a number up to that
abbrev pub IsNumber : Allowed → Type 0
IsNumber allowed = allowed ≡ may.Number (most_of allowed)

-- it is so many octets or more
abbrev pub IsOctets : Allowed → Type 0
IsOctets allowed = allowed ≡ may.Octets (least_of allowed)

-- octets, or nothing
abbrev pub IsOptionalOctets : Allowed → Type 0
IsOptionalOctets allowed = allowed ≡ may.OptionalOctets (least_of allowed)
