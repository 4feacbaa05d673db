-- What the value of a field says. A text is the list of its bytes. Ours, of no standard.
use Rattle.std.specs.Prelude.{ℕ, ◌+◌, ◌*◌, ◌==◌, ◌&&◌, Bool, true, false, nat_lt, nat_le, if◌then◌else◌, List, [], ◌∷◌, length, codes, Option, Some, None, option_and_then, bytes_eq}
use Rattle.std.specs.List.{list_all}
use Rattle.std.specs.Char.{is_ascii_digit, digit_value}
use Rattle.std.specs.Option.{option_or}
use Rattle.std.specs.Result.{result_ok}
use Rattle.std.specs.Str.Parse.{digits_value}
use Rattle.hex.specs.Hex.{decode_of}
use Rattle.encoded_messages.specs.Chains.{◌>>=◌}
use Rattle.encoded_messages.specs.Words.{cut_at}
use Rattle.timeslots.specs.declared.Sub.{Sub}
use Rattle.timeslots.specs.declared.Sub.TheVariants.{Full, Half0, Half1}

-- one decimal digit or more, and nothing else
abbrev pub is_number : List ℕ → Bool
is_number text = nat_lt 0 (length text) && list_all is_ascii_digit text

-- the number that a text writes, where that is below the limit
abbrev pub number_below : ℕ → List ℕ → Option ℕ
number_below limit text = if is_number text && nat_lt (digits_value 10 text) limit then Some (digits_value 10 text) else None

-- the number that a text writes, where that is at most this one
abbrev pub number_to : ℕ → List ℕ → Option ℕ
number_to most text = number_below (most + 1) text

-- the value of a hexadecimal digit, in either case
abbrev pub hex_digit_of : ℕ → Option ℕ
hex_digit_of digit = if nat_lt (digit_value digit) 16 then Some (digit_value digit) else None

-- the octet of two such digits
abbrev pub two_digits_of : ℕ → ℕ → Option ℕ
two_digits_of high low = hex_digit_of high >>= (λ h. hex_digit_of low >>= (λ l. Some (16 * h + l)))

-- the octet that a text writes in hexadecimal, behind `0x`
abbrev pub hex_octet_of : List ℕ → Option ℕ
hex_octet_of (nought ∷ x ∷ high ∷ low ∷ []) = if nought == 48 && x == 120 then two_digits_of high low else None
hex_octet_of text = None

-- a cause: an octet in decimal, or in hexadecimal
abbrev pub cause_of : List ℕ → Option ℕ
cause_of text = option_or (number_to 255 text) (hex_octet_of text)

-- 0 or 1
abbrev pub flag_of : List ℕ → Option Bool
flag_of text = if bytes_eq text (codes "0") then Some false else if bytes_eq text (codes "1") then Some true else None

-- the half of a timeslot, 0 or 1, that a half-rate channel has
abbrev pub half_of : List ℕ → Option Sub
half_of text = if bytes_eq text (codes "0") then Some Half0 else if bytes_eq text (codes "1") then Some Half1 else None

-- TN is a timeslot's full-rate channel, TN/HALF one of its half-rate channels
abbrev pub slot_of : List ℕ → Option (List ℕ × List ℕ) → Option (ℕ × Sub)
slot_of text None = number_to 7 text >>= (λ tn. Some (tn, Full))
slot_of text (Some p) = number_to 7 p.0 >>= (λ tn. half_of p.1 >>= (λ half. Some (tn, half)))

abbrev pub traffic_channel_of : List ℕ → Option (ℕ × Sub)
traffic_channel_of text = slot_of text (cut_at 47 text)

-- so many octets or more
abbrev pub at_least : ℕ → List ℕ → Option (List ℕ)
at_least least octets = if nat_le least (length octets) then Some octets else None

-- the octets that a text writes, two hexadecimal digits each, where there are so many or more
abbrev pub octets_of : ℕ → List ℕ → Option (List ℕ)
octets_of least text = option_and_then (at_least least) (result_ok (decode_of text))

-- LAC/CI: a location area code and a cell identity
abbrev pub cell_of : List ℕ → Option (ℕ × ℕ)
cell_of text = cut_at 47 text >>= (λ p. number_below 65536 p.0 >>= (λ area. number_below 65536 p.1 >>= (λ identity. Some (area, identity))))

-- LEVEL/POSITION/CODE
abbrev pub neighbour_of : List ℕ → Option (ℕ × ℕ × ℕ)
neighbour_of text = cut_at 47 text >>= (λ p. cut_at 47 p.1 >>= (λ q. number_to 63 p.0 >>= (λ level. number_to 31 q.0 >>= (λ position. number_to 63 q.1 >>= (λ code. Some (level, position, code))))))
