-- The words of a line, and what each says. A text is the list of its bytes.
use Rattle.std.specs.Prelude.{ℕ, ◌==◌, ◌&&◌, Bool, false, not, nat_lt, if◌then◌else◌, List, length, codes, Option, Some, None, is_some, option_map, option_and_then, [], bytes_eq}
use Rattle.std.specs.Option.{option_or}
use Rattle.std.specs.List.{slice_split, list_all, position_or_len, before_first, after_first}
use Rattle.std.specs.Char.{is_ascii_digit}
use Rattle.std.specs.Result.{result_ok}
use Rattle.std.specs.Str.Parse.{digits_value}
use Rattle.hex.specs.Hex.{decode_of}
use Rattle.timeslots.specs.declared.Sub.{Sub}
use Rattle.timeslots.specs.declared.Sub.TheVariants.{Full, Half0, Half1}
use Rattle.timeslots.specs.declared.Rate.{Rate}
use Rattle.timeslots.specs.declared.Rate.TheVariants as rate
use Rattle.attempt_journal.specs.declared.Timer.{Timer}
use Rattle.attempt_journal.specs.declared.Timer.TheVariants.{T3103, T7, T8}
use Rattle.encoded_messages.specs.A as a
use Rattle.encoded_messages.specs.Abis as abis
use Rattle.bts_model.specs.declared.answer.Answer.{Answer}
use Rattle.bts_model.specs.declared.answer.Answer.TheVariants as answer
use Rattle.bts_model.specs.declared.setting.Held.{Held}
use Rattle.bts_model.specs.declared.setting.Held.TheVariants as held
use Rattle.lab_script.specs.declared.asked.Whom.{Whom}
use Rattle.lab_script.specs.declared.asked.Whom.TheVariants.{Call, All}
use Rattle.bts_model.specs.declared.setting.Habit.{Habit}
use Rattle.bts_model.specs.declared.setting.Habit.TheVariants.{Arrive, Return, Vanish}

-- the words of a text: one blank stands between any two
abbrev pub words_of : List ℕ → List (List ℕ)
words_of text = slice_split (λ b. b == 32) text

-- the words of what stands behind a blank, where there is one
abbrev pub words_left : Option (List ℕ) → List (List ℕ)
words_left None = []
words_left (Some text) = words_of text

-- the first word of a text, and what stands behind its blank, where it has one
abbrev pub is_space : ℕ → Bool
is_space b = b == 32

abbrev pub first_word : List ℕ → List ℕ
first_word text = before_first is_space text

abbrev pub behind_word : List ℕ → Option (List ℕ)
behind_word text = if nat_lt (position_or_len is_space text) (length text) then Some (after_first is_space text) else None

-- what stands behind the first word of what is left of a line
abbrev pub behind_left : Option (List ℕ) → Option (List ℕ)
behind_left rest = option_and_then behind_word rest

-- two words are left, of which the second is no number: a call, and what its mobile does
abbrev pub is_call_and : Option (List ℕ) → Bool
is_call_and None = false
is_call_and (Some second) = not (is_some (behind_word second)) && not (list_all is_ascii_digit second)

abbrev pub is_of_call : Option (List ℕ) → Bool
is_of_call rest = is_call_and (behind_left rest)

-- two words or more are left
abbrev pub has_second : Option (List ℕ) → Bool
has_second rest = is_some (behind_left rest)

-- four words or more are left
abbrev pub has_fourth : Option (List ℕ) → Bool
has_fourth rest = is_some (behind_left (behind_left (behind_left rest)))

-- one decimal digit or more, and nothing else
abbrev pub is_number : List ℕ → Bool
is_number text = nat_lt 0 (length text) && list_all is_ascii_digit text

-- the number that a text writes, where that is below the limit
abbrev pub number_below : ℕ → List ℕ → Option ℕ
number_below limit text = if is_number text && nat_lt (digits_value 10 text) limit then Some (digits_value 10 text) else None

-- the octets that a text writes in hexadecimal, where there is one at least
abbrev pub octets_of : List ℕ → Option (List ℕ)
octets_of text = if length text == 0 then None else result_ok (decode_of text)

-- a text up to its first slash, and what stands behind that, where it has one
abbrev pub is_slash : ℕ → Bool
is_slash b = b == 47

abbrev pub around_slash : List ℕ → Option (List ℕ × List ℕ)
around_slash text = if nat_lt (position_or_len is_slash text) (length text) then Some (before_first is_slash text, after_first is_slash text) else None

-- the half of a timeslot that a text writes
abbrev pub half_of : List ℕ → Option Sub
half_of text = if bytes_eq text (codes "0") then Some Half0 else if bytes_eq text (codes "1") then Some Half1 else None

abbrev pub slot_at : Option ℕ → Option Sub → Option (ℕ × Sub)
slot_at (Some tn) (Some sub) = Some (tn, sub)
slot_at tn sub = None

abbrev pub timeslot_in : Option (List ℕ × List ℕ) → List ℕ → Option (ℕ × Sub)
timeslot_in None text = slot_at (number_below 8 text) (Some Full)
timeslot_in (Some p) text = slot_at (number_below 8 p.0) (half_of p.1)

-- TN is the whole timeslot, TN/0 and TN/1 are its halves
unfoldable pub timeslot_of : List ℕ → Option (ℕ × Sub)
timeslot_of text = timeslot_in (around_slash text) text

-- the timer of a name
abbrev pub timer_of : List ℕ → Option Timer
timer_of text = if bytes_eq text (codes "T3103") then Some T3103 else if bytes_eq text (codes "T7") then Some T7 else if bytes_eq text (codes "T8") then Some T8 else None

-- the rate of a name
abbrev pub rate_of : List ℕ → Option Rate
rate_of text = if bytes_eq text (codes "full") then Some rate.Full else if bytes_eq text (codes "half") then Some rate.Half else None

-- the habit of a name
abbrev pub habit_of : List ℕ → Option Habit
habit_of text = if bytes_eq text (codes "arrive") then Some Arrive else if bytes_eq text (codes "return") then Some Return else if bytes_eq text (codes "vanish") then Some Vanish else None

-- a number of octets, of which there is one at least
abbrev pub unless_none : ℕ → Option ℕ
unless_none n = if n == 0 then None else Some n

abbrev pub count_of : List ℕ → Option ℕ
count_of text = option_and_then unless_none (number_below 256 text)

-- whose mobile reports
abbrev pub whom_of : List ℕ → Option Whom
whom_of text = if bytes_eq text (codes "all") then Some All else option_map Call (number_below 65536 text)

-- what a hold keeps back that names it
abbrev pub held_of : List ℕ → Option Held
held_of text = if bytes_eq text (codes "detection") then Some held.Detection else if bytes_eq text (codes "complete") then Some held.Complete else None

-- what a station says of a channel, by its word
abbrev pub answer_of : List ℕ → Option Answer
answer_of text =
    if bytes_eq text (codes "ack") then Some answer.ActivationAck
    else if bytes_eq text (codes "nack") then Some answer.ActivationNack
    else if bytes_eq text (codes "detect") then Some answer.Detection
    else if bytes_eq text (codes "complete") then Some answer.Complete
    else if bytes_eq text (codes "failure") then Some answer.Failure
    else if bytes_eq text (codes "released") then Some answer.ReleaseAck
    else None

-- the octets of the message that a text says on Abis: in hexadecimal, or else in words
abbrev pub abis_octets : List ℕ → Option (List ℕ)
abis_octets text = option_or (octets_of text) (abis.octets_said text)

-- and on A
abbrev pub a_octets : List ℕ → Option (List ℕ)
a_octets text = option_or (octets_of text) (a.octets_said text)
