-- What the values of elements say. Ours, of no standard.
use Rattle.std.specs.Prelude.{ℕ, ◌/◌, ◌%◌, Bool, true, false, List, [], ◌∷◌, Option, Some, None, Result, Ok, Err, slice_get}
use Rattle.octet_elements.specs.Rows.{◌>>=◌}
use Rattle.octet_elements.specs.Values.{octet_in}
use Rattle.octet_elements.specs.declared.values.ValueFault.{ValueFault}
use Rattle.octet_elements.specs.declared.values.ValueFault.TheVariants.{Bad}
use Rattle.attempt_journal.specs.declared.Timer.{Timer}
use Rattle.attempt_journal.specs.declared.Timer.TheVariants.{T3103, T7, T8}
use Rattle.link_tables.specs.declared.Lchan.{Lchan}
use Rattle.link_tables.specs.declared.Lchan.TheVariants as state
use Rattle.link_states.specs.declared.channels.BarNote.{BarNote}

-- a value that was found, or the element is bad
abbrev pub or_bad : {X : Type 0} → ℕ → Option X → Result X ValueFault
or_bad i (Some value) = Ok value
or_bad i None = Err (Bad i)

-- the value that an octet names in a list of values, by its place
abbrev pub named : {X : Type 0} → ℕ → List X → ℕ → Result X ValueFault
named i values octet = or_bad i (slice_get values octet)

-- whether something is so
abbrev pub flag_in : ℕ → Option (List ℕ) → Result Bool ValueFault
flag_in i value = octet_in i value >>= named i (false ∷ true ∷ [])

abbrev pub flag_octet : Bool → ℕ
flag_octet false = 0
flag_octet true = 1

-- what its station was told of a channel
abbrev pub lchan_in : Option (List ℕ) → Result Lchan ValueFault
lchan_in value =
    octet_in 1 value >>= named 1 (state.Rest ∷ state.Activating ∷ state.On ∷ state.Mobile ∷ state.Guard ∷ state.Releasing ∷ state.Closing ∷ state.Reopening ∷ state.Lost ∷ [])

abbrev pub lchan_octet : Lchan → ℕ
lchan_octet state.Rest = 0
lchan_octet state.Activating = 1
lchan_octet state.On = 2
lchan_octet state.Mobile = 3
lchan_octet state.Guard = 4
lchan_octet state.Releasing = 5
lchan_octet state.Closing = 6
lchan_octet state.Reopening = 7
lchan_octet state.Lost = 8

-- a bar, by its kind and by the number of its call: none, one that a clock ends, one that lasts
abbrev pub bar_in : ℕ → ℕ → Result (Option BarNote) ValueFault
bar_in kind call = named 3 (None ∷ Some (record { call = call; is_lasting = false }) ∷ Some (record { call = call; is_lasting = true }) ∷ []) kind

abbrev pub kind_octet : Bool → ℕ
kind_octet false = 1
kind_octet true = 2

abbrev pub bar_octet : Option BarNote → ℕ
bar_octet None = 0
bar_octet (Some bar) = kind_octet bar.is_lasting

abbrev pub bar_number : Option BarNote → ℕ
bar_number None = 0
bar_number (Some bar) = bar.call

-- a number, the high octet first
abbrev pub number_octets : ℕ → List ℕ
number_octets n = n / 256 ∷ n % 256 ∷ []

-- the timer that runs for a call
abbrev pub timer_in : Option (List ℕ) → Result (Option Timer) ValueFault
timer_in value = octet_in 11 value >>= named 11 (None ∷ Some T3103 ∷ Some T7 ∷ Some T8 ∷ [])

abbrev pub timer_octet : Option Timer → ℕ
timer_octet None = 0
timer_octet (Some T3103) = 1
timer_octet (Some T7) = 2
timer_octet (Some T8) = 3
