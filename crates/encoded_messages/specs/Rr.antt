-- The radio resource message that a text says (TS 44.018 section 9.1), or the first thing that is wrong with the text: its
-- name; a word that is no field of the message; then each field, in the order in which it stands here; then the number of
-- neighbours. A text is the list of its bytes; the words are ours, of no standard.
use Rattle.std.specs.Prelude.{◌≡◌, ℕ, ◌==◌, Bool, false, if◌then◌else◌, List, [], ◌∷◌, length, codes, Option, option_map, ok_or, Ok, Err, IsOk, IsOkAnd, bytes_eq}
use Rattle.encoded_messages.specs.declared.field_fault.Allowed.TheVariants as may
use Rattle.encoded_messages.specs.FieldFaults.{Value, Read as FieldRead, ◌>>=◌, ◌>>◌, read_map}
use Rattle.encoded_messages.specs.Words.{words_of, values_of}
use Rattle.encoded_messages.specs.Values as value
use Rattle.encoded_messages.specs.Fields.{name_of, fields_of, only_keys, number_at, cause_at, traffic_channel_at, flag_at}
use Rattle.rr_elements.specs.CellDescription.{Cell}
use Rattle.rr_elements.specs.ChanDescription.{Chan}
use Rattle.rr_elements.specs.Power.{PowerCommand}
use Rattle.rr_elements.specs.MeasResults.{used_count}
use Rattle.rr_elements.specs.declared.cause.RrCause.{RrCause}
use Rattle.rr_elements.specs.declared.measurement.MeasHead.{MeasHead}
use Rattle.rr_elements.specs.declared.measurement.Ncell.{Ncell}
use Rattle.rr_messages.specs.declared.message.Rr.{Rr}
use Rattle.rr_messages.specs.declared.message.Rr.TheVariants.{HandoverCommand, HandoverComplete, HandoverFailure, ChannelRelease, PhysicalInformation, MeasurementReport}
use Rattle.rr_messages.specs.Rr.{rr_text}
use Rattle.encoded_messages.specs.Faults.{Fault, Name, Neighbours, Read, in_fields}

unfoldable pub cell : List ℕ → FieldRead Cell
cell fields = do
  arfcn ← number_at 1023 (codes "arfcn") fields
  ncc ← number_at 7 (codes "ncc") fields
  bcc ← number_at 7 (codes "bcc") fields
  Ok (record { arfcn = arfcn; ncc = ncc; bcc = bcc })

unfoldable pub channel : List ℕ → FieldRead Chan
channel fields = do
  slot ← traffic_channel_at (codes "tn") fields
  tsc ← number_at 7 (codes "tsc") fields
  carrier ← number_at 1023 (codes "carrier") fields
  Ok (record { tn = slot.0; sub = slot.1; tsc = tsc; carrier = carrier })

unfoldable pub power : List ℕ → FieldRead PowerCommand
power fields = do
  atc ← flag_at (codes "atc") fields
  level ← number_at 31 (codes "power") fields
  Ok (record { atc = atc; level = level })

-- the keys of the fields of HANDOVER COMMAND
unfoldable pub command_keys : List (List ℕ)
command_keys = codes "arfcn" ∷ codes "ncc" ∷ codes "bcc" ∷ codes "tn" ∷ codes "tsc" ∷ codes "carrier" ∷ codes "reference" ∷ codes "atc" ∷ codes "power" ∷ []

unfoldable pub handover_command : List ℕ → FieldRead Rr
handover_command fields = do
  only_keys command_keys fields
  cell ← cell fields
  channel ← channel fields
  reference ← number_at 255 (codes "reference") fields
  power ← power fields
  Ok (HandoverCommand cell channel reference power)

unfoldable pub cause_alone : List ℕ → FieldRead RrCause
cause_alone fields = do
  only_keys (codes "cause" ∷ []) fields
  cause ← cause_at (codes "cause") fields
  Ok (record { 0 = cause })

unfoldable pub physical_information : List ℕ → FieldRead Rr
physical_information fields = do
  only_keys (codes "ta" ∷ []) fields
  advance ← number_at 255 (codes "ta") fields
  Ok (PhysicalInformation advance)

unfoldable pub head : List ℕ → FieldRead MeasHead
head fields = do
  ba ← flag_at (codes "ba") fields
  dtx ← flag_at (codes "dtx") fields
  full ← number_at 63 (codes "full") fields
  ba3g ← flag_at (codes "ba3g") fields
  valid ← flag_at (codes "valid") fields
  sub ← number_at 63 (codes "sub") fields
  si23 ← flag_at (codes "si23") fields
  qfull ← number_at 7 (codes "qfull") fields
  qsub ← number_at 7 (codes "qsub") fields
  count ← number_at 7 (codes "count") fields
  Ok (record { ba = ba; dtx = dtx; full = full; ba3g = ba3g; valid = valid; sub = sub; si23 = si23; qfull = qfull; qsub = qsub; count = count })

abbrev pub neighbour_of : List ℕ → Option Ncell
neighbour_of text = option_map (λ n. record { level = n.0; position = n.1; bsic = n.2 }) (value.neighbour_of text)

-- the neighbours that all values say, or the first that says none
abbrev pub neighbours_of : List (List ℕ) → FieldRead (List Ncell)
neighbours_of [] = Ok []
neighbours_of (value ∷ values) = ok_or (neighbour_of value) (Value (codes "n") value may.Neighbour) >>= (λ neighbour. read_map (λ more. neighbour ∷ more) (neighbours_of values))

-- those of the fields `n`, in their order
abbrev pub neighbours_in : List ℕ → FieldRead (List Ncell)
neighbours_in fields = neighbours_of (values_of (codes "n") (words_of fields))

-- as many as are asked for, each as it may be
abbrev pub are_so_many : ℕ → FieldRead (List Ncell) → Bool
are_so_many count (Ok neighbours) = length neighbours == count
are_so_many count (Err fault) = false

-- the keys of the fields of MEASUREMENT REPORT
unfoldable pub report_keys : List (List ℕ)
report_keys = codes "ba" ∷ codes "dtx" ∷ codes "full" ∷ codes "ba3g" ∷ codes "valid" ∷ codes "sub" ∷ codes "si23" ∷ codes "qfull" ∷ codes "qsub" ∷ codes "count" ∷ codes "n" ∷ []

-- what is measured: a head and neighbours
unfoldable pub measured : List ℕ → FieldRead (MeasHead × List Ncell)
measured fields = do
  only_keys report_keys fields
  head ← head fields
  neighbours ← neighbours_in fields
  Ok (head, neighbours)

-- a report with as many neighbours as the count says
abbrev pub report_of : MeasHead → List Ncell → Read Rr
report_of head neighbours = if length neighbours == used_count head.count then Ok (MeasurementReport (record { head = head; neighbours = neighbours })) else Err (Neighbours head.count (length neighbours))

unfoldable pub measurement_report : List ℕ → Read Rr
measurement_report fields = do
  (head, neighbours) ← in_fields (measured fields)
  report_of head neighbours

-- the message of this name with these fields
unfoldable pub message_of : List ℕ → List ℕ → Read Rr
message_of name fields =
    if bytes_eq name (codes "HANDOVER COMMAND") then in_fields (handover_command fields)
    else if bytes_eq name (codes "HANDOVER COMPLETE") then in_fields (read_map HandoverComplete (cause_alone fields))
    else if bytes_eq name (codes "HANDOVER FAILURE") then in_fields (read_map HandoverFailure (cause_alone fields))
    else if bytes_eq name (codes "CHANNEL RELEASE") then in_fields (read_map ChannelRelease (cause_alone fields))
    else if bytes_eq name (codes "PHYSICAL INFORMATION") then in_fields (physical_information fields)
    else if bytes_eq name (codes "MEASUREMENT REPORT") then measurement_report fields
    else Err (Name name)

-- what the name and the fields of a text say
abbrev pub message_in : List ℕ → Read Rr
message_in text = message_of (name_of text) (fields_of text)

-- they say a message
abbrev pub CanBeWritten : List ℕ → Type 0
CanBeWritten text = IsOk (message_in text)

-- and its text is these octets
abbrev pub Writes : List ℕ → List ℕ → Type 0
Writes text octets = IsOkAnd (message_in text) (λ message. octets ≡ rr_text message)

-- The first thing that is wrong with a text: they say no message, and why.
abbrev pub HasFault : List ℕ → Fault → Type 0
HasFault text fault = message_in text ≡ Err fault
