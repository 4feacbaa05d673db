-- Facts of the radio resource messages that texts say, and of how many neighbours they have.
use Rattle.std.proofs.Common.{◌≡◌, ℕ, ◌+◌, ◌≤◌, ◌==◌, ◌∷◌, List, Bool, true, false, if◌then◌else◌, Ok, Err, is_ok, refl, arith, length}
use Rattle.rr_elements.specs.declared.measurement.MeasHead.{MeasHead}
use Rattle.rr_elements.specs.declared.measurement.Ncell.{Ncell}
use Rattle.rr_elements.specs.MeasResults.{used_count}
use Rattle.rr_messages.specs.declared.message.Rr.{Rr}
use Rattle.rr_messages.specs.declared.message.Rr.TheVariants.{HandoverCommand, HandoverComplete, HandoverFailure, ChannelRelease, PhysicalInformation, MeasurementReport}
use Rattle.rr_messages.specs.Rr.{rr_text}
use Rattle.rr_messages.proofs.Lengths.{rr_length}
use Rattle.encoded_messages.specs.FieldFaults.{Read as FieldRead, ◌>>=◌, ◌>>◌, read_map}
use Rattle.encoded_messages.specs.FieldFaults as field
use Rattle.encoded_messages.specs.Faults.{Fault, Read, in_fields}
use Rattle.encoded_messages.specs.Fields.{only_keys}
use Rattle.encoded_messages.specs.Rr.{are_so_many, report_of, report_keys, neighbours_in, measured, measurement_report}
use Rattle.encoded_messages.specs.Rr as said

-- numbers are the same where those behind them are
same_by : (m k n : ℕ) → k ≡ m + 1 → (b : Bool) → (m == n) ≡ b → (k == n + 1) ≡ b
same_by m k n more true e = grind (arith, e, more)
same_by m k n more false e = grind (arith, e, more)

not_none : (k m : ℕ) → k ≡ m + 1 → (k == 0) ≡ false
not_none k m more = grind (arith, more)

-- one neighbour more
pub one_more : (missing : ℕ) (neighbour : Ncell) (r : FieldRead (List Ncell)) → are_so_many (missing + 1) (read_map (λ more. neighbour ∷ more) r) ≡ are_so_many missing r
one_more missing neighbour (Ok neighbours) = same_by (length neighbours) (length (neighbour ∷ neighbours)) missing (omega arith) (length neighbours == missing) refl
one_more missing neighbour (Err fault) = refl

-- there is one, and none is asked for
pub one_too_many : (neighbour : Ncell) (r : FieldRead (List Ncell)) → are_so_many 0 (read_map (λ more. neighbour ∷ more) r) ≡ false
one_too_many neighbour (Ok neighbours) = not_none (length (neighbour ∷ neighbours)) (length neighbours) (omega arith)
one_too_many neighbour (Err fault) = refl

-- what is read or not is told by its test
read_where : (b : Bool) (v : Rr) (f : Fault) → b ≡ is_ok (if b then Ok v else Err f)
read_where true v f = refl
read_where false v f = refl

-- a head, and the neighbours that are read
abbrev with_head : MeasHead → FieldRead (List Ncell) → FieldRead (MeasHead × List Ncell)
with_head head r = r >>= (λ neighbours. Ok (head, neighbours))

abbrev reported_of : Read (MeasHead × List Ncell) → Read Rr
reported_of r = r >>= (λ m. report_of m.0 m.1)

-- a report is said where there are as many neighbours as its count says
reported_by : (head : MeasHead) (r : FieldRead (List Ncell)) → are_so_many (used_count head.count) r ≡ is_ok (reported_of (in_fields (with_head head r)))
reported_by head (Ok neighbours) = read_where (length neighbours == used_count head.count) _ _
reported_by head (Err field.NoMemory) = refl
reported_by head (Err (field.Unknown word)) = refl
reported_by head (Err (field.Missing key)) = refl
reported_by head (Err (field.Twice key)) = refl
reported_by head (Err (field.Value key value allowed)) = refl

pub reported : (fields : List ℕ) (head : MeasHead) → only_keys report_keys fields ≡ Ok tt → said.head fields ≡ Ok head → are_so_many (used_count head.count) (neighbours_in fields) ≡ is_ok (measurement_report fields)
unfolding measurement_report measured
reported fields head known is = rw (known, is) (reported_by head (neighbours_in fields))

-- and none where a word is no field, or the head isn't said
pub unknown : (fields : List ℕ) (fault : field.Fault) → only_keys report_keys fields ≡ Err fault → is_ok (measurement_report fields) ≡ false
unfolding measurement_report measured
unknown fields fault e = rw e refl

pub headless : (fields : List ℕ) (fault : field.Fault) → only_keys report_keys fields ≡ Ok tt → said.head fields ≡ Err fault → is_ok (measurement_report fields) ≡ false
unfolding measurement_report measured
headless fields fault known e = rw (known, e) refl

-- the octets of a message are one or more, and few
pub rr_long : (v : Rr) → 1 ≤ length (rr_text v)
rr_long v = omega arith

pub rr_short : (v : Rr) → length (rr_text v) ≤ 255
rr_short (HandoverCommand cell channel reference power) = let long : length (rr_text (HandoverCommand cell channel reference power)) ≡ 9 = rr_length (HandoverCommand cell channel reference power) in omega arith
rr_short (HandoverComplete cause) = let long : length (rr_text (HandoverComplete cause)) ≡ 3 = rr_length (HandoverComplete cause) in omega arith
rr_short (HandoverFailure cause) = let long : length (rr_text (HandoverFailure cause)) ≡ 3 = rr_length (HandoverFailure cause) in omega arith
rr_short (ChannelRelease cause) = let long : length (rr_text (ChannelRelease cause)) ≡ 3 = rr_length (ChannelRelease cause) in omega arith
rr_short (PhysicalInformation advance) = let long : length (rr_text (PhysicalInformation advance)) ≡ 3 = rr_length (PhysicalInformation advance) in omega arith
rr_short (MeasurementReport results) = let long : length (rr_text (MeasurementReport results)) ≡ 18 = rr_length (MeasurementReport results) in omega arith
