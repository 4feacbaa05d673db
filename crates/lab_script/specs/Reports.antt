-- What the fields of a report say. Ours, of no standard.
use Rattle.std.specs.Prelude.{ℕ, ◌==◌, Bool, true, false, not, if◌then◌else◌, List, [], ◌∷◌, codes, Option, Some, None, is_some, option_map, option_and_then, unwrap_or, slice_get, bytes_eq, replicate}
use Rattle.std.specs.List.{slice_split}
use Rattle.encoded_messages.specs.Words.{cut_at}
use Rattle.lab_script.specs.declared.asked.Heard.{Heard}
use Rattle.lab_script.specs.declared.asked.Report.{Report}
use Rattle.lab_script.specs.declared.report.Fields.{Fields}
use Rattle.lab_script.specs.declared.report.FieldsFault.{FieldsFault}
use Rattle.lab_script.specs.declared.report.FieldsFault.TheVariants as fault
use Rattle.lab_script.specs.Words.{words_of, number_below, count_of}

-- what no words say
abbrev pub none : Fields
none = record { full = None; sub = None; qfull = None; qsub = None; dtx = None; ta = None; power = None; heard = None; times = None }

-- what a field says that didn't stand yet
abbrev pub once : {T : Type 0} → Option T → Option T → Option T
once None new = new
once (Some old) new = None

-- the neighbour of CELL:LEVEL
abbrev pub heard_at : Option ℕ → Option ℕ → Option Heard
heard_at (Some cell) (Some level) = Some (record { cell = cell; level = level })
heard_at cell level = None

abbrev pub heard_of : List ℕ → Option Heard
heard_of text = option_and_then (λ p. heard_at (number_below 256 p.0) (number_below 64 p.1)) (cut_at 58 text)

-- the neighbour that a part says, where there is one
abbrev pub heard_in : Option (List ℕ) → Option (Option Heard)
heard_in None = Some None
heard_in (Some part) = option_map Some (heard_of part)

-- the parts of a list: one comma stands between any two
abbrev pub part_at : List ℕ → ℕ → Option (List ℕ)
part_at list place = slice_get (slice_split (λ b. b == 44) list) place

-- a place in front of others
abbrev pub in_front : Option (Option Heard) → Option (List (Option Heard)) → Option (List (Option Heard))
in_front (Some first) (Some rest) = Some (first ∷ rest)
in_front first rest = None

-- the neighbours of a list, at most six; or of `-`, none
unfoldable pub all_heard : List ℕ → Option (List (Option Heard))
all_heard list =
    if bytes_eq list (codes "-") then Some (replicate 6 None)
    else if is_some (part_at list 6) then None
    else in_front (heard_in (part_at list 0)) (in_front (heard_in (part_at list 1)) (in_front (heard_in (part_at list 2)) (in_front (heard_in (part_at list 3)) (in_front (heard_in (part_at list 4)) (in_front (heard_in (part_at list 5)) (Some []))))))

-- what a field with this key says beside the others, where it is one, can be read, and didn't stand yet
abbrev pub put : List ℕ → List ℕ → Fields → Option Fields
put key value f =
    if bytes_eq key (codes "full") then option_map (λ n. record f { full = Some n }) (once f.full (number_below 64 value))
    else if bytes_eq key (codes "sub") then option_map (λ n. record f { sub = Some n }) (once f.sub (number_below 64 value))
    else if bytes_eq key (codes "qfull") then option_map (λ n. record f { qfull = Some n }) (once f.qfull (number_below 8 value))
    else if bytes_eq key (codes "qsub") then option_map (λ n. record f { qsub = Some n }) (once f.qsub (number_below 8 value))
    else if bytes_eq key (codes "ta") then option_map (λ n. record f { ta = Some n }) (once f.ta (number_below 64 value))
    else if bytes_eq key (codes "power") then option_map (λ n. record f { power = Some n }) (once f.power (number_below 256 value))
    else if bytes_eq key (codes "n") then option_map (λ heard. record f { heard = Some heard }) (once f.heard (all_heard value))
    else if bytes_eq key (codes "times") then option_map (λ n. record f { times = Some n }) (once f.times (count_of value))
    else None

-- fields, with what a word says: `dtx`, or a key and its value
abbrev pub with_word : List ℕ → Fields → Option Fields
with_word word f =
    if bytes_eq word (codes "dtx") then option_map (λ dtx. record f { dtx = Some dtx }) (once f.dtx (Some true))
    else option_and_then (λ p. put p.0 p.1 f) (cut_at 61 word)

abbrev pub has_level : Fields → Bool
has_level f = is_some f.full

abbrev pub has_neighbours : Fields → Bool
has_neighbours f = is_some f.heard

-- The report: the level of the serving cell and the neighbours are said. The level over a subset of frames is that over all,
-- and so is the quality, where they aren't said.
abbrev pub report_with : Fields → Option ℕ → Option (List (Option Heard)) → Option Report
report_with f (Some full) (Some heard) = Some (record {
  full = full;
  sub = unwrap_or f.sub full;
  qfull = unwrap_or f.qfull 0;
  qsub = unwrap_or f.qsub (unwrap_or f.qfull 0);
  dtx = unwrap_or f.dtx false;
  ta = f.ta;
  power = unwrap_or f.power 0;
  heard = heard;
  times = unwrap_or f.times 1;
})
report_with f full heard = None

abbrev pub report_in : Fields → Option Report
report_in f = report_with f f.full f.heard

-- what words say, one after the other
unfoldable pub all_fields : List (List ℕ) → Fields → Option Fields
all_fields [] f = Some f
all_fields (word ∷ words) f = option_and_then (all_fields words) (with_word word f)

abbrev pub report_of : List ℕ → Option Report
report_of text = option_and_then report_in (all_fields (words_of text) none)

-- What is wrong with fields: a word that is none, can't be read, or stands twice; or, without one, that the level of the serving
-- cell is missing, or else the neighbours.
abbrev pub Wrong : Type 0
Wrong = Option (List ℕ) × Bool

abbrev pub shown : FieldsFault → Wrong
shown (fault.Word word) = (Some word.now, false)
shown fault.NoLevel = (None, true)
shown fault.NoNeighbours = (None, false)

-- what is missing
abbrev pub missing : Fields → Option Wrong
missing f = if not (has_level f) then Some (None, true) else if not (has_neighbours f) then Some (None, false) else None

-- what is wrong first with words, behind others
unfoldable pub words_fault : List (List ℕ) → Fields → Option Wrong
words_fault [] f = missing f
words_fault (word ∷ words) f = unwrap_or (option_map (words_fault words) (with_word word f)) (Some (Some word, false))

abbrev pub fields_fault : List ℕ → Option Wrong
fields_fault text = words_fault (words_of text) none
