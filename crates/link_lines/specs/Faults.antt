-- Why a line can't be read: the first thing that is wrong with it. A text is the list of its bytes. Ours, of no standard.
use Rattle.std.specs.Prelude.{◌≡◌, ◌≢◌, ℕ, List, Result, Ok, Err}
use Rattle.script_reasons.specs.declared.reasons.Fault as script
use Rattle.link_lines.specs.declared.fault.Place.{Place}
use Rattle.link_lines.specs.declared.fault.LineFault.{LineFault}
use Rattle.link_lines.specs.declared.fault.LineFault.TheVariants as found

-- A fault by its texts: a word with which no line begins; a word that isn't what stands in its place; a word that is missing; one
-- behind the last; what is wrong with a line of a script, and the word that is. Refused memory is no text's fault: nothing here says it.
pub data Fault : Type 0 where
  Keyword Behind : List ℕ → Fault
  Word : Place → List ℕ → Fault
  Missing : Place → Fault
  Script : script.Fault → List ℕ → Fault
  NoMemory : Fault

-- the texts of a fault that was found
abbrev pub fault_of : LineFault → Fault
fault_of (found.Keyword word) = Keyword word.now
fault_of (found.Word place word) = Word place word.now
fault_of (found.Missing place) = Missing place
fault_of (found.Behind word) = Behind word.now
fault_of (found.Script reason) = Script reason.fault reason.found.now
fault_of found.NoMemory = NoMemory

-- what is read, or the first thing that is wrong
abbrev pub Read : Type 0 → Type 0
Read X = Result X Fault

-- what was read, its fault by its texts
abbrev pub read_of : {X : Type 0} → Result X LineFault → Read X
read_of (Ok x) = Ok x
read_of (Err fault) = Err (fault_of fault)

-- What a reader that asks for memory answers: what is said, or the first thing that is wrong, unless memory was refused.
abbrev pub Answers : {X : Type 0} → Result X LineFault → Read X → Type 0
Answers (Ok x) said = said ≡ Ok x
Answers (Err fault) said = fault ≢ found.NoMemory → said ≡ Err (fault_of fault)
