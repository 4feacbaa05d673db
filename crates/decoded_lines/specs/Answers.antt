-- Which lines say a message. A line is the list of its bytes, without its line feed.
use Rattle.std.specs.Prelude.{◌≡◌, ◌≢◌, ◌⊎◌, ℕ, ◌≤◌, true, false, List, [], Option, Some, None, IfSome, All, length}
use Rattle.std.specs.List.{slice_split}
use Rattle.decoded_lines.specs.Lines.{octets_of, text_in, is_blank, first_word, behind_word}
use Rattle.decoded_lines.specs.Reading.{is_feed, longest_line, first_line, behind_line}
use Rattle.decoded_lines.specs.declared.answers.LinesFault.{LinesFault}
use Rattle.decoded_lines.specs.declared.answers.LinesFault.TheVariants as lines
use Rattle.decoded_lines.specs.declared.answers.Verdict.{Verdict}
use Rattle.decoded_lines.specs.declared.answers.Verdict.TheVariants as verdict
use Rattle.explanations.specs.declared.link.LinkName.{LinkName}
use Rattle.screen_text.specs.declared.fault.PrintFault.{PrintFault}
use Rattle.screen_text.specs.declared.fault.PrintFault.TheVariants as print
use Rattle.decoded_lines.specs.Messages.{link_name, IsMessage}

-- The octets of a text come from a link, and this is what writes them: the link that is given for all lines and the whole
-- text, or, where none is given, the one that the text's first word names and what stands behind that.
abbrev pub IsFrom : Option LinkName → List ℕ → LinkName → List ℕ → Type 0
IsFrom (Some given) text link written = (link ≡ given) × (written ≡ text)
IsFrom None text link written = (link_name link ≡ first_word text) × (written ≡ behind_word text)

-- the text writes octets that are a message of the link
abbrev pub WritesMessage : (A : Type 0) → LinkName → List ℕ → Type 0
WritesMessage A link written = (octets : List ℕ) × (octets_of written ≡ Some octets) × IsMessage A link octets

-- the text says a message
abbrev pub TextSays : (A : Type 0) → Option LinkName → List ℕ → Type 0
TextSays A given text = (link : LinkName) × (written : List ℕ) × IsFrom given text link written × WritesMessage A link written

-- what stands before the note of a line says a message
abbrev pub LineSays : (A : Type 0) → Option LinkName → List ℕ → Type 0
LineSays A given line = TextSays A given (text_in line)

-- a line that isn't refused: it isn't too long, and says a message, if it isn't blank
abbrev pub IsGood : (A : Type 0) → Option LinkName → List ℕ → Type 0
IsGood A given line = (length line ≤ longest_line) × (is_blank line ≡ false → LineSays A given line)

-- all lines of these octets are such; a line feed stands between any two
abbrev pub AreGood : (A : Type 0) → Option LinkName → List ℕ → Type 0
AreGood A given octets = All (IsGood A given) (slice_split is_feed octets)

-- what came of a line: it is blank, it says a message, or it isn't blank and says none
abbrev pub Judges : (A : Type 0) → Option LinkName → List ℕ → Verdict → Type 0
Judges A given line verdict.Blank = is_blank line ≡ true
Judges A given line verdict.Message = (is_blank line ≡ false) × LineSays A given line
Judges A given line verdict.Refused = (is_blank line ≡ false) × (LineSays A given line → ⊥)

-- what is counted as refused before a line and with it
abbrev pub IsAdded : Verdict → ℕ → ℕ → Type 0
IsAdded verdict.Blank before with_it = with_it ≡ before
IsAdded verdict.Message before with_it = with_it ≡ before
IsAdded verdict.Refused before with_it = with_it ≢ 0

-- a line is counted as refused just where it isn't good; what is counted is how many were refused before, and with it
abbrev pub IsCounted : (A : Type 0) → Option LinkName → List ℕ → ℕ → ℕ → Type 0
IsCounted A given line before with_it = (IsGood A given line × (with_it ≡ before)) ⊎ ((IsGood A given line → ⊥) × (with_it ≢ 0))

-- the first of the lines that a reader has left was counted, and the reader has it no more
abbrev pub CountsFirst : (A : Type 0) → Option LinkName → Option (List ℕ) → Option (List ℕ) → ℕ → ℕ → Type 0
CountsFirst A given old new before with_it =
    IfSome old (λ octets. (octets ≢ []) × IsCounted A given (first_line octets) before with_it × (new ≡ Some (behind_line octets)))

-- why lines aren't answered to their end, where a message isn't printed
abbrev pub lines_fault_of : PrintFault → LinesFault
lines_fault_of print.NoMemory = lines.NoMemory
lines_fault_of print.Write = lines.Write
