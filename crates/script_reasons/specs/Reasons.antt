-- Why a line can't be read: the first thing that is wrong with it, and the word that is. Ours, of no standard.
use Rattle.std.specs.Prelude.{ℕ, ◌-◌, ◌==◌, ◌||◌, ◌&&◌, Bool, true, false, not, nat_eq, if◌then◌else◌, List, [], ◌∷◌, codes, Option, Some, None, is_some, option_map, option_and_then, slice_get, bytes_eq}
use Rattle.std.specs.List.{slice_split, list_any, starts_with}
use Rattle.std.specs.Char.{is_ascii_uppercase}
use Rattle.std.specs.Option.{option_or}
use Rattle.std.specs.Str.Lines.{strip_carriage_return}
use Rattle.lab_script.specs.Script.{is_comment, is_blank}
use Rattle.lab_script.specs.Sides.{is_for_peer, text_of}
use Rattle.lab_script.specs.declared.forms.Slot.{Slot}
use Rattle.lab_script.specs.declared.forms.Form.{Form}
use Rattle.script_reasons.specs.declared.reasons.Fault.{Fault}
use Rattle.script_reasons.specs.declared.reasons.Fault.TheVariants.{ByteOrderMark, NoPeer, Keyword, LoneKeyword, PeerKeyword, PeerSim, Word, Missing, Behind, Field, NoLevel, NoNeighbours, OnAbis, OnA, NoSim}
use Rattle.lab_script.specs.declared.forms.Form.TheVariants as form
use Rattle.lab_script.specs.declared.forms.Slot.TheVariants as slot
use Rattle.lab_script.specs.Words.{first_word, behind_word, octets_of}
use Rattle.lab_script.specs.Reports as of_report
use Rattle.lab_script.specs.Forms.{fits, takes_rest, form_of as form_by, slots_of, needs_sim}
use Rattle.encoded_messages.specs.Fields.{name_of}

-- what is wrong, and the word that is, or no octets where none is
abbrev pub Wrong : Type 0
Wrong = Fault × List ℕ

-- the names of messages on Abis (TS 48.058 clause 8), and on A (TS 48.008 clause 3.2.1)
abbrev pub abis_names : List (List ℕ)
abis_names =
    codes "CHANNEL ACTIVATION" ∷ codes "CHANNEL ACTIVATION ACK" ∷ codes "CHANNEL ACTIVATION NACK" ∷ codes "RF CHANNEL RELEASE"
    ∷ codes "RF CHANNEL RELEASE ACK" ∷ codes "CONNECTION FAILURE INDICATION" ∷ codes "DATA REQUEST" ∷ codes "DATA INDICATION"
    ∷ codes "HANDOVER DETECTION" ∷ codes "MEASUREMENT RESULT" ∷ []

abbrev pub a_names : List (List ℕ)
a_names =
    codes "HANDOVER REQUIRED" ∷ codes "HANDOVER REQUIRED REJECT" ∷ codes "HANDOVER REQUEST" ∷ codes "HANDOVER REQUEST ACKNOWLEDGE"
    ∷ codes "HANDOVER COMMAND" ∷ codes "HANDOVER DETECT" ∷ codes "HANDOVER COMPLETE" ∷ codes "HANDOVER FAILURE"
    ∷ codes "HANDOVER PERFORMED" ∷ codes "CLEAR REQUEST" ∷ codes "CLEAR COMMAND" ∷ codes "CLEAR COMPLETE" ∷ []

-- a name is one of these
abbrev pub is_among : List (List ℕ) → List ℕ → Bool
is_among names name = list_any (λ other. bytes_eq other name) names

-- a text begins with the name of a message
abbrev pub has_abis_name : List ℕ → Bool
has_abis_name text = is_among abis_names (name_of text)

abbrev pub has_a_name : List ℕ → Bool
has_a_name text = is_among a_names (name_of text)

-- this fault, where something is so
abbrev pub fault_if : Bool → Fault → Option Fault
fault_if is fault = if is then Some fault else None

-- a text begins with a capital letter, as the names of messages do
abbrev pub is_capitalized : List ℕ → Bool
is_capitalized [] = false
is_capitalized (first ∷ others) = is_ascii_uppercase first

-- what stands where a message should: the name, all of it, where it begins as one does; else the first word
abbrev pub shown_of : List ℕ → List ℕ
shown_of text = if is_capitalized (name_of text) then name_of text else first_word text

-- what is wrong with a text that isn't octets alone: with what stands behind its octets, where these stand first
abbrev pub behind_octets : Form → Slot → List ℕ → Option (List ℕ) → Wrong
behind_octets form slot text None = (Word slot, shown_of text)
behind_octets form slot text (Some rest) = if is_some (octets_of (first_word text)) then (Behind form, first_word rest) else (Word slot, shown_of text)

-- What is wrong with a text that is no message: with its words, where it has the name of one; else with the name that it has, or
-- its first word; or with what stands behind octets.
abbrev pub message_reason : Form → Slot → List ℕ → Option Fault → Wrong
message_reason form slot text (Some fault) = (fault, text)
message_reason form slot text None = behind_octets form slot text (behind_word text)

-- what is wrong with the fields of a report
abbrev pub field_reason : Option of_report.Wrong → Wrong
field_reason None = (NoNeighbours, [])
field_reason (Some (Some word, level)) = (Field, word)
field_reason (Some (None, true)) = (NoLevel, [])
field_reason (Some (None, false)) = (NoNeighbours, [])

abbrev pub fields_reason : List ℕ → Wrong
fields_reason text = field_reason (of_report.fields_fault text)

-- what is wrong with the rest of a line that doesn't fit its slot
abbrev pub unfit_rest : Form → Slot → List ℕ → Wrong
unfit_rest form slot.OnAbis text = message_reason form slot.OnAbis text (fault_if (has_abis_name text) OnAbis)
unfit_rest form slot.OnA text = message_reason form slot.OnA text (fault_if (has_a_name text) OnA)
unfit_rest form slot.Fields text = fields_reason text
unfit_rest form other text = message_reason form other text None

abbrev pub rest_reason : Form → Slot → List ℕ → Option Wrong
rest_reason form slot text = if fits slot text then None else Some (unfit_rest form slot text)

-- The first thing that is wrong with what is left of a line, slot by slot: a word that doesn't fit, one that is missing, or one
-- behind the last.
unfoldable pub first_wrong : Form → List Slot → Option (List ℕ) → Option Wrong
first_wrong form [] None = None
first_wrong form [] (Some text) = Some (Behind form, first_word text)
first_wrong form (slot ∷ slots) None = Some (Missing slot form, [])
first_wrong form (slot ∷ slots) (Some text) =
    if takes_rest slot then rest_reason form slot text
    else if fits slot (first_word text) then first_wrong form slots (behind_word text)
    else Some (Word slot, first_word text)

-- the one form of lines that attach what is simulated
abbrev pub is_sim : Form → Bool
is_sim form.Sim = true
is_sim other = false

-- what is wrong with the words behind the first of a line of a form
unfoldable pub form_reason : Bool → Option (List ℕ) → Form → Option Wrong
form_reason is_peer rest form = if is_peer && is_sim form then Some (PeerSim, []) else first_wrong form (slots_of form) rest

-- what is wrong with a first word that no line has
abbrev pub keyword_fault : Bool → Bool → Fault
keyword_fault has_peer is_peer = if is_peer then PeerKeyword else if has_peer then Keyword else LoneKeyword

-- what is wrong with a text, by the form that its first word names
abbrev pub named_reason : Bool → Bool → List ℕ → Option (List ℕ) → Option Form → Option Wrong
named_reason has_peer is_peer word rest None = Some (keyword_fault has_peer is_peer, word)
named_reason has_peer is_peer word rest (Some form) = form_reason is_peer rest form

unfoldable pub text_reason : Bool → Bool → List ℕ → Option Wrong
text_reason has_peer is_peer text = named_reason has_peer is_peer (first_word text) (behind_word text) (form_by (first_word text) (behind_word text))

-- a comment or a blank line
abbrev pub is_passed : List ℕ → Bool
is_passed line = is_comment line || is_blank line

-- a byte order mark in UTF-8
abbrev pub byte_order_mark : List ℕ
byte_order_mark = 239 ∷ 187 ∷ 191 ∷ []

abbrev pub is_marked : List ℕ → Bool
is_marked line = starts_with nat_eq line byte_order_mark

-- what is wrong with a line that isn't passed over
unfoldable pub side_reason : Bool → List ℕ → Option Wrong
side_reason has_peer line = if is_for_peer line && not has_peer then Some (NoPeer, []) else text_reason has_peer (is_for_peer line) (text_of line)

-- what is wrong with a line
unfoldable pub line_reason : Bool → List ℕ → Option Wrong
line_reason has_peer line = if is_passed line then None else if is_marked line then Some (ByteOrderMark, []) else side_reason has_peer line

-- the form of a line
abbrev pub form_of : List ℕ → Option Form
form_of line = form_by (first_word (text_of line)) (behind_word (text_of line))

-- what is wrong with a line of a form where nothing is simulated yet
abbrev pub sim_fault : Form → Option Fault
sim_fault form = if needs_sim form then Some (NoSim form) else None

unfoldable pub sim_reason : List ℕ → Option Wrong
sim_reason line = option_map (λ fault. (fault, [])) (option_and_then sim_fault (form_of line))

-- what stands between the line feeds of a text
abbrev pub part_at : List ℕ → ℕ → Option (List ℕ)
part_at text place = slice_get (slice_split (λ b. b == 10) text) place

-- the line of a number, counted from 1, without the one carriage return that may end it
abbrev pub line_at : ℕ → List ℕ → Option (List ℕ)
line_at number text = if number == 0 then None else option_map strip_carriage_return (part_at text (number - 1))

-- what is wrong with a line where no line before it is `sim`
unfoldable pub first_reason : Bool → List ℕ → Option Wrong
first_reason has_peer line = option_or (line_reason has_peer line) (sim_reason line)

-- and with the line of a number
unfoldable pub script_reason : Bool → ℕ → List ℕ → Option Wrong
script_reason has_peer number text = option_and_then (first_reason has_peer) (line_at number text)
