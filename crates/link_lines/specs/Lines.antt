-- What a line says, or the first thing that is wrong with it. A text is the list of its bytes; one blank stands between any two words.
-- Ours, of no standard.
use Rattle.std.specs.Prelude.{ℕ, Bool, true, false, ◌||◌, if◌then◌else◌, List, [], ◌∷◌, codes, Option, Some, None, option_map, option_and_then, ok_or, Ok, Err, bytes_eq}
use Rattle.channel_fsm.specs.declared.ChanId.{ChanId}
use Rattle.timeslots.specs.declared.Sub.{Sub}
use Rattle.exchange.specs.declared.Inbound.{Inbound}
use Rattle.exchange.specs.declared.Inbound.TheVariants as inbound
use Rattle.lab_script.specs.declared.forms.Form.{Form}
use Rattle.lab_script.specs.declared.forms.Form.TheVariants as form
use Rattle.lab_script.specs.declared.script.Item.{Item}
use Rattle.lab_script.specs.declared.script.Given.{Given}
use Rattle.lab_script.specs.declared.script.Given.TheVariants as gives
use Rattle.lab_script.specs.Forms.{form_named}
use Rattle.lab_script.specs.Script.{item_of, is_comment, is_blank}
use Rattle.lab_script.specs.Words.{first_word, behind_word, number_below, timeslot_of}
use Rattle.script_reasons.specs.Reasons.{Wrong, line_reason}
use Rattle.encoded_messages.specs.FieldFaults.{◌>>=◌, ◌>>◌, read_map}
use Rattle.link_exchange.specs.declared.LinkInput.{LinkInput}
use Rattle.link_exchange.specs.declared.LinkInput.TheVariants as input
use Rattle.link_exchange.specs.declared.TimerKey.{TimerKey}
use Rattle.link_exchange.specs.declared.TimerKey.TheVariants as key
use Rattle.link_lines.specs.declared.fault.Place.{Place}
use Rattle.link_lines.specs.declared.fault.Place.TheVariants as place
use Rattle.link_lines.specs.declared.words.TimerName.{TimerName}
use Rattle.link_lines.specs.declared.words.TimerName.TheVariants as timer
use Rattle.link_lines.specs.declared.reading.LinkLine.{LinkLine}
use Rattle.link_lines.specs.declared.reading.LinkLine.TheVariants as line
use Rattle.link_lines.specs.Faults.{Fault, Read, Keyword, Word, Missing, Behind, Script}
use Rattle.link_lines.specs.Words.{switch_of, timer_named, only}

-- STEPS: what stands next, and what stands behind that

-- what is read, and what is left of the line behind it
abbrev pub Step : Type 0 → Type 0
Step X = Read (X × Option (List ℕ))

abbrev pub word_at : Place → Option (List ℕ) → Step (List ℕ)
word_at place None = Err (Missing place)
word_at place (Some text) = Ok (first_word text, behind_word text)

-- what the next word says in its place
abbrev pub said_at : {X : Type 0} → Place → (List ℕ → Option X) → Option (List ℕ) → Step X
said_at place says rest = word_at place rest >>= (λ w. ok_or (option_map (λ x. (x, w.1)) (says w.0)) (Word place w.0))

unfoldable pub call_at : Option (List ℕ) → Step ℕ
call_at rest = said_at place.Call (number_below 65536) rest

unfoldable pub octet_at : Place → Option (List ℕ) → Step ℕ
octet_at place rest = said_at place (number_below 256) rest

unfoldable pub timeslot_at : Option (List ℕ) → Step (ℕ × Sub)
timeslot_at rest = said_at place.Timeslot timeslot_of rest

unfoldable pub switch_at : Option (List ℕ) → Step Bool
switch_at rest = said_at place.Switch switch_of rest

unfoldable pub advance_at : Option (List ℕ) → Step ℕ
advance_at rest = said_at place.Advance (number_below 64) rest

unfoldable pub timer_at : Option (List ℕ) → Step TimerName
timer_at rest = said_at place.Timer timer_named rest

-- CELL TRX
unfoldable pub station_at : Option (List ℕ) → Step (ℕ × ℕ)
station_at rest = octet_at place.Cell rest >>= (λ cell. octet_at place.Trx cell.1 >>= (λ trx. Ok ((cell.0, trx.0), trx.1)))

-- CELL TRX TN
unfoldable pub channel_at : Option (List ℕ) → Step ChanId
channel_at rest =
    station_at rest >>= (λ station. timeslot_at station.1 >>= (λ slot.
    Ok (record { cell = station.0.0; trx = station.0.1; tn = slot.0.0; sub = slot.0.1 }, slot.1)))

-- a timer of a call, CALL; one of a channel, CELL TRX TN
unfoldable pub timer_of : TimerName → Option (List ℕ) → Step TimerKey
timer_of (timer.Call t) rest = call_at rest >>= (λ call. Ok (key.Call call.0 t, call.1))
timer_of (timer.Channel t) rest = channel_at rest >>= (λ chan. Ok (key.Channel chan.0 t, chan.1))

-- TIMER, and whose it is
unfoldable pub key_at : Option (List ℕ) → Step TimerKey
key_at rest = timer_at rest >>= (λ name. timer_of name.0 name.1)

-- the one word of its place, and what is left behind it
unfoldable pub only_at : Place → List ℕ → Option (List ℕ) → Read (Option (List ℕ))
only_at place word rest = said_at place (only word) rest >>= (λ found. Ok found.1)

-- nothing is left
abbrev pub end_at : Option (List ℕ) → Read (Unit {0})
end_at None = Ok tt
end_at (Some text) = Err (Behind (first_word text))

-- LINES, by what stands behind their first word

-- `centre`, or CELL TRX
abbrev pub is_centre : Option (List ℕ) → Bool
is_centre None = false
is_centre (Some text) = bytes_eq text (codes "centre")

unfoldable pub link_in : {A : Type 0} → Bool → Option (List ℕ) → Read (LinkInput A)
link_in is_up rest =
    if is_centre rest then Ok (input.Centre is_up)
    else station_at rest >>= (λ station. end_at station.1 >> Ok (input.Link station.0.0 station.0.1 is_up))

-- TIMER, and whose it is
unfoldable pub expired_in : {A : Type 0} → Option (List ℕ) → Read (LinkInput A)
expired_in rest = key_at rest >>= (λ key. end_at key.1 >> Ok (input.Expired key.0))

-- CELL TRX TN
unfoldable pub bar_in : {A : Type 0} → Option (List ℕ) → Read (LinkInput A)
bar_in rest = channel_at rest >>= (λ chan. end_at chan.1 >> Ok (input.Bar chan.0))

unfoldable pub unbar_in : {A : Type 0} → Option (List ℕ) → Read (LinkInput A)
unbar_in rest = channel_at rest >>= (λ chan. end_at chan.1 >> Ok (input.Unbar chan.0))

-- CALL on, CALL off
unfoldable pub away_in : {A : Type 0} → Option (List ℕ) → Read (LinkInput A)
away_in rest = call_at rest >>= (λ call. switch_at call.1 >>= (λ is. end_at is.1 >> Ok (input.Away call.0 is.0)))

unfoldable pub reports_in : {A : Type 0} → Option (List ℕ) → Read (LinkInput A)
reports_in rest = call_at rest >>= (λ call. switch_at call.1 >>= (λ are. end_at are.1 >> Ok (input.Reports call.0 are.0)))

-- CALL N
unfoldable pub advance_in : {A : Type 0} → Option (List ℕ) → Read (LinkInput A)
advance_in rest = call_at rest >>= (λ call. advance_at call.1 >>= (λ n. end_at n.1 >> Ok (input.Advance call.0 n.0)))

-- `commands bridge`
unfoldable pub set_in : {A : Type 0} → Option (List ℕ) → Read (LinkInput A)
set_in rest =
    only_at place.Setting (codes "commands") rest >>= (λ more. only_at place.Setter (codes "bridge") more >>= (λ last.
    end_at last >> Ok input.BridgeCommands))

-- nothing
abbrev pub alone : {A : Type 0} → LinkLine A → Option (List ℕ) → Read (LinkLine A)
alone said rest = end_at rest >> Ok said

-- LINES OF SCRIPTS: an operator's five, and messages

-- the forms of those that are read
abbrev pub is_message : Option Form → Bool
is_message (Some form.Abis) = true
is_message (Some form.A) = true
is_message other = false

abbrev pub is_operators : Option Form → Bool
is_operators (Some form.Open) = true
is_operators (Some form.Seize) = true
is_operators (Some form.Handover) = true
is_operators (Some form.Undo) = true
is_operators (Some form.Clear) = true
is_operators other = false

-- what a line of a script gives a controller
abbrev pub input_given : {A : Type 0} → Given A → Option (Inbound A)
input_given (gives.Input it) = Some it
input_given other = None

abbrev pub input_of : {A : Type 0} → Option (Item A) → Option (Inbound A)
input_of item = option_and_then (λ item. input_given item.given) item

-- why it can't be read, by its first word and by the reason of scripts
abbrev pub wrong_by : List ℕ → Option Wrong → Fault
wrong_by word None = Keyword word
wrong_by word (Some wrong) = Script wrong.0 wrong.1

abbrev pub script_fault : List ℕ → Fault
script_fault text = wrong_by (first_word text) (line_reason false text)

unfoldable pub script_in : {A : Type 0} → List ℕ → Read (Inbound A)
script_in text = ok_or (input_of (item_of text)) (script_fault text)

-- a message, as a line of a script gives it
abbrev pub message_by : {A : Type 0} → List ℕ → Read (Inbound A)
message_by text = if is_message (form_named (first_word text)) then script_in text else Err (Word place.Message (first_word text))

unfoldable pub message_in : {A : Type 0} → Option (List ℕ) → Read (Inbound A)
message_in None = Err (Missing place.Message)
message_in (Some text) = message_by text

-- as it came; in another's place; as the bridge sends it
abbrev pub as_came : {A : Type 0} → Inbound A → LinkInput A
as_came (inbound.Abis cell trx octets) = input.Abis cell trx octets
as_came (inbound.A call octets) = input.A call octets
as_came (inbound.Expiry call t) = input.Expired (key.Call call t)
as_came (inbound.Operator l) = input.Operator l

abbrev pub in_place : {A : Type 0} → Inbound A → LinkInput A
in_place (inbound.Abis cell trx octets) = input.ForAbis cell trx octets
in_place (inbound.A call octets) = input.ForA call octets
in_place other = as_came other

abbrev pub as_sent : {A : Type 0} → Inbound A → LinkInput A
as_sent (inbound.Abis cell trx octets) = input.SendAbis cell trx octets
as_sent (inbound.A call octets) = input.SendA call octets
as_sent other = as_came other

-- ALL LINES

abbrev pub given : {A : Type 0} → Read (LinkInput A) → Read (LinkLine A)
given read = read_map line.Input read

-- what lines begin with that have no message, and what is read behind that
abbrev pub kinds : {A : Type 0} → List (List ℕ × (Option (List ℕ) → Read (LinkLine A)))
kinds =
    (codes "begin", alone (line.Input input.Begin)) ∷ (codes "calls", alone line.Calls) ∷ (codes "summary", alone line.Summary)
    ∷ (codes "up", λ rest. given (link_in true rest)) ∷ (codes "down", λ rest. given (link_in false rest))
    ∷ (codes "expired", λ rest. given (expired_in rest)) ∷ (codes "bar", λ rest. given (bar_in rest))
    ∷ (codes "unbar", λ rest. given (unbar_in rest)) ∷ (codes "away", λ rest. given (away_in rest))
    ∷ (codes "reports", λ rest. given (reports_in rest)) ∷ (codes "advance", λ rest. given (advance_in rest))
    ∷ (codes "set", λ rest. given (set_in rest)) ∷ []

abbrev pub read_by : {A : Type 0} → List (List ℕ × (Option (List ℕ) → Read (LinkLine A))) → List ℕ → Option (List ℕ) → Option (Read (LinkLine A))
read_by [] word rest = None
read_by (k ∷ ks) word rest = if bytes_eq word k.0 then Some (k.1 rest) else read_by ks word rest

-- a line that is one of a script, by its first word
abbrev pub script_line : {A : Type 0} → List ℕ → List ℕ → Read (LinkInput A)
script_line word text =
    if is_message (form_named word) || is_operators (form_named word) then read_map as_came (script_in text) else Err (Keyword word)

-- a line that has a message, or is one of a script, by its first word and by what stands behind that
abbrev pub other_line : {A : Type 0} → List ℕ → Option (List ℕ) → List ℕ → Read (LinkInput A)
other_line word rest text =
    if bytes_eq word (codes "for") then read_map in_place (message_in rest)
    else if bytes_eq word (codes "send") then read_map as_sent (message_in rest)
    else script_line word text

abbrev pub unless_plain : {A : Type 0} → Option (Read (LinkLine A)) → Read (LinkInput A) → Read (LinkLine A)
unless_plain (Some read) other = read
unless_plain None other = given other

abbrev pub words_by : {A : Type 0} → List ℕ → Option (List ℕ) → List ℕ → Read (LinkLine A)
words_by word rest text = unless_plain (read_by kinds word rest) (other_line word rest text)

unfoldable pub words_in : {A : Type 0} → List ℕ → Read (LinkLine A)
words_in text = words_by (first_word text) (behind_word text) text

-- what a line says, which no carriage return ends
unfoldable pub line_of : {A : Type 0} → List ℕ → Read (LinkLine A)
line_of text = if is_comment text || is_blank text then Ok line.Nothing else words_in text
