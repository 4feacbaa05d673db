-- How an input is written. A text is the list of its bytes. Ours, of no standard.
use Rattle.std.specs.Prelude.{ℕ, ◌-◌, ◌^◌, Bool, true, false, List, [], ◌∷◌, codes}
use Rattle.std.specs.Fmt.{decimal, digits, padded_integral, format_spec}
use Rattle.std.specs.List.{flat_map, join_with_byte}
use Rattle.attempt_journal.specs.declared.Timer.{Timer}
use Rattle.attempt_journal.specs.declared.Timer.TheVariants as of_call
use Rattle.channel_fsm.specs.declared.ChanId.{ChanId}
use Rattle.channel_fsm.specs.Text.{timeslot_text}
use Rattle.timeslots.specs.declared.Rate.{Rate}
use Rattle.timeslots.specs.declared.Rate.TheVariants as rate
use Rattle.exchange.specs.declared.Line.{Line}
use Rattle.exchange.specs.declared.Line.TheVariants as asks
use Rattle.link_tables.specs.declared.Timer as channel
use Rattle.link_tables.specs.declared.Timer.TheVariants as of_channel
use Rattle.link_exchange.specs.declared.LinkInput.{LinkInput}
use Rattle.link_exchange.specs.declared.LinkInput.TheVariants as input
use Rattle.link_exchange.specs.declared.TimerKey.{TimerKey}
use Rattle.link_exchange.specs.declared.TimerKey.TheVariants as key

-- words, with one blank between any two
abbrev pub line_text : List (List ℕ) → List ℕ
line_text words = join_with_byte 32 words

-- octets, each in two small hexadecimal digits, as `{:02x}` writes them
abbrev pub hex_octet : ℕ → List ℕ
hex_octet octet = padded_integral (format_spec 32 0 4 2 (2 ^ 64 - 1)) false [] (digits 16 false octet)

abbrev pub hex_text : List ℕ → List ℕ
hex_text octets = flat_map hex_octet octets

-- CELL TRX TN
abbrev pub channel_words : ChanId → List (List ℕ)
channel_words x = decimal x.cell ∷ decimal x.trx ∷ timeslot_text x.tn x.sub ∷ []

abbrev pub channel_text : ChanId → List ℕ
channel_text x = line_text (channel_words x)

abbrev pub call_timer : Timer → List ℕ
call_timer of_call.T3103 = codes "T3103"
call_timer of_call.T7 = codes "T7"
call_timer of_call.T8 = codes "T8"

abbrev pub channel_timer : channel.Timer → List ℕ
channel_timer of_channel.Activation = codes "activation"
channel_timer of_channel.T3109 = codes "T3109"
channel_timer of_channel.T3111 = codes "T3111"
channel_timer of_channel.Release = codes "release"
channel_timer of_channel.Bar = codes "bar"

-- TIMER, and whose it is
abbrev pub key_words : TimerKey → List (List ℕ)
key_words (key.Call call t) = call_timer t ∷ decimal call ∷ []
key_words (key.Channel chan t) = channel_timer t ∷ channel_words chan

abbrev pub key_text : TimerKey → List ℕ
key_text k = line_text (key_words k)

abbrev pub rate_word : Rate → List ℕ
rate_word rate.Full = codes "full"
rate_word rate.Half = codes "half"

abbrev pub switch_word : Bool → List ℕ
switch_word true = codes "on"
switch_word false = codes "off"

abbrev pub up_word : Bool → List ℕ
up_word true = codes "up"
up_word false = codes "down"

-- what an operator asks for
abbrev pub operators_words : Line → List (List ℕ)
operators_words (asks.Open call chan) = codes "open" ∷ decimal call ∷ channel_words chan
operators_words (asks.Seize call cell r) = codes "seize" ∷ decimal call ∷ decimal cell ∷ rate_word r ∷ []
operators_words (asks.Handover call cell) = codes "handover" ∷ decimal call ∷ decimal cell ∷ []
operators_words (asks.Undo call) = codes "undo" ∷ decimal call ∷ []
operators_words (asks.Clear call) = codes "clear" ∷ decimal call ∷ []

abbrev pub operators_text : Line → List ℕ
operators_text l = line_text (operators_words l)

-- a message on Abis, and one on A
abbrev pub abis_words : ℕ → ℕ → List ℕ → List (List ℕ)
abis_words cell trx octets = codes "abis" ∷ decimal cell ∷ decimal trx ∷ hex_text octets ∷ []

abbrev pub a_words : ℕ → List ℕ → List (List ℕ)
a_words call octets = codes "a" ∷ decimal call ∷ hex_text octets ∷ []

-- the words of a line
abbrev pub words : {A : Type 0} → LinkInput A → List (List ℕ)
words input.Begin = codes "begin" ∷ []
words (input.Link cell trx is_up) = up_word is_up ∷ decimal cell ∷ decimal trx ∷ []
words (input.Centre is_up) = up_word is_up ∷ codes "centre" ∷ []
words (input.Abis cell trx octets) = abis_words cell trx octets
words (input.A call octets) = a_words call octets
words (input.ForAbis cell trx octets) = codes "for" ∷ abis_words cell trx octets
words (input.ForA call octets) = codes "for" ∷ a_words call octets
words (input.SendAbis cell trx octets) = codes "send" ∷ abis_words cell trx octets
words (input.SendA call octets) = codes "send" ∷ a_words call octets
words (input.Expired k) = codes "expired" ∷ key_words k
words (input.Operator l) = operators_words l
words (input.Bar chan) = codes "bar" ∷ channel_words chan
words (input.Unbar chan) = codes "unbar" ∷ channel_words chan
words (input.Away call is_away) = codes "away" ∷ decimal call ∷ switch_word is_away ∷ []
words (input.Reports call are_heeded) = codes "reports" ∷ decimal call ∷ switch_word are_heeded ∷ []
words (input.Advance call n) = codes "advance" ∷ decimal call ∷ decimal n ∷ []
words input.BridgeCommands = codes "set" ∷ codes "commands" ∷ codes "bridge" ∷ []

-- the text of a line
abbrev pub input_text : {A : Type 0} → LinkInput A → List ℕ
input_text i = line_text (words i)
