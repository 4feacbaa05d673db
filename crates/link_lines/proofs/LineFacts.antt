-- Lines: what is written is read.
use Rattle.std.proofs.Common.{◌≡◌, ℕ, ◌<◌, ◌||◌, ◌==◌, List, ◌∷◌, [], ◌++◌, Option, Some, None, Ok, Bool, true, false, refl, sym, ap, ◌∙◌, arith, rules, codes, bytes_eq}
use Rattle.std.proofs.lemmas.Slice.Eq.{bytes_eq-Decides}
use Rattle.std.specs.Fmt.{decimal}
use Rattle.std.specs.List.{list_any}
use Rattle.channel_fsm.specs.declared.ChanId.{ChanId}
use Rattle.exchange.specs.declared.Inbound.{Inbound}
use Rattle.exchange.specs.declared.Inbound.TheVariants as inbound
use Rattle.exchange.specs.declared.Line.{Line}
use Rattle.exchange.specs.declared.Line.TheVariants as asks
use Rattle.encoded_messages.specs.Words.{Lacks}
use Rattle.encoded_messages.specs.FieldFaults.{◌>>=◌, ◌>>◌, read_map}
use Rattle.lab_script.specs.Forms.{form_named}
use Rattle.lab_script.specs.Script.{is_comment, is_blank}
use Rattle.lab_script.specs.Words.{first_word, behind_word}
use Rattle.link_exchange.specs.declared.LinkInput.{LinkInput}
use Rattle.link_exchange.specs.declared.LinkInput.TheVariants as input
use Rattle.link_exchange.specs.declared.TimerKey.{TimerKey}
use Rattle.link_exchange.specs.declared.TimerKey.TheVariants as key
use Rattle.link_lines.specs.declared.fault.Place.{Place}
use Rattle.link_lines.specs.declared.fault.Place.TheVariants as place
use Rattle.link_lines.specs.declared.reading.LinkLine.{LinkLine}
use Rattle.link_lines.specs.declared.reading.LinkLine.TheVariants as line
use Rattle.link_lines.specs.Faults.{Read}
use Rattle.link_lines.specs.Lines.{link_in, expired_in, bar_in, unbar_in, away_in, reports_in, advance_in, set_in, only_at, end_at, is_message, script_in, message_in, as_came, in_place, as_sent, given, words_by, words_in, line_of}
use Rattle.link_lines.specs.Laws.{FitsCall, FitsStation, FitsChannel, FitsMessage, FitsKey, FitsOperators, ReadsTexts}
use Rattle.link_lines.specs.Text.{line_text, abis_words, a_words, hex_text, channel_text, key_text, switch_word, rate_word, operators_text}
use Rattle.link_lines.proofs.WordFacts.{word_first, word_behind, last_first, last_behind}
use Rattle.link_lines.proofs.StepFacts.{call_step, station_last, channel_last, switch_last, advance_last, key_last}
use Rattle.link_lines.proofs.ScriptFacts.{abis_read, a_read, open_read, undo_read, clear_read, handover_read, seize_read}

-- a line that isn't passed over
told : {A : Type 0} (text : List ℕ) (read : Read (LinkLine A)) → (is_comment text || is_blank text) ≡ false → words_in text ≡ read → line_of text ≡ read
unfolding line_of
told text read told_of e = rw (told_of, e) refl

-- by its first word, and by what stands behind that
words_read : {A : Type 0} (word rest : List ℕ) (read : Read (LinkLine A)) → (is_comment (word ++ 32 ∷ rest) || is_blank (word ++ 32 ∷ rest)) ≡ false → Lacks 32 word
    → words_by word (Some rest) (word ++ 32 ∷ rest) ≡ read → line_of (word ++ 32 ∷ rest) ≡ read
unfolding words_in
words_read word rest read told_of lacks found =
    told (word ++ 32 ∷ rest) read told_of (ap (λ w. words_by w (behind_word (word ++ 32 ∷ rest)) (word ++ 32 ∷ rest)) (word_first word rest lacks)
    ∙ (ap (λ r. words_by word r (word ++ 32 ∷ rest)) (word_behind word rest lacks) ∙ found))

word_read : {A : Type 0} (word : List ℕ) (read : Read (LinkLine A)) → (is_comment word || is_blank word) ≡ false → Lacks 32 word → words_by word None word ≡ read → line_of word ≡ read
unfolding words_in
word_read word read told_of lacks found =
    told word read told_of (ap (λ w. words_by w (behind_word word) word) (last_first word lacks) ∙ (ap (λ r. words_by word r word) (last_behind word lacks) ∙ found))

-- BEHIND THE FIRST WORD

or_true : (b : Bool) → (b || true) ≡ true
or_true true = refl
or_true false = refl

has_blank : (w rest : List ℕ) → list_any (λ b. b == 32) (w ++ 32 ∷ rest) ≡ true
has_blank [] rest = refl
has_blank (b ∷ w) rest = rw (has_blank w rest) (or_true (b == 32))

-- two words aren't `centre`
not_centre : (w rest : List ℕ) → bytes_eq (w ++ 32 ∷ rest) (codes "centre") ≡ false
not_centre w rest = by_test (bytes_eq (w ++ 32 ∷ rest) (codes "centre")) refl
  where
    by_test : (b : Bool) → bytes_eq (w ++ 32 ∷ rest) (codes "centre") ≡ b → b ≡ false
    by_test false e = refl
    by_test true e =
        let same : w ++ 32 ∷ rest ≡ codes "centre" = (bytes_eq-Decides (w ++ 32 ∷ rest) (codes "centre")).0 e in
        let bad : true ≡ false = sym (has_blank w rest) ∙ ap (λ (t : List ℕ). list_any (λ b. b == 32) t) same in
        absurd (search (rules, bad))

link_read : {A : Type 0} (is_up : Bool) (cell trx : ℕ) → FitsStation cell trx → link_in {A = A} is_up (Some (decimal cell ++ 32 ∷ decimal trx)) ≡ Ok (input.Link cell trx is_up)
unfolding link_in
link_read is_up cell trx f = rw (not_centre (decimal cell) (decimal trx), station_last cell trx f) refl

centre_read : {A : Type 0} (is_up : Bool) → link_in {A = A} is_up (Some (codes "centre")) ≡ Ok (input.Centre is_up)
unfolding link_in
centre_read is_up = refl

expired_read : {A : Type 0} (k : TimerKey) → FitsKey k → expired_in {A = A} (Some (key_text k)) ≡ Ok (input.Expired k)
unfolding expired_in
expired_read k f = rw (key_last k f) refl

bar_read : {A : Type 0} (x : ChanId) → FitsChannel x → bar_in {A = A} (Some (channel_text x)) ≡ Ok (input.Bar x)
unfolding bar_in
bar_read x f = rw (channel_last x f) refl

unbar_read : {A : Type 0} (x : ChanId) → FitsChannel x → unbar_in {A = A} (Some (channel_text x)) ≡ Ok (input.Unbar x)
unfolding unbar_in
unbar_read x f = rw (channel_last x f) refl

away_read : {A : Type 0} (call : ℕ) (is : Bool) → FitsCall call → away_in {A = A} (Some (decimal call ++ 32 ∷ switch_word is)) ≡ Ok (input.Away call is)
unfolding away_in
away_read call is f = rw (call_step call (switch_word is) f, switch_last is) refl

reports_read : {A : Type 0} (call : ℕ) (are : Bool) → FitsCall call → reports_in {A = A} (Some (decimal call ++ 32 ∷ switch_word are)) ≡ Ok (input.Reports call are)
unfolding reports_in
reports_read call are f = rw (call_step call (switch_word are) f, switch_last are) refl

advance_read : {A : Type 0} (call n : ℕ) → FitsCall call → n < 64 → advance_in {A = A} (Some (decimal call ++ 32 ∷ decimal n)) ≡ Ok (input.Advance call n)
unfolding advance_in
advance_read call n f small = rw (call_step call (decimal n) f, advance_last n small) refl

same_word : (word : List ℕ) → bytes_eq word word ≡ true
same_word word = (bytes_eq-Decides word word).1 refl

only_step : (place : Place) (word rest : List ℕ) → Lacks 32 word → only_at place word (Some (word ++ 32 ∷ rest)) ≡ Ok (Some rest)
unfolding only_at
only_step place word rest lacks = rw (word_first word rest lacks, word_behind word rest lacks, same_word word) refl

only_last : (place : Place) (word : List ℕ) → Lacks 32 word → only_at place word (Some word) ≡ Ok None
unfolding only_at
only_last place word lacks = rw (last_first word lacks, last_behind word lacks, same_word word) refl

-- what is set, by what was read of it
abbrev set_last : {A : Type 0} → Read (Option (List ℕ)) → Read (LinkInput A)
set_last read = read >>= (λ rest. end_at rest >> Ok input.BridgeCommands)

abbrev set_first : {A : Type 0} → Read (Option (List ℕ)) → Read (LinkInput A)
set_first read = read >>= (λ rest. set_last (only_at place.Setter (codes "bridge") rest))

set_read : {A : Type 0} → set_in {A = A} (Some (codes "commands" ++ 32 ∷ codes "bridge")) ≡ Ok input.BridgeCommands
unfolding set_in
set_read {A = A} =
    ap (set_first {A = A}) (only_step place.Setting (codes "commands") (codes "bridge") refl) ∙ ap (set_last {A = A}) (only_last place.Setter (codes "bridge") refl)

-- MESSAGES

message_read : {A : Type 0} (word rest : List ℕ) (i : Inbound A) → Lacks 32 word → is_message (form_named word) ≡ true → script_in (word ++ 32 ∷ rest) ≡ Ok i → message_in (Some (word ++ 32 ∷ rest)) ≡ Ok i
unfolding message_in
message_read word rest i lacks is read = rw (word_first word rest lacks, is, read) refl

abis_message : {A : Type 0} (cell trx : ℕ) (octets : List ℕ) → FitsStation cell trx → FitsMessage octets
    → message_in {A = A} (Some (line_text (abis_words cell trx octets))) ≡ Ok (inbound.Abis cell trx octets)
unfolding form_named
abis_message cell trx octets at some =
    message_read (codes "abis") (decimal cell ++ 32 ∷ (decimal trx ++ 32 ∷ hex_text octets)) (inbound.Abis cell trx octets) refl refl (abis_read cell trx octets at some)

a_message : {A : Type 0} (call : ℕ) (octets : List ℕ) → FitsCall call → FitsMessage octets → message_in {A = A} (Some (line_text (a_words call octets))) ≡ Ok (inbound.A call octets)
unfolding form_named
a_message call octets of some = message_read (codes "a") (decimal call ++ 32 ∷ hex_text octets) (inbound.A call octets) refl refl (a_read call octets of some)

-- a line of a script that is read
scripted : {A : Type 0} (word rest : List ℕ) (i : Inbound A) → (is_comment (word ++ 32 ∷ rest) || is_blank (word ++ 32 ∷ rest)) ≡ false → Lacks 32 word
    → words_by {A = A} word (Some rest) (word ++ 32 ∷ rest) ≡ given (read_map as_came (script_in (word ++ 32 ∷ rest))) → script_in (word ++ 32 ∷ rest) ≡ Ok i
    → line_of (word ++ 32 ∷ rest) ≡ Ok (line.Input (as_came i))
scripted word rest i told_of lacks found read = words_read word rest _ told_of lacks (found ∙ ap (λ r. given (read_map as_came r)) read)

operators_read : {A : Type 0} (l : Line) → FitsOperators l → line_of {A = A} (operators_text l) ≡ Ok (line.Input (input.Operator l))
unfolding form_named
operators_read (asks.Open call x) f = scripted (codes "open") (decimal call ++ 32 ∷ channel_text x) _ refl refl refl (open_read call x f.0 f.1)
operators_read (asks.Seize call cell r) f = scripted (codes "seize") (decimal call ++ 32 ∷ (decimal cell ++ 32 ∷ rate_word r)) _ refl refl refl (seize_read call cell r f.0 f.1)
operators_read (asks.Handover call cell) f = scripted (codes "handover") (decimal call ++ 32 ∷ decimal cell) _ refl refl refl (handover_read call cell f.0 f.1)
operators_read (asks.Undo call) f = scripted (codes "undo") (decimal call) _ refl refl refl (undo_read call f)
operators_read (asks.Clear call) f = scripted (codes "clear") (decimal call) _ refl refl refl (clear_read call f)

-- ALL LINES

pub reads_texts : {A : Type 0} → ReadsTexts A
unfolding form_named
reads_texts input.Begin f = word_read (codes "begin") _ refl refl refl
reads_texts (input.Link cell trx true) f = words_read (codes "up") (decimal cell ++ 32 ∷ decimal trx) _ refl refl (ap given (link_read true cell trx f))
reads_texts (input.Link cell trx false) f = words_read (codes "down") (decimal cell ++ 32 ∷ decimal trx) _ refl refl (ap given (link_read false cell trx f))
reads_texts (input.Centre true) f = words_read (codes "up") (codes "centre") _ refl refl (ap given (centre_read true))
reads_texts (input.Centre false) f = words_read (codes "down") (codes "centre") _ refl refl (ap given (centre_read false))
reads_texts (input.Abis cell trx octets) f = scripted (codes "abis") (decimal cell ++ 32 ∷ (decimal trx ++ 32 ∷ hex_text octets)) _ refl refl refl (abis_read cell trx octets f.0 f.1)
reads_texts (input.A call octets) f = scripted (codes "a") (decimal call ++ 32 ∷ hex_text octets) _ refl refl refl (a_read call octets f.0 f.1)
reads_texts (input.ForAbis cell trx octets) f = words_read (codes "for") (line_text (abis_words cell trx octets)) _ refl refl (ap (λ r. given (read_map in_place r)) (abis_message cell trx octets f.0 f.1))
reads_texts (input.ForA call octets) f = words_read (codes "for") (line_text (a_words call octets)) _ refl refl (ap (λ r. given (read_map in_place r)) (a_message call octets f.0 f.1))
reads_texts (input.SendAbis cell trx octets) f = words_read (codes "send") (line_text (abis_words cell trx octets)) _ refl refl (ap (λ r. given (read_map as_sent r)) (abis_message cell trx octets f.0 f.1))
reads_texts (input.SendA call octets) f = words_read (codes "send") (line_text (a_words call octets)) _ refl refl (ap (λ r. given (read_map as_sent r)) (a_message call octets f.0 f.1))
reads_texts (input.Expired (key.Call call t)) f = words_read (codes "expired") (key_text (key.Call call t)) _ refl refl (ap given (expired_read (key.Call call t) f))
reads_texts (input.Expired (key.Channel x t)) f = words_read (codes "expired") (key_text (key.Channel x t)) _ refl refl (ap given (expired_read (key.Channel x t) f))
reads_texts (input.Operator l) f = operators_read l f
reads_texts (input.Bar x) f = words_read (codes "bar") (channel_text x) _ refl refl (ap given (bar_read x f))
reads_texts (input.Unbar x) f = words_read (codes "unbar") (channel_text x) _ refl refl (ap given (unbar_read x f))
reads_texts (input.Away call is) f = words_read (codes "away") (decimal call ++ 32 ∷ switch_word is) _ refl refl (ap given (away_read call is f))
reads_texts (input.Reports call are) f = words_read (codes "reports") (decimal call ++ 32 ∷ switch_word are) _ refl refl (ap given (reports_read call are f))
reads_texts (input.Advance call n) f = words_read (codes "advance") (decimal call ++ 32 ∷ decimal n) _ refl refl (ap given (advance_read call n f.0 f.1))
reads_texts input.BridgeCommands f = words_read (codes "set") (codes "commands" ++ 32 ∷ codes "bridge") _ refl refl (ap given set_read)
