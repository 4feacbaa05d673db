-- Lines of scripts: what is written is read.
use Rattle.std.proofs.Common.{◌≡◌, ℕ, ◌<◌, ◌^◌, List, ◌∷◌, [], ◌++◌, Option, Some, None, option_and_then, Ok, Bool, true, false, refl, arith, codes}
use Rattle.std.specs.Fmt.{decimal}
use Rattle.timeslots.specs.declared.Sub.{Sub}
use Rattle.timeslots.specs.declared.Rate.{Rate}
use Rattle.timeslots.specs.declared.Rate.TheVariants as rate
use Rattle.channel_fsm.specs.declared.ChanId.{ChanId}
use Rattle.channel_fsm.specs.Text.{timeslot_text}
use Rattle.exchange.specs.declared.Inbound.{Inbound}
use Rattle.exchange.specs.declared.Inbound.TheVariants as inbound
use Rattle.exchange.specs.declared.Line.{Line}
use Rattle.exchange.specs.declared.Line.TheVariants as asks
use Rattle.encoded_messages.specs.Words.{Lacks}
use Rattle.lab_script.specs.declared.forms.Form.{Form}
use Rattle.lab_script.specs.declared.forms.Form.TheVariants as form
use Rattle.lab_script.specs.declared.side.Side.TheVariants.{First}
use Rattle.lab_script.specs.declared.script.Given.{Given}
use Rattle.lab_script.specs.declared.script.Given.TheVariants as gives
use Rattle.lab_script.specs.Forms.{form_of, form_named}
use Rattle.lab_script.specs.Said.{said_by, line_said, given}
use Rattle.lab_script.specs.Script.{is_sim, item_of}
use Rattle.lab_script.specs.Sides.{is_for_peer}
use Rattle.lab_script.specs.Values.{filled}
use Rattle.lab_script.specs.Words.{rate_of}
use Rattle.link_lines.specs.Lines.{script_in}
use Rattle.link_lines.specs.Laws.{FitsCall, FitsStation, FitsChannel, FitsMessage}
use Rattle.link_lines.specs.Text.{hex_text, channel_text, rate_word}
use Rattle.link_lines.proofs.WordFacts.{word_first, word_behind, last_first, last_behind, number_read, decimal_lacks, timeslot_lacks, timeslot_read, hex_read}

-- what a line of a form gives, by what stands behind its first word
abbrev gives_by : {A : Type 0} → List ℕ → Form → Option (Given A)
gives_by rest f = option_and_then (λ r. given r.1 r.0) (said_by First (Some rest) f)

-- a line whose first word has this form, and that gives this
line_read : {A : Type 0} (word rest : List ℕ) (f : Form) (i : Inbound A) → Lacks 32 word → is_sim (word ++ 32 ∷ rest) ≡ false → is_for_peer (word ++ 32 ∷ rest) ≡ false
    → form_of word (Some rest) ≡ Some f → gives_by rest f ≡ Some (gives.Input i) → script_in (word ++ 32 ∷ rest) ≡ Ok i
unfolding script_in line_said
line_read word rest f i lacks other alone named gives = rw (other, alone, word_first word rest lacks, word_behind word rest lacks, named, gives) refl

-- MESSAGES

abis_gives : {A : Type 0} (cell trx : ℕ) (octets : List ℕ) → FitsStation cell trx → FitsMessage octets
    → gives_by {A = A} (decimal cell ++ 32 ∷ (decimal trx ++ 32 ∷ hex_text octets)) form.Abis ≡ Some (gives.Input (inbound.Abis cell trx octets))
unfolding said_by filled
abis_gives cell trx octets at message =
    let hex = hex_text octets in
    let first = decimal_lacks 32 cell (omega arith) (omega (arith, at.0)) in
    let second = decimal_lacks 32 trx (omega arith) (omega (arith, at.1)) in
    rw (
      word_first (decimal cell) (decimal trx ++ 32 ∷ hex) first,
      word_behind (decimal cell) (decimal trx ++ 32 ∷ hex) first,
      number_read 256 cell (omega arith) at.0,
      word_first (decimal trx) hex second,
      word_behind (decimal trx) hex second,
      number_read 256 trx (omega arith) at.1,
      hex_read octets message.bytes message.some,
    ) refl

pub abis_read : {A : Type 0} (cell trx : ℕ) (octets : List ℕ) → FitsStation cell trx → FitsMessage octets
    → script_in {A = A} (codes "abis" ++ 32 ∷ (decimal cell ++ 32 ∷ (decimal trx ++ 32 ∷ hex_text octets))) ≡ Ok (inbound.Abis cell trx octets)
unfolding form_named
abis_read cell trx octets at message =
    line_read (codes "abis") (decimal cell ++ 32 ∷ (decimal trx ++ 32 ∷ hex_text octets)) form.Abis (inbound.Abis cell trx octets) refl refl refl refl (abis_gives cell trx octets at message)

a_gives : {A : Type 0} (call : ℕ) (octets : List ℕ) → FitsCall call → FitsMessage octets
    → gives_by {A = A} (decimal call ++ 32 ∷ hex_text octets) form.A ≡ Some (gives.Input (inbound.A call octets))
unfolding said_by filled
a_gives call octets of message =
    let lacks = decimal_lacks 32 call (omega arith) (omega (arith, of)) in
    rw (
      word_first (decimal call) (hex_text octets) lacks,
      word_behind (decimal call) (hex_text octets) lacks,
      number_read 65536 call (omega arith) of,
      hex_read octets message.bytes message.some,
    ) refl

pub a_read : {A : Type 0} (call : ℕ) (octets : List ℕ) → FitsCall call → FitsMessage octets
    → script_in {A = A} (codes "a" ++ 32 ∷ (decimal call ++ 32 ∷ hex_text octets)) ≡ Ok (inbound.A call octets)
unfolding form_named
a_read call octets of message =
    line_read (codes "a") (decimal call ++ 32 ∷ hex_text octets) form.A (inbound.A call octets) refl refl refl refl (a_gives call octets of message)

-- OPERATORS

open_gives : {A : Type 0} (call : ℕ) (x : ChanId) → FitsCall call → FitsChannel x → gives_by {A = A} (decimal call ++ 32 ∷ channel_text x) form.Open ≡ Some (gives.Input (inbound.Operator (asks.Open call x)))
unfolding said_by filled
open_gives call x f at =
    let rest = decimal x.trx ++ 32 ∷ timeslot_text x.tn x.sub in
    let of = decimal_lacks 32 call (omega arith) (omega arith) in
    let cell = decimal_lacks 32 x.cell (omega arith) (omega (arith, at.cell)) in
    let trx = decimal_lacks 32 x.trx (omega arith) (omega (arith, at.trx)) in
    let slot = timeslot_lacks x.tn x.sub at.tn in
    rw (
      word_first (decimal call) (channel_text x) of,
      word_behind (decimal call) (channel_text x) of,
      number_read 65536 call (omega arith) f,
      word_first (decimal x.cell) rest cell,
      word_behind (decimal x.cell) rest cell,
      number_read 256 x.cell (omega arith) at.cell,
      word_first (decimal x.trx) (timeslot_text x.tn x.sub) trx,
      word_behind (decimal x.trx) (timeslot_text x.tn x.sub) trx,
      number_read 256 x.trx (omega arith) at.trx,
      last_first (timeslot_text x.tn x.sub) slot,
      last_behind (timeslot_text x.tn x.sub) slot,
      timeslot_read x.tn x.sub at.tn,
    ) refl

pub open_read : {A : Type 0} (call : ℕ) (x : ChanId) → FitsCall call → FitsChannel x → script_in {A = A} (codes "open" ++ 32 ∷ (decimal call ++ 32 ∷ channel_text x)) ≡ Ok (inbound.Operator (asks.Open call x))
unfolding form_named
open_read call x f at = line_read (codes "open") (decimal call ++ 32 ∷ channel_text x) form.Open _ refl refl refl refl (open_gives call x f at)

-- a call alone
undo_gives : {A : Type 0} (call : ℕ) → FitsCall call → gives_by {A = A} (decimal call) form.Undo ≡ Some (gives.Input (inbound.Operator (asks.Undo call)))
unfolding said_by filled
undo_gives call f =
    let of = decimal_lacks 32 call (omega arith) (omega arith) in
    rw (last_first (decimal call) of, last_behind (decimal call) of, number_read 65536 call (omega arith) f) refl

clear_gives : {A : Type 0} (call : ℕ) → FitsCall call → gives_by {A = A} (decimal call) form.Clear ≡ Some (gives.Input (inbound.Operator (asks.Clear call)))
unfolding said_by filled
clear_gives call f =
    let of = decimal_lacks 32 call (omega arith) (omega arith) in
    rw (last_first (decimal call) of, last_behind (decimal call) of, number_read 65536 call (omega arith) f) refl

pub undo_read : {A : Type 0} (call : ℕ) → FitsCall call → script_in {A = A} (codes "undo" ++ 32 ∷ decimal call) ≡ Ok (inbound.Operator (asks.Undo call))
unfolding form_named
undo_read call f = line_read (codes "undo") (decimal call) form.Undo _ refl refl refl refl (undo_gives call f)

pub clear_read : {A : Type 0} (call : ℕ) → FitsCall call → script_in {A = A} (codes "clear" ++ 32 ∷ decimal call) ≡ Ok (inbound.Operator (asks.Clear call))
unfolding form_named
clear_read call f = line_read (codes "clear") (decimal call) form.Clear _ refl refl refl refl (clear_gives call f)

-- a call and a cell
handover_gives : {A : Type 0} (call cell : ℕ) → FitsCall call → cell < 256 → gives_by {A = A} (decimal call ++ 32 ∷ decimal cell) form.Handover ≡ Some (gives.Input (inbound.Operator (asks.Handover call cell)))
unfolding said_by filled
handover_gives call cell f in_range =
    let of = decimal_lacks 32 call (omega arith) (omega arith) in
    let to = decimal_lacks 32 cell (omega arith) (omega arith) in
    rw (
      word_first (decimal call) (decimal cell) of,
      word_behind (decimal call) (decimal cell) of,
      number_read 65536 call (omega arith) f,
      last_first (decimal cell) to,
      last_behind (decimal cell) to,
      number_read 256 cell (omega arith) in_range,
    ) refl

pub handover_read : {A : Type 0} (call cell : ℕ) → FitsCall call → cell < 256 → script_in {A = A} (codes "handover" ++ 32 ∷ (decimal call ++ 32 ∷ decimal cell)) ≡ Ok (inbound.Operator (asks.Handover call cell))
unfolding form_named
handover_read call cell f in_range = line_read (codes "handover") (decimal call ++ 32 ∷ decimal cell) form.Handover _ refl refl refl refl (handover_gives call cell f in_range)

rate_lacks : (r : Rate) → Lacks 32 (rate_word r)
rate_lacks rate.Full = refl
rate_lacks rate.Half = refl

rate_read : (r : Rate) → rate_of (rate_word r) ≡ Some r
rate_read rate.Full = refl
rate_read rate.Half = refl

seize_gives : {A : Type 0} (call cell : ℕ) (r : Rate) → FitsCall call → cell < 256 → gives_by {A = A} (decimal call ++ 32 ∷ (decimal cell ++ 32 ∷ rate_word r)) form.Seize ≡ Some (gives.Input (inbound.Operator (asks.Seize call cell r)))
unfolding said_by filled
seize_gives call cell r f in_range =
    let of = decimal_lacks 32 call (omega arith) (omega arith) in
    let to = decimal_lacks 32 cell (omega arith) (omega arith) in
    rw (
      word_first (decimal call) (decimal cell ++ 32 ∷ rate_word r) of,
      word_behind (decimal call) (decimal cell ++ 32 ∷ rate_word r) of,
      number_read 65536 call (omega arith) f,
      word_first (decimal cell) (rate_word r) to,
      word_behind (decimal cell) (rate_word r) to,
      number_read 256 cell (omega arith) in_range,
      last_first (rate_word r) (rate_lacks r),
      last_behind (rate_word r) (rate_lacks r),
      rate_read r,
    ) refl

pub seize_read : {A : Type 0} (call cell : ℕ) (r : Rate) → FitsCall call → cell < 256
    → script_in {A = A} (codes "seize" ++ 32 ∷ (decimal call ++ 32 ∷ (decimal cell ++ 32 ∷ rate_word r))) ≡ Ok (inbound.Operator (asks.Seize call cell r))
unfolding form_named
seize_read call cell r f in_range =
    line_read (codes "seize") (decimal call ++ 32 ∷ (decimal cell ++ 32 ∷ rate_word r)) form.Seize _ refl refl refl refl (seize_gives call cell r f in_range)
