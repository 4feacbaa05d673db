-- What is written is read. Ours, of no standard.
use Rattle.std.specs.Prelude.{◌≡◌, ◌<◌, ℕ, List, length, Ok}
use Rattle.hex.specs.Hex.{IsBytes}
use Rattle.channel_fsm.specs.declared.ChanId.{ChanId}
use Rattle.exchange.specs.declared.Line.{Line}
use Rattle.exchange.specs.declared.Line.TheVariants as asks
use Rattle.link_exchange.specs.declared.LinkInput.{LinkInput}
use Rattle.link_exchange.specs.declared.LinkInput.TheVariants as input
use Rattle.link_exchange.specs.declared.TimerKey.{TimerKey}
use Rattle.link_exchange.specs.declared.TimerKey.TheVariants as key
use Rattle.link_lines.specs.declared.reading.LinkLine.TheVariants.{Input}
use Rattle.link_lines.specs.Lines.{line_of}
use Rattle.link_lines.specs.Text.{input_text}

-- RANGES: numbers that their types have; a timeslot, a timing advance; one octet or more of a message

abbrev pub FitsCall : ℕ → Type 0
FitsCall call = call < 65536

pub record FitsChannel (x : ChanId) : Type 0 where
  pub cell : x.cell < 256
  pub trx : x.trx < 256
  pub tn : x.tn < 8

pub record FitsMessage (octets : List ℕ) : Type 0 where
  pub bytes : IsBytes octets
  pub some : 0 < length octets

abbrev pub FitsStation : ℕ → ℕ → Type 0
FitsStation cell trx = (cell < 256) × (trx < 256)

abbrev pub FitsKey : TimerKey → Type 0
FitsKey (key.Call call t) = FitsCall call
FitsKey (key.Channel chan t) = FitsChannel chan

abbrev pub FitsOperators : Line → Type 0
FitsOperators (asks.Open call chan) = FitsCall call × FitsChannel chan
FitsOperators (asks.Seize call cell r) = FitsCall call × (cell < 256)
FitsOperators (asks.Handover call cell) = FitsCall call × (cell < 256)
FitsOperators (asks.Undo call) = FitsCall call
FitsOperators (asks.Clear call) = FitsCall call

abbrev pub Fits : {A : Type 0} → LinkInput A → Type 0
Fits input.Begin = Unit {0}
Fits (input.Link cell trx is_up) = FitsStation cell trx
Fits (input.Centre is_up) = Unit {0}
Fits (input.Abis cell trx octets) = FitsStation cell trx × FitsMessage octets
Fits (input.A call octets) = FitsCall call × FitsMessage octets
Fits (input.ForAbis cell trx octets) = FitsStation cell trx × FitsMessage octets
Fits (input.ForA call octets) = FitsCall call × FitsMessage octets
Fits (input.SendAbis cell trx octets) = FitsStation cell trx × FitsMessage octets
Fits (input.SendA call octets) = FitsCall call × FitsMessage octets
Fits (input.Expired k) = FitsKey k
Fits (input.Operator l) = FitsOperators l
Fits (input.Bar chan) = FitsChannel chan
Fits (input.Unbar chan) = FitsChannel chan
Fits (input.Away call is_away) = FitsCall call
Fits (input.Reports call are_heeded) = FitsCall call
Fits (input.Advance call n) = FitsCall call × (n < 64)
Fits input.BridgeCommands = Unit {0}

-- what is written of an input is read as that
abbrev pub ReadsTexts : (A : Type 0) → Type 0
ReadsTexts A = (i : LinkInput A) → Fits i → line_of (input_text i) ≡ Ok (Input i)
