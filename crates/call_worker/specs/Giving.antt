-- Which worker an input is for. Ours, of no standard.
use Rattle.std.specs.Prelude.{◌≡◌, ◌≢◌, ◌⊎◌, ℕ, ◌<◌, ◌%◌, List, [], ◌∷◌, ◌++◌, length, slice_set, slice_index_or}
use Rattle.channel_fsm.specs.declared.ChanId.{ChanId}
use Rattle.radio_book.specs.declared.event.Event.TheVariants.{Owner}
use Rattle.radio_book.specs.declared.event.Reply.{Reply}
use Rattle.radio_book.specs.declared.event.Reply.TheVariants.{Done, Record, Owned, Refused}
use Rattle.radio_desk.specs.Receipts.{Receipt}
use Rattle.rsl_messages.specs.declared.message.Rsl.{Rsl}
use Rattle.rsl_messages.specs.declared.fault.RslFault.{RslFault}
use Rattle.rsl_messages.specs.declared.fault.RslFault.TheVariants.{NotRsl, UnknownType, Missing, BadElement, Torn, TooLong, NoMemory}
use Rattle.rsl_messages.specs.Texts as abis
use Rattle.exchange.specs.declared.Inbound.{Inbound}
use Rattle.exchange.specs.declared.Inbound.TheVariants as inbound
use Rattle.exchange.specs.declared.Line.{Line}
use Rattle.exchange.specs.declared.Line.TheVariants as line
use Rattle.exchange.specs.Naming.{chan_of}
use Rattle.call_worker.specs.declared.fault.GiveFault.{GiveFault}
use Rattle.call_worker.specs.declared.fault.GiveFault.TheVariants as give
use Rattle.call_worker.specs.States.{WorkerState, OfficeState, with_input}

-- the call that an operator's line is about
abbrev pub call_of : Line → ℕ
call_of (line.Open c x) = c
call_of (line.Seize c cell rate) = c
call_of (line.Handover c cell) = c
call_of (line.Undo c) = c
call_of (line.Clear c) = c

-- the call that has a channel, by the desk's reply; where none has it, the cell's number
abbrev pub owner_or : ℕ → Reply → ℕ
owner_or cell Done = cell
owner_or cell (Record r s) = cell
owner_or cell (Owned c) = c
owner_or cell (Refused refusal) = cell

-- The office, which had these receipts, asked whose the channel is, and this is the number of that call, or of the cell where
-- it is nobody's. Or the desk didn't know the last of them, and this is the number of the cell.
abbrev pub IsOwnerNumber : List Receipt → ℕ → ChanId → List Receipt → ℕ → Type 0
IsOwnerNumber known cell x [] number = (known ≢ []) × (number ≡ cell)
IsOwnerNumber known cell x (r ∷ []) number = (r.event ≡ Owner x) × (number ≡ owner_or cell r.reply)
IsOwnerNumber known cell x (r ∷ s ∷ rs) number = ⊥

-- The number by which an input finds its worker: its call; of a message on Abis the call that has the channel which it names.
-- The office had the first receipts, and got the others for it.
abbrev pub IsNumberOf : {A : Type 0} → List Receipt → Inbound A → List Receipt → ℕ → Type 0
IsNumberOf {A} known (inbound.Abis cell trx octets) asked number = (message : Rsl A) × abis.IsTextOf message octets × IsOwnerNumber known cell (chan_of cell trx message) asked number
IsNumberOf known (inbound.A call octets) asked number = (asked ≡ []) × (number ≡ call)
IsNumberOf known (inbound.Expiry call timer) asked number = (asked ≡ []) × (number ≡ call)
IsNumberOf known (inbound.Operator line) asked number = (asked ≡ []) × (number ≡ call_of line)

-- for the input nothing was asked, or just what finds its worker
abbrev pub MayBeAsked : {A : Type 0} → List Receipt → Inbound A → List Receipt → Type 0
MayBeAsked known input asked = (asked ≡ []) ⊎ ((number : ℕ) × IsNumberOf known input asked number)

-- octets on Abis that can't be read have this fault, where memory isn't refused
abbrev pub IsUnreadableHere : {A : Type 0} → Inbound A → RslFault → Type 0
IsUnreadableHere {A} (inbound.Abis cell trx octets) f = (f ≢ NoMemory) × abis.HasFault A octets f
IsUnreadableHere (inbound.A call octets) f = ⊥
IsUnreadableHere (inbound.Expiry call timer) f = ⊥
IsUnreadableHere (inbound.Operator line) f = ⊥

-- the worker of this place was given the input, last in its list, and no other worker anything
abbrev pub GivesTo : {L A : Type 0} → ℕ → Inbound A → List (WorkerState L A) → List (WorkerState L A) → Type 0
GivesTo {L} {A} i input old new = (i < length old) × ((d : WorkerState L A) → new ≡ slice_set old i (with_input input (slice_index_or old i d)))

-- The input is for the worker of this place: that of its number, modulo how many there are. What the office asked for it comes
-- last among its receipts.
pub record IsFor {L A : Type 0} (input : Inbound A) (old new : OfficeState L A) (worker : ℕ) : Type 0 where
  pub asked : List Receipt
  pub number : ℕ
  pub front : new.front ≡ old.front ++ asked
  pub is_number : IsNumberOf old.front input asked number
  pub place : worker ≡ number % length old.workers

-- the input was given to the worker that it is for
pub record IsGiven {L A : Type 0} (input : Inbound A) (old new : OfficeState L A) : Type 0 where
  pub worker : ℕ
  pub is_for : IsFor input old new worker
  pub gives : GivesTo worker input old.workers new.workers

-- how a fault of octets on Abis is told
abbrev pub Tells : RslFault → GiveFault → Type 0
Tells NotRsl g = g ≡ give.Undecoded NotRsl
Tells (UnknownType k) g = g ≡ give.Undecoded (UnknownType k)
Tells (Missing k) g = g ≡ give.Undecoded (Missing k)
Tells (BadElement k) g = g ≡ give.Undecoded (BadElement k)
Tells (Torn k) g = g ≡ give.Undecoded (Torn k)
Tells TooLong g = g ≡ give.Undecoded TooLong
Tells NoMemory g = g ≡ give.NoMemory
