-- How the book's reply to an event is written. Ours, of no standard. A text is the list of its bytes.
use Rattle.std.specs.Prelude.{ℕ, List, [], ◌∷◌, ◌++◌, codes, Option, Some, None}
use Rattle.std.specs.List.{join_with_byte}
use Rattle.std.specs.Fmt.{decimal}
use Rattle.channel_fsm.specs.declared.ChanState.{ChanState}
use Rattle.channel_fsm.specs.declared.ChanState.TheVariants.{Free, Held, Pending, On, Off}
use Rattle.channel_fsm.specs.Text.{chan_text}
use Rattle.radio_tables.specs.declared.kinds.Stage.{Stage}
use Rattle.radio_tables.specs.declared.kinds.Stage.TheVariants as stage
use Rattle.radio_tables.specs.declared.kinds.AttemptKind.{AttemptKind}
use Rattle.radio_tables.specs.declared.kinds.AttemptKind.TheVariants.{Internal, Incoming, Outgoing}
use Rattle.radio_tables.specs.declared.kinds.Attempt.{Attempt}
use Rattle.radio_tables.specs.declared.kinds.CallRecord.{CallRecord}
use Rattle.radio_book.specs.declared.event.Refusal.{Refusal}
use Rattle.radio_book.specs.declared.event.Refusal.TheVariants as refusal
use Rattle.radio_book.specs.declared.event.Reply.{Reply}
use Rattle.radio_book.specs.declared.event.Reply.TheVariants.{Done, Record, Owned, Refused}

-- a value's text, or `-` where there is none
abbrev pub or_dash : {X : Type 0} → (X → List ℕ) → Option X → List ℕ
or_dash text None = codes "-"
or_dash text (Some x) = text x

-- the state of a channel, without its call
abbrev pub state_word : ChanState → List ℕ
state_word Free = codes "free"
state_word (Held c) = codes "held"
state_word (Pending c) = codes "pending"
state_word (On c) = codes "on"
state_word Off = codes "off"

abbrev pub kind_word : AttemptKind → List ℕ
kind_word Internal = codes "internal"
kind_word Incoming = codes "incoming"
kind_word Outgoing = codes "outgoing"

abbrev pub stage_word : Stage → List ℕ
stage_word stage.Taken = codes "taken"
stage_word stage.Reserved = codes "reserved"
stage_word stage.Sent = codes "sent"
stage_word stage.Refused = codes "refused"
stage_word stage.Confirmed = codes "confirmed"
stage_word stage.Commanded = codes "commanded"
stage_word stage.Detected = codes "detected"
stage_word stage.Required = codes "required"
stage_word stage.Ordered = codes "ordered"

-- an attempt that is open: its kind, its stage, its channel and its handover reference
abbrev pub attempt_text : Attempt → List ℕ
attempt_text a = join_with_byte 32 (kind_word a.kind ∷ stage_word a.stage ∷ or_dash chan_text a.target ∷ or_dash decimal a.reference ∷ [])

-- a call: its serving channel, that one's state, and the attempt, where one is open
abbrev pub record_at : List ℕ → List ℕ → Option Attempt → List ℕ
record_at serving state None = join_with_byte 32 (codes "record" ∷ serving ∷ state ∷ [])
record_at serving state (Some a) = join_with_byte 32 (codes "record" ∷ serving ∷ state ∷ attempt_text a ∷ [])

abbrev pub record_text : CallRecord → Option ChanState → List ℕ
record_text r state = record_at (or_dash chan_text r.serving) (or_dash state_word state) r.attempt

-- the number of a refusal, in the order in which refusals are tried
abbrev pub refusal_number : Refusal → ℕ
refusal_number refusal.NoCall = 1
refusal_number refusal.CallExists = 2
refusal_number refusal.WrongPhase = 3
refusal_number refusal.NoChannel = 4
refusal_number refusal.SameCell = 5
refusal_number (refusal.ChannelBusy x) = 6
refusal_number (refusal.RefBusy cell n) = 7
refusal_number (refusal.Unexpected x) = 8
refusal_number refusal.NotArmed = 9

-- what is in the way
abbrev pub named_by : Refusal → List (List ℕ)
named_by refusal.NoCall = []
named_by refusal.CallExists = []
named_by refusal.WrongPhase = []
named_by refusal.NoChannel = []
named_by refusal.SameCell = []
named_by (refusal.ChannelBusy x) = chan_text x ∷ []
named_by (refusal.RefBusy cell n) = decimal cell ∷ decimal n ∷ []
named_by (refusal.Unexpected x) = chan_text x ∷ []
named_by refusal.NotArmed = []

abbrev pub refusal_text : Refusal → List ℕ
refusal_text r = join_with_byte 32 (decimal (refusal_number r) ∷ named_by r)

-- a reply, as it stands behind ` -> ` in an event's line
abbrev pub reply_text : Reply → List ℕ
reply_text Done = codes "done"
reply_text (Record r state) = record_text r state
reply_text (Owned c) = codes "owned " ++ decimal c
reply_text (Refused r) = codes "refused " ++ refusal_text r
