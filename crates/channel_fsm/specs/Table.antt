-- The states of a channel and its steps: activation and release by its station (TS 48.058 clause 4), and its use by calls.
use Rattle.std.specs.Prelude.{◌≡◌, ◌↔◌, ℕ, Option, Some, None, if◌then◌else◌, ◌==◌}
use Rattle.channel_fsm.specs.declared.ChanState.{ChanState}
use Rattle.channel_fsm.specs.declared.ChanState.TheVariants.{Free, Held, Pending, On, Off}
use Rattle.channel_fsm.specs.declared.ChanEvent.{ChanEvent}
use Rattle.channel_fsm.specs.declared.ChanEvent.TheVariants.{Take, Begin, Send, Confirm, Refuse, SwitchOff, Drop, Released}

-- The table: a channel in the first state is in the second after the event. No other event is a step of a channel.
pub data IsStep : ChanState → ChanEvent → ChanState → Type 0 where
  take : {c : ℕ} → IsStep Free (Take c) (Held c)
  begin : {c : ℕ} → IsStep Free (Begin c) (Pending c)
  send : {c : ℕ} → IsStep (Held c) (Send c) (Pending c)
  confirm : {c : ℕ} → IsStep (Pending c) Confirm (On c)
  refuse : {c : ℕ} → IsStep (Pending c) Refuse (Held c)
  switch_off_pending : {c : ℕ} → IsStep (Pending c) SwitchOff Off
  switch_off_on : {c : ℕ} → IsStep (On c) SwitchOff Off
  drop : {c : ℕ} → IsStep (Held c) Drop Free
  release : IsStep Off Released Free

-- the step of a free channel, and of no other
abbrev pub from_free : ChanState → ChanState → Option ChanState
from_free after Free = Some after
from_free after (Held c) = None
from_free after (Pending c) = None
from_free after (On c) = None
from_free after Off = None

-- CHANNEL ACTIVATION is sent for the call that holds the channel (TS 48.058 clause 8.4.1)
abbrev pub sent : ℕ → ChanState → Option ChanState
sent d Free = None
sent d (Held c) = if c == d then Some (Pending c) else None
sent d (Pending c) = None
sent d (On c) = None
sent d Off = None

-- CHANNEL ACTIVATION ACKNOWLEDGE (TS 48.058 clause 8.4.2)
abbrev pub confirmed : ChanState → Option ChanState
confirmed Free = None
confirmed (Held c) = None
confirmed (Pending c) = Some (On c)
confirmed (On c) = None
confirmed Off = None

-- CHANNEL ACTIVATION NEGATIVE ACKNOWLEDGE (TS 48.058 clause 8.4.3)
abbrev pub refused : ChanState → Option ChanState
refused Free = None
refused (Held c) = None
refused (Pending c) = Some (Held c)
refused (On c) = None
refused Off = None

-- RF CHANNEL RELEASE is sent for a channel that may be active (TS 48.058 clause 8.4.14)
abbrev pub switched_off : ChanState → Option ChanState
switched_off Free = None
switched_off (Held c) = None
switched_off (Pending c) = Some Off
switched_off (On c) = Some Off
switched_off Off = None

-- a channel that isn't active is used no more
abbrev pub dropped : ChanState → Option ChanState
dropped Free = None
dropped (Held c) = Some Free
dropped (Pending c) = None
dropped (On c) = None
dropped Off = None

-- RF CHANNEL RELEASE ACKNOWLEDGE (TS 48.058 clause 8.4.19)
abbrev pub released : ChanState → Option ChanState
released Free = None
released (Held c) = None
released (Pending c) = None
released (On c) = None
released Off = Some Free

-- The state after an event; none where the event is no step of a channel in this state.
abbrev pub next_state : ChanState → ChanEvent → Option ChanState
next_state state (Take c) = from_free (Held c) state
next_state state (Begin c) = from_free (Pending c) state
next_state state (Send c) = sent c state
next_state state Confirm = confirmed state
next_state state Refuse = refused state
next_state state SwitchOff = switched_off state
next_state state Drop = dropped state
next_state state Released = released state

-- What it answers is what the table says.
abbrev pub NextIsTheTable : Type 0
NextIsTheTable = (state : ChanState) (event : ChanEvent) (after : ChanState) → (next_state state event ≡ Some after) ↔ IsStep state event after
