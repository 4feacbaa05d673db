-- What each state says of a channel (TS 48.058 clause 4).
use Rattle.std.specs.Prelude.{ℕ, Bool, true, false, Option, Some, None}
use Rattle.channel_fsm.specs.declared.ChanState.{ChanState}
use Rattle.channel_fsm.specs.declared.ChanState.TheVariants.{Free, Held, Pending, On, Off}

pub record ChannelRow : Type 0 where
  -- the call whose the channel is
  pub owner : Option ℕ
  -- the call for which a station is to activate it
  pub activating : Option ℕ
  -- the call for which it is active
  pub active : Option ℕ
  -- its release is awaited
  pub off : Bool
  -- What is left of it where it is used no more: a held one is free, to one that may be active RF CHANNEL RELEASE is sent
  -- (TS 48.058 clause 8.4.14). A free channel stays free, and one that is off stays off.
  pub left : Option ChanState

-- the table of states: what each says of a channel
abbrev pub channel_row : ChanState → ChannelRow
channel_row Free = record { owner = None; activating = None; active = None; off = false; left = None }
channel_row (Held c) = record { owner = Some c; activating = None; active = None; off = false; left = None }
channel_row (Pending c) = record { owner = Some c; activating = Some c; active = None; off = false; left = Some Off }
channel_row (On c) = record { owner = Some c; activating = None; active = Some c; off = false; left = Some Off }
channel_row Off = record { owner = None; activating = None; active = None; off = true; left = Some Off }

-- a state of use says whose the channel is
abbrev pub owner : ChanState → Option ℕ
owner s = (channel_row s).owner

abbrev pub left_state : ChanState → Option ChanState
left_state s = (channel_row s).left
