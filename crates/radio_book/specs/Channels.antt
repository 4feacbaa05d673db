-- The channels of a book go from state to state by the steps of a channel, and a free one has no entry. Ours, of no standard.
use Rattle.std.specs.Prelude.{◌≡◌, ◌⊎◌, ℕ, Option, Some, None, unwrap_or}
use Rattle.std.specs.Option.{option_map, option_and_then}
use Rattle.channel_fsm.specs.declared.ChanId.{ChanId}
use Rattle.channel_fsm.specs.declared.ChanState.{ChanState}
use Rattle.channel_fsm.specs.declared.ChanState.TheVariants.{Free, Held, Pending, On, Off}
use Rattle.channel_fsm.specs.declared.ChanEvent.{ChanEvent}
use Rattle.channel_fsm.specs.declared.ChanEvent.TheVariants as chan
use Rattle.channel_fsm.specs.Table.{next_state}
use Rattle.radio_book.specs.declared.event.Event.{Event}
use Rattle.radio_book.specs.declared.event.Event.TheVariants as event
use Rattle.radio_tables.specs.Maps.{Entry}
use Rattle.radio_book.specs.State.{State, state_of, record_of}
use Rattle.radio_book.specs.Sound.{IsSound, target_in}
use Rattle.radio_book.specs.Table.{step}

-- what stands in the table for a state
abbrev pub entry_of : ChanState → Option ChanState
entry_of Free = None
entry_of (Held c) = Some (Held c)
entry_of (Pending c) = Some (Pending c)
entry_of (On c) = Some (On c)
entry_of Off = Some Off

-- the state after an event; a state that has no such step stays
abbrev pub state_after : ChanState → ChanEvent → ChanState
state_after s e = unwrap_or (next_state s e) s

-- what the step of a channel in this state changes in the table, if it has such a step
abbrev pub channel_step : ChanId → ChanEvent → ChanState → Option (Entry ChanId ChanState)
channel_step x e s = option_map (λ after. (x, entry_of after)) (next_state s e)

-- the steps that a channel may take by an event of the book; by an event with none, none changes its state
abbrev pub IsStepOf : Event → ChanEvent → Type 0
IsStepOf (event.Open c x) f = f ≡ chan.Begin c
IsStepOf (event.Clear c) f = (f ≡ chan.Drop) ⊎ (f ≡ chan.SwitchOff)
IsStepOf (event.Look c) f = ⊥
IsStepOf (event.Take c k x) f = f ≡ chan.Take c
IsStepOf (event.Reserve c n) f = ⊥
IsStepOf (event.Activate c) f = f ≡ chan.Send c
IsStepOf (event.Command c) f = ⊥
IsStepOf (event.Complete c) f = f ≡ chan.SwitchOff
IsStepOf (event.Undo c why) f = (f ≡ chan.Drop) ⊎ (f ≡ chan.SwitchOff)
IsStepOf (event.Confirm x) f = f ≡ chan.Confirm
IsStepOf (event.Refuse x) f = f ≡ chan.Refuse
IsStepOf (event.Detect x) f = ⊥
IsStepOf (event.Released x) f = f ≡ chan.Released
IsStepOf (event.Owner x) f = ⊥
IsStepOf (event.Require c) f = ⊥
IsStepOf (event.Order c) f = ⊥
IsStepOf (event.Left c) f = f ≡ chan.SwitchOff

abbrev pub serving_of : State → ℕ → Option ChanId
serving_of b c = option_and_then (λ r. r.serving) (record_of b c)

abbrev pub target_of : State → ℕ → Option ChanId
target_of b c = option_and_then target_in (record_of b c)

-- the one channel whose state an event may change: the one that it names, or where its call is served or is to move
abbrev pub changed_channel : State → Event → Option ChanId
changed_channel b (event.Open c x) = Some x
changed_channel b (event.Clear c) = serving_of b c
changed_channel b (event.Look c) = None
changed_channel b (event.Take c k x) = Some x
changed_channel b (event.Reserve c n) = None
changed_channel b (event.Activate c) = target_of b c
changed_channel b (event.Command c) = None
changed_channel b (event.Complete c) = serving_of b c
changed_channel b (event.Undo c why) = target_of b c
changed_channel b (event.Confirm x) = Some x
changed_channel b (event.Refuse x) = Some x
changed_channel b (event.Detect x) = None
changed_channel b (event.Released x) = Some x
changed_channel b (event.Owner x) = None
changed_channel b (event.Require c) = None
changed_channel b (event.Order c) = None
changed_channel b (event.Left c) = serving_of b c

-- the event leads the channel from its state before to its state after, by a step of the table of channels
pub record TakesStep (b : State) (e : Event) (x : ChanId) : Type 0 where
  pub by : ChanEvent
  pub is_step_of : IsStepOf e by
  pub is_changed : changed_channel b e ≡ Some x
  pub leads : next_state (state_of b x) by ≡ Some (state_of (step b e) x)

-- an event leaves a channel in its state, or the channel takes a step that the event may make it take
abbrev pub ChannelsTakeSteps : Type 0
ChannelsTakeSteps = (b : State) (e : Event) (x : ChanId) → IsSound b → (state_of (step b e) x ≡ state_of b x) ⊎ TakesStep b e x
