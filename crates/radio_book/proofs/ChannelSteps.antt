-- What an event makes of a channel is a step of the channel, one that the event may make it take.
use Rattle.std.proofs.Common.{◌≡◌, ◌⊎◌, inl, inr, ℕ, Bool, true, false, if◌then◌else◌, ◌==◌, Option, Some, None, refl, sym, ap, ◌∙◌}
use Rattle.std.proofs.lemmas.Bool.{eq-eqb}
use Rattle.std.specs.Option.{option_map, option_and_then}
use Rattle.std.specs.FinMap as map
use Rattle.channel_fsm.specs.declared.ChanId.{ChanId}
use Rattle.channel_fsm.specs.declared.ChanState.{ChanState}
use Rattle.channel_fsm.specs.declared.ChanState.TheVariants.{Free, Held, Pending, On, Off}
use Rattle.channel_fsm.specs.declared.ChanEvent.{ChanEvent}
use Rattle.channel_fsm.specs.declared.ChanEvent.TheVariants as chan
use Rattle.channel_fsm.specs.Table.{next_state}
use Rattle.radio_tables.specs.declared.kinds.AttemptKind.{AttemptKind}
use Rattle.radio_tables.specs.declared.kinds.AttemptKind.TheVariants.{Incoming}
use Rattle.radio_tables.specs.Stages.{stage_row}
use Rattle.radio_book.specs.declared.event.Kind.{Kind}
use Rattle.radio_book.specs.declared.event.Kind.TheVariants as kind
use Rattle.attempt_journal.specs.declared.Timer.{Timer}
use Rattle.radio_book.specs.declared.event.Why.{Why}
use Rattle.radio_book.specs.declared.event.Why.TheVariants.{Asked, Expired}
use Rattle.radio_tables.specs.declared.kinds.Stage.{Stage}
use Rattle.radio_tables.specs.declared.kinds.Stage.TheVariants as stage
use Rattle.radio_tables.specs.declared.kinds.Attempt.{Attempt}
use Rattle.radio_tables.specs.declared.kinds.CallRecord.{CallRecord}
use Rattle.radio_book.specs.declared.event.Event.{Event}
use Rattle.radio_book.specs.declared.event.Event.TheVariants as event
use Rattle.radio_book.specs.declared.event.Refusal.{Refusal}
use Rattle.radio_book.specs.declared.event.Refusal.TheVariants.{WrongPhase, NotArmed, Unexpected}
use Rattle.cell_table.specs.Site.{is_traffic}
use Rattle.radio_book.specs.State.{State, or_free, state_of, record_of}
use Rattle.radio_book.specs.Table.{in_way, step, command_row, complete_row, require_row, order_row, left_row, detect_row, detect_by, owner_row, is_target, owner, Outcome, Refuses, Accepts, row, book_after, begin_row, clear_row, look_row, taken_attempt, take_row, reserve_row, activate_row, left_state, undo_row, undo_attempt, is_armed, confirm_row, refuse_row, released_row, needs}
use Rattle.radio_book.specs.Sound.{IsSound, target_in, HasTarget, HasServing}
use Rattle.radio_book.specs.Channels.{IsStepOf, serving_of, target_of, changed_channel, TakesStep, ChannelsTakeSteps}
use Rattle.radio_book.proofs.Rows.{command_by, command_at, complete_by, complete_at, require_at, require_from, order_by, order_at, left_by, left_at, detect_of, detect_at, clear_at, take_at, take_from, reserve_by, reserve_at, reserve_number, activate_by, activate_at}
use Rattle.radio_tables.proofs.KeyFacts.{chan_total, chan_exact}
use Rattle.radio_book.proofs.Frame.{AtKey, get-with_change, serving_is_on, aimed_is_owned, way_free}

-- a step that the event may make a channel take leads from the one state to the other
abbrev StepsTo : Event → ChanState → ChanState → Type 0
StepsTo e s after = (f : ChanEvent) × IsStepOf e f × (next_state s f ≡ Some after)

-- what is changed of a channel is such a step, and the channel the one that the event may change
abbrev Steps : State → Event → Outcome → Type 0
Steps b e (Refuses refusal) = Unit {0}
Steps b e (Accepts change reply) = AtKey change.channel (λ x v. (changed_channel b e ≡ Some x) × StepsTo e (state_of b x) (or_free v))

-- a step from the state that the channel is in
step_from : (e : Event) (s z after : ChanState) (f : ChanEvent) → IsStepOf e f → s ≡ z → next_state z f ≡ Some after → StepsTo e s after
step_from e s z after f may is leads = (f, may, ap (λ s. next_state s f) is ∙ leads)

sends : (c : ℕ) → next_state (Held c) (chan.Send c) ≡ Some (Pending c)
sends c = ap (λ same. if same then Some (Pending c) else None) (eq-eqb c c refl)

module _ (b : State) (sound : IsSound b) where
  -- the record of a call says where it is served, and where it is to move
  served : (c : ℕ) (r : CallRecord) → record_of b c ≡ Some r → serving_of b c ≡ r.serving
  served c r known = ap (option_and_then (λ (r : CallRecord). r.serving)) known

  aimed : (c : ℕ) (r : CallRecord) (a : Attempt) → record_of b c ≡ Some r → r.attempt ≡ Some a → target_of b c ≡ a.target
  aimed c r a known opened = ap (option_and_then target_in) known ∙ ap (option_and_then (λ (a : Attempt). a.target)) opened

  begin_steps : (e : Event) (c : ℕ) (x : ChanId) (r : CallRecord) (s : ChanState) (f : ChanEvent) → changed_channel b e ≡ Some x → IsStepOf e f → next_state Free f ≡ Some s →
      (o : Option CallRecord) (traffic : Bool) (z : Option ChanId) → in_way b x ≡ z → Steps b e (begin_row c x r s o traffic z)
  begin_steps e c x r s f named may leads (Some old) traffic z is = tt
  begin_steps e c x r s f named may leads None false z is = tt
  begin_steps e c x r s f named may leads None true None is = (named, step_from e (state_of b x) Free s f may (way_free b x is) leads)
  begin_steps e c x r s f named may leads None true (Some y) is = tt

  -- what is left of a channel that its call uses no more
  left_steps : (e : Event) → IsStepOf e chan.Drop → IsStepOf e chan.SwitchOff → (c : ℕ) (z : ChanState) → owner z ≡ Some c → StepsTo e z (or_free (left_state z))
  left_steps e drops switches c Free h = cc
  left_steps e drops switches c (Held d) h = (chan.Drop, drops, refl)
  left_steps e drops switches c (Pending d) h = (chan.SwitchOff, switches, refl)
  left_steps e drops switches c (On d) h = (chan.SwitchOff, switches, refl)
  left_steps e drops switches c Off h = cc

  clear_steps : (c : ℕ) (s : Option ChanId) (o : Option Attempt) → record_of b c ≡ Some (record { serving = s; attempt = o }) →
      Steps b (event.Clear c) (clear_at c (record { serving = s; attempt = o }) o (state_of b))
  clear_steps c s (Some a) e = tt
  clear_steps c None None e = tt
  clear_steps c (Some x) None e = (served c _ e, left_steps (event.Clear c) (inl refl) (inr refl) c (state_of b x) (sound.serving_is_owned c _ x e refl))

  clear_row_steps : (c : ℕ) (o : Option CallRecord) → record_of b c ≡ o → Steps b (event.Clear c) (clear_row c o (state_of b))
  clear_row_steps c None e = tt
  clear_row_steps c (Some r) e = clear_steps c r.serving r.attempt e

  from_steps : (c : ℕ) (x : ChanId) (r : CallRecord) (serving : ChanState) (traffic same : Bool) (z : Option ChanId) → in_way b x ≡ z →
      Steps b (event.Take c kind.Internal x) (take_from c x r serving traffic same z)
  from_steps c x r Free traffic same z is = tt
  from_steps c x r (Held d) traffic same z is = tt
  from_steps c x r (Pending d) traffic same z is = tt
  from_steps c x r Off traffic same z is = tt
  from_steps c x r (On d) false same z is = tt
  from_steps c x r (On d) true true z is = tt
  from_steps c x r (On d) true false None is = (refl, step_from (event.Take c kind.Internal x) (state_of b x) Free (Held c) (chan.Take c) refl (way_free b x is) refl)
  from_steps c x r (On d) true false (Some y) is = tt

  internal_steps : (c : ℕ) (x : ChanId) (r : CallRecord) (o : Option Attempt) (s : Option ChanId) (traffic : Bool) →
      Steps b (event.Take c kind.Internal x) (take_at c x r o s (state_of b) traffic)
  internal_steps c x r (Some a) s traffic = tt
  internal_steps c x r None None traffic = tt
  internal_steps c x r None (Some y) traffic = from_steps c x r (state_of b y) traffic (y.cell == x.cell) (in_way b x) refl

  take_steps : (c : ℕ) (k : Kind) (x : ChanId) (o : Option CallRecord) → Steps b (event.Take c k x) (take_row c k x o (state_of b) (is_traffic b.site x))
  take_steps c kind.Internal x None = tt
  take_steps c kind.Internal x (Some r) = internal_steps c x r r.attempt r.serving (is_traffic b.site x)
  take_steps c kind.Incoming x o =
      begin_steps (event.Take c kind.Incoming x) c x (record { serving = None; attempt = Some (taken_attempt Incoming x) }) (Held c) (chan.Take c) refl refl refl o (is_traffic b.site x) (in_way b x) refl

  -- a reference is no channel
  number_steps : (c n : ℕ) (r : CallRecord) (a : Attempt) (t : ChanId) (o : Option ℕ) → Steps b (event.Reserve c n) (reserve_number c n r a t o)
  number_steps c n r a t (Some d) = tt
  number_steps c n r a t None = tt

  reserve_steps : (c n : ℕ) (r : CallRecord) (a : Attempt) (g : Stage) (o : Option ChanId) → Steps b (event.Reserve c n) (reserve_at c n r a g o (map.get b.references))
  reserve_steps c n r a stage.Taken None = tt
  reserve_steps c n r a stage.Taken (Some t) = number_steps c n r a t (map.get b.references (record { cell = t.cell; number = n }))
  reserve_steps c n r a stage.Reserved o = tt
  reserve_steps c n r a stage.Sent o = tt
  reserve_steps c n r a stage.Refused o = tt
  reserve_steps c n r a stage.Confirmed o = tt
  reserve_steps c n r a stage.Commanded o = tt
  reserve_steps c n r a stage.Detected o = tt
  reserve_steps c n r a stage.Required o = tt
  reserve_steps c n r a stage.Ordered o = tt

  reserve_by_steps : (c n : ℕ) (r : CallRecord) (o : Option Attempt) → Steps b (event.Reserve c n) (reserve_by c n r o (map.get b.references))
  reserve_by_steps c n r None = tt
  reserve_by_steps c n r (Some a) = reserve_steps c n r a a.stage a.target

  reserve_row_steps : (c n : ℕ) (o : Option CallRecord) → Steps b (event.Reserve c n) (reserve_row c n o (map.get b.references))
  reserve_row_steps c n None = tt
  reserve_row_steps c n (Some r) = reserve_by_steps c n r r.attempt

  activate_steps : (c : ℕ) (r : CallRecord) (a : Attempt) (g : Stage) (o : Option ChanId) → target_of b c ≡ o → HasTarget c (stage_row g).target o (state_of b) → Steps b (event.Activate c) (activate_at c r a g o)
  activate_steps c r a stage.Reserved None aims is = tt
  activate_steps c r a stage.Reserved (Some t) aims is = (aims, step_from (event.Activate c) (state_of b t) (Held c) (Pending c) (chan.Send c) refl is (sends c))
  activate_steps c r a stage.Taken o aims is = tt
  activate_steps c r a stage.Sent o aims is = tt
  activate_steps c r a stage.Refused o aims is = tt
  activate_steps c r a stage.Confirmed o aims is = tt
  activate_steps c r a stage.Commanded o aims is = tt
  activate_steps c r a stage.Detected o aims is = tt
  activate_steps c r a stage.Required o aims is = tt
  activate_steps c r a stage.Ordered o aims is = tt

  activate_by_steps : (c : ℕ) (r : CallRecord) (o : Option Attempt) → record_of b c ≡ Some r → r.attempt ≡ o → Steps b (event.Activate c) (activate_by c r o)
  activate_by_steps c r None known opened = tt
  activate_by_steps c r (Some a) known opened = activate_steps c r a a.stage a.target (aimed c r a known opened) (sound.target_by_stage c r a known opened)

  activate_row_steps : (c : ℕ) (o : Option CallRecord) → record_of b c ≡ o → Steps b (event.Activate c) (activate_row c o)
  activate_row_steps c None known = tt
  activate_row_steps c (Some r) known = activate_by_steps c r r.attempt known refl

  -- what an undo leaves of a target
  undone_steps : (c : ℕ) (why : Why) (r : CallRecord) (a : Attempt) (o : Option ChanId) → record_of b c ≡ Some r → r.attempt ≡ Some a → a.target ≡ o → target_of b c ≡ o →
      AtKey (option_map (λ t. (t, left_state (state_of b t))) o) (λ x v. (target_of b c ≡ Some x) × StepsTo (event.Undo c why) (state_of b x) (or_free v))
  undone_steps c why r a None known opened has aims = tt
  undone_steps c why r a (Some t) known opened has aims = (aims, left_steps (event.Undo c why) (inl refl) (inr refl) c (state_of b t) (aimed_is_owned b sound c r a t known opened has))

  undo_steps : (c : ℕ) (why : Why) (refusal : Refusal) (r : CallRecord) (o : Option Attempt) (armed : Option Timer) → record_of b c ≡ Some r → r.attempt ≡ o →
      Steps b (event.Undo c why) (undo_attempt c refusal r o (state_of b) armed)
  undo_steps c why refusal r None armed known opened = tt
  undo_steps c why refusal r (Some a) armed known opened = undone_steps c why r a a.target known opened refl (aimed c r a known opened)

  expiry_steps : (c : ℕ) (m : Timer) (r : CallRecord) (armed : Option Timer) (is : Bool) → record_of b c ≡ Some r →
      Steps b (event.Undo c (Expired m)) (needs is NotArmed (undo_attempt c NotArmed r r.attempt (state_of b) armed))
  expiry_steps c m r armed true known = undo_steps c (Expired m) NotArmed r r.attempt armed known refl
  expiry_steps c m r armed false known = tt

  undo_row_steps : (c : ℕ) (why : Why) (o : Option CallRecord) (armed : Option Timer) → record_of b c ≡ o → Steps b (event.Undo c why) (undo_row c why o (state_of b) armed)
  undo_row_steps c why None armed known = tt
  undo_row_steps c Asked (Some r) armed known = undo_steps c Asked WrongPhase r r.attempt armed known refl
  undo_row_steps c (Expired m) (Some r) armed known = expiry_steps c m r armed (is_armed m armed) known

  confirm_steps : (x : ChanId) (z : ChanState) → state_of b x ≡ z → Steps b (event.Confirm x) (confirm_row x z (record_of b))
  confirm_steps x Free is = tt
  confirm_steps x (Held c) is = tt
  confirm_steps x (Pending c) is = (refl, step_from (event.Confirm x) (state_of b x) (Pending c) (On c) chan.Confirm refl is refl)
  confirm_steps x (On c) is = tt
  confirm_steps x Off is = tt

  refuse_steps : (x : ChanId) (z : ChanState) → state_of b x ≡ z → Steps b (event.Refuse x) (refuse_row x z (record_of b))
  refuse_steps x Free is = tt
  refuse_steps x (Held c) is = tt
  refuse_steps x (Pending c) is = (refl, step_from (event.Refuse x) (state_of b x) (Pending c) (Held c) chan.Refuse refl is refl)
  refuse_steps x (On c) is = tt
  refuse_steps x Off is = tt

  released_steps : (x : ChanId) (z : ChanState) → state_of b x ≡ z → Steps b (event.Released x) (released_row x z)
  released_steps x Free is = tt
  released_steps x (Held c) is = tt
  released_steps x (Pending c) is = tt
  released_steps x (On c) is = tt
  released_steps x Off is = (refl, step_from (event.Released x) (state_of b x) Off Free chan.Released refl is refl)

  look_steps : (c : ℕ) (o : Option CallRecord) → Steps b (event.Look c) (look_row o (state_of b))
  look_steps c None = tt
  look_steps c (Some r) = tt

  -- steps that read the record alone, and change no channel
  command_at_steps : (c : ℕ) (r : CallRecord) (a : Attempt) (g : Stage) → Steps b (event.Command c) (command_at c r a g)
  command_at_steps c r a stage.Taken = tt
  command_at_steps c r a stage.Reserved = tt
  command_at_steps c r a stage.Sent = tt
  command_at_steps c r a stage.Refused = tt
  command_at_steps c r a stage.Confirmed = tt
  command_at_steps c r a stage.Commanded = tt
  command_at_steps c r a stage.Detected = tt
  command_at_steps c r a stage.Required = tt
  command_at_steps c r a stage.Ordered = tt

  command_by_steps : (c : ℕ) (r : CallRecord) (o : Option Attempt) → Steps b (event.Command c) (command_by c r o)
  command_by_steps c r None = tt
  command_by_steps c r (Some a) = command_at_steps c r a a.stage

  command_row_steps : (c : ℕ) (o : Option CallRecord) → Steps b (event.Command c) (command_row c o)
  command_row_steps c None = tt
  command_row_steps c (Some r) = command_by_steps c r r.attempt

  order_at_steps : (c : ℕ) (r : CallRecord) (a : Attempt) (g : Stage) → Steps b (event.Order c) (order_at c r a g)
  order_at_steps c r a stage.Taken = tt
  order_at_steps c r a stage.Reserved = tt
  order_at_steps c r a stage.Sent = tt
  order_at_steps c r a stage.Refused = tt
  order_at_steps c r a stage.Confirmed = tt
  order_at_steps c r a stage.Commanded = tt
  order_at_steps c r a stage.Detected = tt
  order_at_steps c r a stage.Required = tt
  order_at_steps c r a stage.Ordered = tt

  order_by_steps : (c : ℕ) (r : CallRecord) (o : Option Attempt) → Steps b (event.Order c) (order_by c r o)
  order_by_steps c r None = tt
  order_by_steps c r (Some a) = order_at_steps c r a a.stage

  order_row_steps : (c : ℕ) (o : Option CallRecord) → Steps b (event.Order c) (order_row c o)
  order_row_steps c None = tt
  order_row_steps c (Some r) = order_by_steps c r r.attempt

  detect_at_steps : (x : ChanId) (c : ℕ) (r : CallRecord) (a : Attempt) (g : Stage) → Steps b (event.Detect x) (detect_at x c r a g)
  detect_at_steps x c r a stage.Taken = tt
  detect_at_steps x c r a stage.Reserved = tt
  detect_at_steps x c r a stage.Sent = tt
  detect_at_steps x c r a stage.Refused = tt
  detect_at_steps x c r a stage.Confirmed = tt
  detect_at_steps x c r a stage.Commanded = tt
  detect_at_steps x c r a stage.Detected = tt
  detect_at_steps x c r a stage.Required = tt
  detect_at_steps x c r a stage.Ordered = tt

  detect_if_steps : (x : ChanId) (c : ℕ) (r : CallRecord) (a : Attempt) (aimed : Bool) → Steps b (event.Detect x) (needs aimed (Unexpected x) (detect_at x c r a a.stage))
  detect_if_steps x c r a true = detect_at_steps x c r a a.stage
  detect_if_steps x c r a false = tt

  detect_of_steps : (x : ChanId) (c : ℕ) (r : CallRecord) (o : Option Attempt) → Steps b (event.Detect x) (detect_of x c r o)
  detect_of_steps x c r None = tt
  detect_of_steps x c r (Some a) = detect_if_steps x c r a (is_target x a.target)

  detect_by_steps : (x : ChanId) (c : ℕ) (o : Option CallRecord) → Steps b (event.Detect x) (detect_by x c o)
  detect_by_steps x c None = tt
  detect_by_steps x c (Some r) = detect_of_steps x c r r.attempt

  detect_steps : (x : ChanId) (z : ChanState) → Steps b (event.Detect x) (detect_row x z (record_of b))
  detect_steps x Free = tt
  detect_steps x (Held c) = tt
  detect_steps x (Pending c) = tt
  detect_steps x (On c) = detect_by_steps x c (record_of b c)
  detect_steps x Off = tt

  owner_steps : (x : ChanId) (o : Option ℕ) → Steps b (event.Owner x) (owner_row x o)
  owner_steps x None = tt
  owner_steps x (Some c) = tt

  require_from_steps : (c : ℕ) (r : CallRecord) (z : ChanState) → Steps b (event.Require c) (require_from c r z)
  require_from_steps c r Free = tt
  require_from_steps c r (Held d) = tt
  require_from_steps c r (Pending d) = tt
  require_from_steps c r (On d) = tt
  require_from_steps c r Off = tt

  require_at_steps : (c : ℕ) (r : CallRecord) (o : Option Attempt) (s : Option ChanId) → Steps b (event.Require c) (require_at c r o s (state_of b))
  require_at_steps c r (Some a) s = tt
  require_at_steps c r None None = tt
  require_at_steps c r None (Some x) = require_from_steps c r (state_of b x)

  require_row_steps : (c : ℕ) (o : Option CallRecord) → Steps b (event.Require c) (require_row c o (state_of b))
  require_row_steps c None = tt
  require_row_steps c (Some r) = require_at_steps c r r.attempt r.serving

  -- a call leaves its serving channel
  off_steps : (e : Event) → IsStepOf e chan.SwitchOff → (c : ℕ) (k : AttemptKind) (s : Option ChanId) → changed_channel b e ≡ s → HasServing c k s (state_of b) →
      AtKey (option_map (λ x. (x, Some Off)) s) (λ x v. (changed_channel b e ≡ Some x) × StepsTo e (state_of b x) (or_free v))
  off_steps e may c k None serves is = tt
  off_steps e may c k (Some x) serves is = (serves, step_from e (state_of b x) (On c) Off chan.SwitchOff may (serving_is_on c (state_of b) k (Some x) x is refl) refl)

  complete_at_steps : (c : ℕ) (r : CallRecord) (a : Attempt) (g : Stage) → serving_of b c ≡ r.serving → HasServing c a.kind r.serving (state_of b) → Steps b (event.Complete c) (complete_at c r a g)
  complete_at_steps c r a stage.Taken serves is = tt
  complete_at_steps c r a stage.Reserved serves is = tt
  complete_at_steps c r a stage.Sent serves is = tt
  complete_at_steps c r a stage.Refused serves is = tt
  complete_at_steps c r a stage.Confirmed serves is = tt
  complete_at_steps c r a stage.Commanded serves is = off_steps (event.Complete c) refl c a.kind r.serving serves is
  complete_at_steps c r a stage.Detected serves is = off_steps (event.Complete c) refl c a.kind r.serving serves is
  complete_at_steps c r a stage.Required serves is = tt
  complete_at_steps c r a stage.Ordered serves is = tt

  complete_by_steps : (c : ℕ) (r : CallRecord) (o : Option Attempt) → record_of b c ≡ Some r → r.attempt ≡ o → Steps b (event.Complete c) (complete_by c r o)
  complete_by_steps c r None known opened = tt
  complete_by_steps c r (Some a) known opened = complete_at_steps c r a a.stage (served c r known) (sound.serving_while_open c r a known opened)

  complete_row_steps : (c : ℕ) (o : Option CallRecord) → record_of b c ≡ o → Steps b (event.Complete c) (complete_row c o)
  complete_row_steps c None known = tt
  complete_row_steps c (Some r) known = complete_by_steps c r r.attempt known refl

  left_row_at_steps : (c : ℕ) (r : CallRecord) (a : Attempt) (g : Stage) → serving_of b c ≡ r.serving → HasServing c a.kind r.serving (state_of b) → Steps b (event.Left c) (left_at c r g)
  left_row_at_steps c r a stage.Taken serves is = tt
  left_row_at_steps c r a stage.Reserved serves is = tt
  left_row_at_steps c r a stage.Sent serves is = tt
  left_row_at_steps c r a stage.Refused serves is = tt
  left_row_at_steps c r a stage.Confirmed serves is = tt
  left_row_at_steps c r a stage.Commanded serves is = tt
  left_row_at_steps c r a stage.Detected serves is = tt
  left_row_at_steps c r a stage.Required serves is = tt
  left_row_at_steps c r a stage.Ordered serves is = off_steps (event.Left c) refl c a.kind r.serving serves is

  left_by_steps : (c : ℕ) (r : CallRecord) (o : Option Attempt) → record_of b c ≡ Some r → r.attempt ≡ o → Steps b (event.Left c) (left_by c r o)
  left_by_steps c r None known opened = tt
  left_by_steps c r (Some a) known opened = left_row_at_steps c r a a.stage (served c r known) (sound.serving_while_open c r a known opened)

  left_row_steps : (c : ℕ) (o : Option CallRecord) → record_of b c ≡ o → Steps b (event.Left c) (left_row c o)
  left_row_steps c None known = tt
  left_row_steps c (Some r) known = left_by_steps c r r.attempt known refl

  row_steps : (e : Event) → Steps b e (row b e)
  row_steps (event.Open c x) = begin_steps (event.Open c x) c x (record { serving = Some x; attempt = None }) (Pending c) (chan.Begin c) refl refl refl (record_of b c) (is_traffic b.site x) (in_way b x) refl
  row_steps (event.Clear c) = clear_row_steps c (record_of b c) refl
  row_steps (event.Look c) = look_steps c (record_of b c)
  row_steps (event.Take c k x) = take_steps c k x (record_of b c)
  row_steps (event.Reserve c n) = reserve_row_steps c n (record_of b c)
  row_steps (event.Activate c) = activate_row_steps c (record_of b c) refl
  row_steps (event.Undo c why) = undo_row_steps c why (record_of b c) (map.get b.timers c) refl
  row_steps (event.Confirm x) = confirm_steps x (state_of b x) refl
  row_steps (event.Refuse x) = refuse_steps x (state_of b x) refl
  row_steps (event.Released x) = released_steps x (state_of b x) refl
  row_steps (event.Command c) = command_row_steps c (record_of b c)
  row_steps (event.Complete c) = complete_row_steps c (record_of b c) refl
  row_steps (event.Detect x) = detect_steps x (state_of b x)
  row_steps (event.Owner x) = owner_steps x (owner (state_of b x))
  row_steps (event.Require c) = require_row_steps c (record_of b c)
  row_steps (event.Order c) = order_row_steps c (record_of b c)
  row_steps (event.Left c) = left_row_steps c (record_of b c) refl

-- a channel that is changed takes a step, another stays
outcome_steps : (b : State) (e : Event) → Steps b e (row b e) → (x : ChanId) → (state_of (step b e) x ≡ state_of b x) ⊎ TakesStep b e x
outcome_steps b e steps x = by (row b e) refl steps
  where
    by : (o : Outcome) → row b e ≡ o → Steps b e o → (state_of (step b e) x ≡ state_of b x) ⊎ TakesStep b e x
    by (Refuses refusal) is steps = inl (ap (λ o. state_of (book_after o b) x) is)
    by (Accepts change reply) is steps =
        elim (get-with_change chan_total chan_exact b.channels change.channel (λ x v. (changed_channel b e ≡ Some x) × StepsTo e (state_of b x) (or_free v)) x steps) [
          | inl ((changed, stepped), touched) ↦ inr (record { by = stepped.0; is_step_of = stepped.1; is_changed = changed; leads = stepped.2 ∙ ap (λ o. Some (state_of (book_after o b) x)) (sym is) })
          | inr (missed, same) ↦ inl (ap (λ o. state_of (book_after o b) x) is ∙ ap or_free same)
        ]

pub channels_take_steps : ChannelsTakeSteps
channels_take_steps b e x sound = outcome_steps b e (row_steps b sound e) x
