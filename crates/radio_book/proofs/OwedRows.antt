-- What each row of the table makes of what is owed; and that no event is accepted with a refusal.
use Rattle.std.proofs.Common.{◌≡◌, ◌≢◌, ℕ, ◌+◌, ◌≤◌, ◌==◌, Bool, true, false, IsTrue, cond, if◌then◌else◌, Option, Some, None, is_some, refl, sym, ◌∙◌, ap, arith}
use Rattle.std.specs.Option.{option_map}
use Rattle.std.specs.Cmp.{nat_cmp_total}
use Rattle.std.specs.FinMap as map
use Rattle.std.specs.FinMap.{nat_cmp-IsAntisymmetric}
use Rattle.channel_fsm.specs.declared.ChanId.{ChanId}
use Rattle.channel_fsm.specs.declared.ChanState.{ChanState}
use Rattle.channel_fsm.specs.declared.ChanState.TheVariants.{Free, Held, Pending, On, Off}
use Rattle.attempt_journal.specs.declared.Timer.{Timer}
use Rattle.radio_tables.specs.declared.kinds.AttemptKind.{AttemptKind}
use Rattle.radio_tables.specs.declared.kinds.AttemptKind.TheVariants.{Internal, Incoming, Outgoing}
use Rattle.radio_book.specs.declared.event.Kind.{Kind}
use Rattle.radio_book.specs.declared.event.Kind.TheVariants as kind
use Rattle.radio_tables.specs.declared.kinds.Stage.{Stage}
use Rattle.radio_tables.specs.declared.kinds.Stage.TheVariants as stage
use Rattle.radio_tables.specs.declared.kinds.Attempt.{Attempt}
use Rattle.radio_tables.specs.declared.kinds.CallRecord.{CallRecord}
use Rattle.radio_book.specs.declared.event.Refusal.{Refusal}
use Rattle.radio_book.specs.declared.event.Refusal.TheVariants.{WrongPhase, Unexpected, NotArmed}
use Rattle.radio_book.specs.declared.event.Why.{Why}
use Rattle.radio_book.specs.declared.event.Why.TheVariants.{Asked, Expired}
use Rattle.radio_book.specs.declared.event.Event.{Event}
use Rattle.radio_book.specs.declared.event.Event.TheVariants as event
use Rattle.cell_table.specs.Site.{is_traffic}
use Rattle.radio_book.specs.State.{State, Change, apply, or_free, state_of, record_of}
use Rattle.radio_tables.specs.Stages.{Allows, stage_allows}
use Rattle.radio_book.specs.Table.{in_way, Outcome, Refuses, Accepts, needs, given, owner, left_state, row, reply_of, book_after, with_entry, at_stage, begin_row, clear_row, look_row, take_row, taken_attempt, require_row, in_stage, reference_at, reserve_row, activate_row, command_row, order_row, complete_row, left_row, resting_record, undo_attempt, undo_row, is_armed, is_target, moved_entry, attempt_entry, confirm_row, refuse_row, detect_by, detect_row, released_row, owner_row}
use Rattle.radio_book.specs.Sound.{IsSound}
use Rattle.radio_book.specs.Kinds.{is_accepted}
use Rattle.radio_book.specs.Run.{RefusedEventsChangeNothing}
use Rattle.radio_book.specs.Facts.{event_facts}
use Rattle.radio_book.specs.Owed.{owed, IsOwedWithin, most_raised, StepsRaise, is_owed, OwedEventsLower}
use Rattle.radio_book.proofs.Rows.{clear_at, take_from, take_at, require_from, require_at, reserve_number, detect_of}
use Rattle.radio_tables.proofs.KeyFacts.{chan_total, chan_exact}
use Rattle.radio_book.proofs.Frame.{aimed_is_owned}
use Rattle.radio_book.proofs.SoundParts.{owned_not_free}
use Rattle.radio_book.proofs.Totals.{counts, counts_before, counts_after, len_total, total-le-len, total_after}

-- what a record and a channel add to what is owed

abbrev open_in : CallRecord → ℕ
open_in r = cond (is_some r.attempt) 1 0

abbrev one : ChanState → ℕ
one s = 1

-- what stood at the entries that a change is of, and what comes there
abbrev owed_before : State → Change → ℕ
owed_before b ch = counts_before open_in b.calls ch.call + counts_before one b.channels ch.channel

abbrev owed_after : Change → ℕ
owed_after ch = counts_after open_in ch.call + counts_after one ch.channel

owed_by_change : (b : State) (ch : Change) → owed (apply ch b) + owed_before b ch ≡ owed b + owed_after ch
unfolding owed
owed_by_change b ch =
    let calls = total_after nat_cmp_total nat_cmp-IsAntisymmetric open_in b.calls ch.call in
    let channels = total_after chan_total chan_exact one b.channels ch.channel in
    omega (arith, len_total b.channels, len_total (apply ch b).channels)

-- what is owed rises by no more than this, where the event is accepted
abbrev Raises : State → ℕ → Outcome → Type 0
Raises b n (Refuses refusal) = Unit {0}
Raises b n (Accepts change reply) = (owed_after change ≤ owed_before b change + n) × IsTrue (is_accepted reply)

-- it falls
abbrev Lowers : State → Outcome → Type 0
Lowers b (Refuses refusal) = Unit {0}
Lowers b (Accepts change reply) = (owed_after change + 1 ≤ owed_before b change) × IsTrue (is_accepted reply)

raised : (b : State) (n : ℕ) (o : Outcome) → Raises b n o → owed (book_after o b) ≤ owed b + n
raised b n (Refuses refusal) raises = omega arith
raised b n (Accepts change reply) raises = omega (arith, owed_by_change b change, raises.0)

lowered : (b : State) (o : Outcome) → Lowers b o → IsTrue (is_accepted (reply_of o)) → owed (book_after o b) + 1 ≤ owed b
lowered b (Refuses refusal) lowers accepted = cc
lowered b (Accepts change reply) lowers accepted = omega (arith, owed_by_change b change, lowers.0)

kept : (b : State) (n : ℕ) (o : Outcome) → Raises b n o → is_accepted (reply_of o) ≡ false → book_after o b ≡ b
kept b n (Refuses refusal) raises refused = refl
kept b n (Accepts change reply) raises refused = let accepted : is_accepted reply ≡ true = raises.1 in cc

-- GUARDS

module _ (b : State) (n : ℕ) where
  needs_raises : (t : Bool) (refusal : Refusal) (rest : Outcome) → Raises b n rest → Raises b n (needs t refusal rest)
  needs_raises true refusal rest raises = raises
  needs_raises false refusal rest raises = tt

  given_raises : {X : Type 0} (o : Option X) (refusal : Refusal) (rest : X → Outcome) → ((x : X) → o ≡ Some x → Raises b n (rest x)) → Raises b n (given o refusal rest)
  given_raises None refusal rest raises = tt
  given_raises (Some x) refusal rest raises = raises x refl

  -- an attempt that goes on
  in_stage_raises : (r : CallRecord) (may : Allows → Bool) (rest : Attempt → Outcome) → ((a : Attempt) → r.attempt ≡ Some a → Raises b n (rest a)) → Raises b n (in_stage r may rest)
  in_stage_raises r may rest raises = given_raises r.attempt WrongPhase (λ a. needs (may (stage_allows a.stage)) WrongPhase (rest a)) (λ a e. needs_raises (may (stage_allows a.stage)) WrongPhase (rest a) (raises a e))

-- WHAT IS READ

-- an attempt that is open counts
open_counts : (b : State) (c : ℕ) (r : CallRecord) (a : Attempt) → record_of b c ≡ Some r → r.attempt ≡ Some a → counts open_in (record_of b c) ≡ 1
open_counts b c r a known opened = ap (counts open_in) known ∙ ap (λ o. cond (is_some o) 1 0) opened

entry_counts : (o : Option ChanState) → or_free o ≢ Free → counts one o ≡ 1
entry_counts None used = absurd (used refl)
entry_counts (Some s) used = refl

-- so does a channel that isn't free
used_counts : (b : State) (x : ChanId) → state_of b x ≢ Free → counts one (map.get b.channels x) ≡ 1
used_counts b x used = entry_counts (map.get b.channels x) used

-- what is left of a channel counts no more than the channel
left_within : (o : Option ChanState) → counts one (left_state (or_free o)) ≤ counts one o
left_within None = omega arith
left_within (Some Free) = omega arith
left_within (Some (Held c)) = omega arith
left_within (Some (Pending c)) = omega arith
left_within (Some (On c)) = omega arith
left_within (Some Off) = omega arith

-- a channel that is left counts no more than before, where there is one
left_counts : (b : State) (o : Option ChanId) → counts_after one (option_map (λ x. (x, left_state (state_of b x))) o) ≤ counts_before one b.channels (option_map (λ x. (x, left_state (state_of b x))) o)
left_counts b None = omega arith
left_counts b (Some x) = left_within (map.get b.channels x)

-- one channel counts one
off_counts : (b : State) (o : Option ChanId) → counts_after one (option_map (λ x. (x, Some Off)) o) ≤ 1
off_counts b None = omega arith
off_counts b (Some x) = omega arith

-- what an undo leaves of a record has no attempt
resting_counts : (k : AttemptKind) (r : CallRecord) → counts open_in (resting_record k r) ≡ 0
resting_counts Internal r = refl
resting_counts Incoming r = refl
resting_counts Outgoing r = refl

-- CALLS

begin_raises : (b : State) (n c : ℕ) (x : ChanId) (r : CallRecord) (v : ChanState) → open_in r + 1 ≤ n → (found : Option CallRecord) (traffic : Bool) (w : Option ChanId) → Raises b n (begin_row c x r v found traffic w)
begin_raises b n c x r v within (Some old) traffic w = tt
begin_raises b n c x r v within None false w = tt
begin_raises b n c x r v within None true None = (omega arith, refl)
begin_raises b n c x r v within None true (Some y) = tt

clear_raises : (b : State) (c : ℕ) (s : Option ChanId) (o : Option Attempt) → Raises b 0 (clear_at c (record { serving = s; attempt = o }) o (state_of b))
clear_raises b c s (Some a) = tt
clear_raises b c s None = (omega (arith, left_counts b s), refl)

clear_row_raises : (b : State) (c : ℕ) (o : Option CallRecord) → Raises b 0 (clear_row c o (state_of b))
clear_row_raises b c None = tt
clear_row_raises b c (Some r) = clear_raises b c r.serving r.attempt

look_raises : (b : State) (o : Option CallRecord) → Raises b 0 (look_row o (state_of b))
look_raises b None = tt
look_raises b (Some r) = (omega arith, refl)

-- ATTEMPTS OPEN

taken_raises : (b : State) (c : ℕ) (x : ChanId) (r : CallRecord) (serving : ChanState) (traffic same : Bool) (w : Option ChanId) → Raises b 2 (take_from c x r serving traffic same w)
taken_raises b c x r Free traffic same w = tt
taken_raises b c x r (Held d) traffic same w = tt
taken_raises b c x r (Pending d) traffic same w = tt
taken_raises b c x r Off traffic same w = tt
taken_raises b c x r (On d) false same w = tt
taken_raises b c x r (On d) true true w = tt
taken_raises b c x r (On d) true false None = (omega arith, refl)
taken_raises b c x r (On d) true false (Some y) = tt

internal_raises : (b : State) (c : ℕ) (x : ChanId) (s : Option ChanId) (o : Option Attempt) (traffic : Bool) → Raises b 2 (take_at c x (record { serving = s; attempt = o }) o s (state_of b) traffic)
internal_raises b c x s (Some a) traffic = tt
internal_raises b c x None None traffic = tt
internal_raises b c x (Some y) None traffic = taken_raises b c x (record { serving = Some y; attempt = None }) (state_of b y) traffic (y.cell == x.cell) (in_way b x)

take_raises : (b : State) (c : ℕ) (k : Kind) (x : ChanId) (o : Option CallRecord) (traffic : Bool) → Raises b 2 (take_row c k x o (state_of b) traffic)
take_raises b c kind.Internal x None traffic = tt
take_raises b c kind.Internal x (Some r) traffic = internal_raises b c x r.serving r.attempt traffic
take_raises b c kind.Incoming x o traffic = begin_raises b 2 c x (record { serving = None; attempt = Some (taken_attempt Incoming x) }) (Held c) (omega arith) o traffic (in_way b x)

required_raises : (b : State) (c : ℕ) (r : CallRecord) (s : ChanState) → Raises b 1 (require_from c r s)
required_raises b c r Free = tt
required_raises b c r (Held d) = tt
required_raises b c r (Pending d) = tt
required_raises b c r (On d) = (omega arith, refl)
required_raises b c r Off = tt

require_raises : (b : State) (c : ℕ) (s : Option ChanId) (o : Option Attempt) → Raises b 1 (require_at c (record { serving = s; attempt = o }) o s (state_of b))
require_raises b c s (Some a) = tt
require_raises b c None None = tt
require_raises b c (Some y) None = required_raises b c (record { serving = Some y; attempt = None }) (state_of b y)

require_row_raises : (b : State) (c : ℕ) (o : Option CallRecord) → Raises b 1 (require_row c o (state_of b))
require_row_raises b c None = tt
require_row_raises b c (Some r) = require_raises b c r.serving r.attempt

-- ATTEMPTS GO ON AND END

module _ (b : State) (c : ℕ) where
  reserved_raises : (m : ℕ) (r : CallRecord) (a : Attempt) (t : ChanId) (user : Option ℕ) → counts open_in (record_of b c) ≡ 1 → Raises b 0 (reserve_number c m r a t user)
  reserved_raises m r a t None counted = (omega arith, refl)
  reserved_raises m r a t (Some d) counted = tt

  reserve_raises : (m : ℕ) (o : Option CallRecord) → record_of b c ≡ o → Raises b 0 (reserve_row c m o (map.get b.references))
  reserve_raises m None known = tt
  reserve_raises m (Some r) known =
      in_stage_raises b 0 r (λ may. may.reserve) _ (λ a opened.
      given_raises b 0 a.target WrongPhase _ (λ t aims.
      reserved_raises m r a t (map.get b.references (reference_at t m)) (open_counts b c r a known opened)))

  activate_raises : IsSound b → (o : Option CallRecord) → record_of b c ≡ o → Raises b 0 (activate_row c o)
  activate_raises sound None known = tt
  activate_raises sound (Some r) known =
      in_stage_raises b 0 r (λ may. may.activate) _ (λ a opened.
      given_raises b 0 a.target WrongPhase _ (λ t aims.
      let counted = open_counts b c r a known opened in
      let used = used_counts b t (owned_not_free (state_of b t) c (aimed_is_owned b sound c r a t known opened aims)) in
      (omega arith, refl)))

  command_raises : (o : Option CallRecord) → record_of b c ≡ o → Raises b 0 (command_row c o)
  command_raises None known = tt
  command_raises (Some r) known = in_stage_raises b 0 r (λ may. may.command) _ (λ a opened. let counted = open_counts b c r a known opened in (omega arith, refl))

  order_raises : (o : Option CallRecord) → record_of b c ≡ o → Raises b 0 (order_row c o)
  order_raises None known = tt
  order_raises (Some r) known = in_stage_raises b 0 r (λ may. may.order) _ (λ a opened. let counted = open_counts b c r a known opened in (omega arith, refl))

  complete_raises : (o : Option CallRecord) → record_of b c ≡ o → Raises b 0 (complete_row c o)
  complete_raises None known = tt
  complete_raises (Some r) known =
      in_stage_raises b 0 r (λ may. may.complete) _ (λ a opened.
      let counted = open_counts b c r a known opened in
      (omega (arith, off_counts b r.serving), refl))

  left_raises : (o : Option CallRecord) → record_of b c ≡ o → Raises b 0 (left_row c o)
  left_raises None known = tt
  left_raises (Some r) known =
      in_stage_raises b 0 r (λ may. may.left) _ (λ a opened.
      let counted = open_counts b c r a known opened in
      (omega (arith, off_counts b r.serving), refl))

  -- an undo lowers it
  undo_lowers : (refusal : Refusal) (r : CallRecord) (o : Option Attempt) (armed : Option Timer) → record_of b c ≡ Some r → r.attempt ≡ o → Lowers b (undo_attempt c refusal r o (state_of b) armed)
  undo_lowers refusal r None armed known opened = tt
  undo_lowers refusal r (Some a) armed known opened =
      let counted = open_counts b c r a known opened in
      (omega (arith, resting_counts a.kind r, left_counts b a.target), refl)

  expiry_lowers : (t : Bool) (r : CallRecord) (armed : Option Timer) → record_of b c ≡ Some r → Lowers b (needs t NotArmed (undo_attempt c NotArmed r r.attempt (state_of b) armed))
  expiry_lowers true r armed known = undo_lowers NotArmed r r.attempt armed known refl
  expiry_lowers false r armed known = tt

  undo_row_lowers : (why : Why) (o : Option CallRecord) (armed : Option Timer) → record_of b c ≡ o → Lowers b (undo_row c why o (state_of b) armed)
  undo_row_lowers why None armed known = tt
  undo_row_lowers Asked (Some r) armed known = undo_lowers WrongPhase r r.attempt armed known refl
  undo_row_lowers (Expired m) (Some r) armed known = expiry_lowers (is_armed m armed) r armed known

-- STATIONS

moved_counts : (b : State) (x : ChanId) (g : Stage) (c : ℕ) (o : Option CallRecord) → record_of b c ≡ o → counts_after open_in (moved_entry x g c o) ≤ counts_before open_in b.calls (moved_entry x g c o)
moved_counts b x g c None known = omega arith
moved_counts b x g c (Some r) known = by_attempt r.attempt refl
  where
    at_target : (a : Attempt) → r.attempt ≡ Some a → (t : Bool) → counts_after open_in (if t then with_entry c (at_stage r a g) else None) ≤ counts_before open_in b.calls (if t then with_entry c (at_stage r a g) else None)
    at_target a opened true = let counted = open_counts b c r a known opened in omega arith
    at_target a opened false = omega arith

    by_attempt : (o : Option Attempt) → r.attempt ≡ o → counts_after open_in (attempt_entry x g c r o) ≤ counts_before open_in b.calls (attempt_entry x g c r o)
    by_attempt None opened = omega arith
    by_attempt (Some a) opened = at_target a opened (is_target x a.target)

confirm_raises : (b : State) (x : ChanId) (s : ChanState) → state_of b x ≡ s → Raises b 0 (confirm_row x s (record_of b))
confirm_raises b x Free is = tt
confirm_raises b x (Held c) is = tt
confirm_raises b x (Pending c) is =
    let used = used_counts b x (λ free. let bad : Free ≡ Pending c = sym free ∙ is in cc) in
    (omega (arith, moved_counts b x stage.Confirmed c (record_of b c) refl), refl)
confirm_raises b x (On c) is = tt
confirm_raises b x Off is = tt

refuse_raises : (b : State) (x : ChanId) (s : ChanState) → state_of b x ≡ s → Raises b 0 (refuse_row x s (record_of b))
refuse_raises b x Free is = tt
refuse_raises b x (Held c) is = tt
refuse_raises b x (Pending c) is =
    let used = used_counts b x (λ free. let bad : Free ≡ Pending c = sym free ∙ is in cc) in
    (omega (arith, moved_counts b x stage.Refused c (record_of b c) refl), refl)
refuse_raises b x (On c) is = tt
refuse_raises b x Off is = tt

detected_raises : (b : State) (x : ChanId) (c : ℕ) (r : CallRecord) (o : Option Attempt) → record_of b c ≡ Some r → r.attempt ≡ o → Raises b 0 (detect_of x c r o)
detected_raises b x c r None known opened = tt
detected_raises b x c r (Some a) known opened =
    needs_raises b 0 (is_target x a.target) (Unexpected x) _ (needs_raises b 0 (stage_allows a.stage).detect (Unexpected x) _ (let counted = open_counts b c r a known opened in (omega arith, refl)))

detect_by_raises : (b : State) (x : ChanId) (c : ℕ) (o : Option CallRecord) → record_of b c ≡ o → Raises b 0 (detect_by x c o)
detect_by_raises b x c None known = tt
detect_by_raises b x c (Some r) known = detected_raises b x c r r.attempt known refl

detect_raises : (b : State) (x : ChanId) (s : ChanState) → Raises b 0 (detect_row x s (record_of b))
detect_raises b x Free = tt
detect_raises b x (Held c) = tt
detect_raises b x (Pending c) = tt
detect_raises b x (On c) = detect_by_raises b x c (record_of b c) refl
detect_raises b x Off = tt

released_lowers : (b : State) (x : ChanId) (s : ChanState) → state_of b x ≡ s → Lowers b (released_row x s)
released_lowers b x Free is = tt
released_lowers b x (Held c) is = tt
released_lowers b x (Pending c) is = tt
released_lowers b x (On c) is = tt
released_lowers b x Off is = let used = used_counts b x (λ free. let bad : Free ≡ Off = sym free ∙ is in cc) in (omega arith, refl)

owner_raises : (b : State) (x : ChanId) (o : Option ℕ) → Raises b 0 (owner_row x o)
owner_raises b x None = tt
owner_raises b x (Some c) = (omega arith, refl)

-- EVENTS

-- what is lowered isn't raised
lowers_raises : (b : State) (o : Outcome) → Lowers b o → Raises b 0 o
lowers_raises b (Refuses refusal) lowers = tt
lowers_raises b (Accepts change reply) lowers = (omega (arith, lowers.0), lowers.1)

undo_event_lowers : (b : State) (c : ℕ) (why : Why) → Lowers b (row b (event.Undo c why))
undo_event_lowers b c why = undo_row_lowers b c why (record_of b c) (map.get b.timers c) refl

row_raises : (b : State) (e : Event) → IsSound b → Raises b (most_raised e) (row b e)
row_raises b (event.Open c x) sound = begin_raises b 1 c x (record { serving = Some x; attempt = None }) (Pending c) (omega arith) (record_of b c) (is_traffic b.site x) (in_way b x)
row_raises b (event.Clear c) sound = clear_row_raises b c (record_of b c)
row_raises b (event.Look c) sound = look_raises b (record_of b c)
row_raises b (event.Take c k x) sound = take_raises b c k x (record_of b c) (is_traffic b.site x)
row_raises b (event.Reserve c n) sound = reserve_raises b c n (record_of b c) refl
row_raises b (event.Activate c) sound = activate_raises b c sound (record_of b c) refl
row_raises b (event.Undo c why) sound = lowers_raises b (row b (event.Undo c why)) (undo_event_lowers b c why)
row_raises b (event.Confirm x) sound = confirm_raises b x (state_of b x) refl
row_raises b (event.Refuse x) sound = refuse_raises b x (state_of b x) refl
row_raises b (event.Released x) sound = lowers_raises b (row b (event.Released x)) (released_lowers b x (state_of b x) refl)
row_raises b (event.Command c) sound = command_raises b c (record_of b c) refl
row_raises b (event.Complete c) sound = complete_raises b c (record_of b c) refl
row_raises b (event.Detect x) sound = detect_raises b x (state_of b x)
row_raises b (event.Owner x) sound = owner_raises b x (owner (state_of b x))
row_raises b (event.Require c) sound = require_row_raises b c (record_of b c)
row_raises b (event.Order c) sound = order_raises b c (record_of b c) refl
row_raises b (event.Left c) sound = left_raises b c (record_of b c) refl

pub refused_events_change_nothing : RefusedEventsChangeNothing
refused_events_change_nothing b e sound refused = kept b (most_raised e) (row b e) (row_raises b e sound) refused

pub steps_raise : StepsRaise
steps_raise b e sound = raised b (most_raised e) (row b e) (row_raises b e sound)

row_lowers : (b : State) (e : Event) → IsTrue (is_owed e) → Lowers b (row b e)
row_lowers b (event.Undo c why) owes = undo_event_lowers b c why
row_lowers b (event.Released x) owes = released_lowers b x (state_of b x) refl
row_lowers b (event.Open c x) owes = cc
row_lowers b (event.Clear c) owes = cc
row_lowers b (event.Look c) owes = cc
row_lowers b (event.Take c k x) owes = cc
row_lowers b (event.Reserve c n) owes = cc
row_lowers b (event.Activate c) owes = cc
row_lowers b (event.Command c) owes = cc
row_lowers b (event.Complete c) owes = cc
row_lowers b (event.Confirm x) owes = cc
row_lowers b (event.Refuse x) owes = cc
row_lowers b (event.Detect x) owes = cc
row_lowers b (event.Owner x) owes = cc
row_lowers b (event.Require c) owes = cc
row_lowers b (event.Order c) owes = cc
row_lowers b (event.Left c) owes = cc

pub owed_events_lower : OwedEventsLower
owed_events_lower b e owes accepted = lowered b (row b e) (row_lowers b e owes) accepted

open_at_most : (r : CallRecord) → open_in r ≤ 1
open_at_most r = by r.attempt
  where
    by : (o : Option Attempt) → cond (is_some o) 1 0 ≤ 1
    by None = omega arith
    by (Some a) = omega arith

pub owed_within : IsOwedWithin
unfolding owed
owed_within b = omega (arith, total-le-len open_in b.calls open_at_most)

pub two_at_most : (e : Event) → most_raised e ≤ 2
two_at_most e = by (is_some (event_facts e).gives) (is_some (event_facts e).opens)
  where
    by : (p q : Bool) → cond p 1 0 + cond q 1 0 ≤ 2
    by true true = omega arith
    by true false = omega arith
    by false true = omega arith
    by false false = omega arith
