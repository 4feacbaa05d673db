-- An attempt that is followed along a list of steps: how far it has come, which steps stay without it, and which of these were
-- refused for what it holds. Ours, of no standard.
use Rattle.std.specs.Prelude.{◌≡◌, ℕ, Bool, true, false, not, ◌&&◌, if◌then◌else◌, List, [], ◌∷◌, ◌++◌, ◌+◌, map, filter, length, Option, Some, None, is_some, is_none}
use Rattle.std.specs.List.{list_any, list_all}
use Rattle.std.specs.Option.{option_to_list}
use Rattle.channel_fsm.specs.declared.ChanId.{ChanId}
use Rattle.radio_tables.specs.declared.kinds.Attempt.{Attempt}
use Rattle.radio_book.specs.declared.event.Event.{Event}
use Rattle.radio_book.specs.declared.event.Reply.{Reply}
use Rattle.radio_book.specs.declared.event.Reply.TheVariants.{Done, Record, Owned, Refused}
use Rattle.radio_book.specs.declared.undone.StepAt.{StepAt}
use Rattle.radio_book.specs.declared.following.Phase.{Phase}
use Rattle.radio_book.specs.declared.following.Phase.TheVariants.{Open, Awaiting, Settled, Completed}
use Rattle.radio_book.specs.declared.following.Followed.{Followed}
use Rattle.radio_book.specs.State.{State}
use Rattle.radio_book.specs.Table.{reference_held}
use Rattle.radio_book.specs.Sound.{IsSound}
use Rattle.radio_tables.specs.Stages.{stage_row}
use Rattle.radio_book.specs.Kinds.{is_accepted, number_of, refusal_of}
use Rattle.radio_book.specs.Undone.{Undone, IsUndoneIn, IsUndoneAttempt, is_by_call, is_on_target, reserves, releases, comes_from}
use Rattle.radio_book.specs.Found.{opened_by, undone_by, ends}

-- WHAT AN UNDO SHOWS

abbrev pub may_be_active : Option Attempt → Bool
may_be_active None = false
may_be_active (Some a) = (stage_row a.stage).may_be_active

-- the record that an undo shows, as it was before, says whether its target is left off: where by its stage it may be active
abbrev pub leaves_off : Reply → Bool
leaves_off Done = false
leaves_off (Record r state) = may_be_active r.attempt
leaves_off (Owned c) = false
leaves_off (Refused why) = false

-- ONE STEP

-- a step stays without the attempt
abbrev pub stays_in : Phase → ℕ → Option ChanId → StepAt → Bool
stays_in (Open number) c target s = not (is_by_call c s) && not (is_on_target target s)
stays_in Awaiting c target s = not (is_on_target target s)
stays_in Settled c target s = true
stays_in Completed c target s = true

abbrev pub stays : Followed → StepAt → Bool
stays p s = stays_in p.phase p.call p.target s

-- a step was refused for what the attempt holds
abbrev pub refused_in : Phase → Option ChanId → StepAt → Bool
refused_in (Open number) target s = comes_from target (reference_held target number) (refusal_of s.reply)
refused_in Awaiting target s = comes_from target None (refusal_of s.reply)
refused_in Settled target s = false
refused_in Completed target s = false

-- a step that stays was
abbrev pub holds : Followed → StepAt → Bool
holds p s = stays p s && refused_in p.phase p.target s

-- the number of the attempt's reference: that of the first step that reserves one
abbrev pub number_with : ℕ → Option ℕ → StepAt → Option ℕ
number_with c None s = if reserves c s then number_of s.event else None
number_with c (Some n) s = Some n

-- how far the attempt has come with the step that ends it
abbrev pub ended_with : StepAt → Phase
ended_with s = if is_some (undone_by s.event) then (if leaves_off s.reply then Awaiting else Settled) else Completed

-- how far it has come after a step
abbrev pub phase_after : Phase → ℕ → Option ChanId → StepAt → Phase
phase_after (Open number) c target s = if ends c s then ended_with s else Open (number_with c number s)
phase_after Awaiting c target s = if releases target s then Settled else Awaiting
phase_after Settled c target s = Settled
phase_after Completed c target s = Completed

abbrev pub after : Followed → StepAt → Followed
after p s = record p { phase = phase_after p.phase p.call p.target s }

-- the attempt that begins
abbrev pub begun : ℕ → Option ChanId → Followed
begun c target = record { call = c; target = target; phase = Open None }

-- MANY STEPS

-- the steps that stay
abbrev pub others_from : Followed → List StepAt → List StepAt
others_from p [] = []
others_from p (s ∷ ss) = if stays p s then s ∷ others_from (after p s) ss else others_from (after p s) ss

-- those of them that were refused for what the attempt holds
abbrev pub held_from : Followed → List StepAt → List StepAt
held_from p [] = []
held_from p (s ∷ ss) = if holds p s then s ∷ held_from (after p s) ss else held_from (after p s) ss

-- the attempt after the last step
abbrev pub at_last : Followed → List StepAt → Followed
at_last p [] = p
at_last p (s ∷ ss) = at_last (after p s) ss

abbrev pub is_over_in : Phase → Bool
is_over_in (Open number) = false
is_over_in Awaiting = false
is_over_in Settled = true
is_over_in Completed = true

abbrev pub is_settled_in : Phase → Bool
is_settled_in (Open number) = false
is_settled_in Awaiting = false
is_settled_in Settled = true
is_settled_in Completed = false

-- the attempt was taken back
abbrev pub is_undone_in : Phase → Bool
is_undone_in (Open number) = false
is_undone_in Awaiting = true
is_undone_in Settled = true
is_undone_in Completed = false

-- no step changes what is said of it any more
abbrev pub is_over : Followed → Bool
is_over p = is_over_in p.phase

-- the attempt is undone in the end, and nothing of it is left
abbrev pub settles : Followed → List StepAt → Bool
settles p ss = is_settled_in (at_last p ss).phase

-- the attempt that opens with a step
abbrev pub opened_in : Option (ℕ × Option ChanId) → Option Followed
opened_in None = None
opened_in (Some o) = Some (begun o.0 o.1)

abbrev pub opening_of : StepAt → Option Followed
opening_of s = if is_accepted s.reply then opened_in (opened_by s.event) else None

-- this attempt was undone among the steps, behind so many others, and its undo says whether its release is awaited
pub record IsShownAt (steps : List StepAt) (at : ℕ) (u : Undone) : Type 0 where
  pub among : IsUndoneIn steps u
  pub place : length u.head ≡ at
  pub shown : u.awaited ≡ leaves_off u.undo.reply

-- ALL ATTEMPTS THAT SETTLE

-- the attempt that opens with a step, where the steps behind it settle it
abbrev pub settling_in : Option Followed → List StepAt → Option Followed
settling_in None ss = None
settling_in (Some p) ss = if settles p ss then Some p else None

abbrev pub settling : StepAt → List StepAt → Option Followed
settling s ss = settling_in (opening_of s) ss

-- how many there are
abbrev pub settling_count : List StepAt → ℕ
settling_count [] = 0
settling_count (s ∷ ss) = (if is_some (settling s ss) then 1 else 0) + settling_count ss

-- the attempts that are followed after a step: those that aren't over, and the one that opens with it
abbrev pub followed_on : List Followed → StepAt → List StepAt → List Followed
followed_on ps s ss = filter (λ p. not (is_over p)) (map (λ p. after p s) ps) ++ option_to_list (settling s ss)

-- a step remains without all of them
abbrev pub remains : List Followed → StepAt → List StepAt → Bool
remains ps s ss = is_none (settling s ss) && list_all (λ p. stays p s) ps

-- one of them holds what it was refused for
abbrev pub is_held_by : List Followed → StepAt → Bool
is_held_by ps s = list_any (λ p. holds p s) ps

abbrev pub remaining_from : List Followed → List StepAt → List StepAt
remaining_from ps [] = []
remaining_from ps (s ∷ ss) = if remains ps s ss then s ∷ remaining_from (followed_on ps s ss) ss else remaining_from (followed_on ps s ss) ss

abbrev pub all_held_from : List Followed → List StepAt → List StepAt
all_held_from ps [] = []
all_held_from ps (s ∷ ss) = if is_held_by ps s then s ∷ all_held_from (followed_on ps s ss) ss else all_held_from (followed_on ps s ss) ss

-- LAWS

-- whether an undo left its target off, the record that it shows says as well as the book behind it
abbrev pub UndosShowTheirTargets : Type 0
UndosShowTheirTargets = (b : State) (es : List Event) (u : Undone) → IsSound b → IsUndoneAttempt b es u → u.awaited ≡ leaves_off u.undo.reply
