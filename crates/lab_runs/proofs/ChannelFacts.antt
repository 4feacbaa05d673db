-- On which timeslots the channels of a sound book lie, and what the entries of a history from a place on gave.
use Rattle.std.proofs.Common.{◌≡◌, ◌<◌, ◌+◌, ◌-◌, ℕ, zero, suc, List, [], ◌∷◌, drop, slice_get, Option, Some, None, IfSome, option_and_then, refl, sym, ap, ◌∙◌, add-one, arith}
use Rattle.std.proofs.lemmas.Option.{same_Some}
use Rattle.std.specs.Option.{option_or}
use Rattle.channel_fsm.specs.declared.ChanId.{ChanId}
use Rattle.cell_table.specs.Site.{TrafficLiesWithin}
use Rattle.radio_tables.specs.declared.kinds.CallRecord.{CallRecord}
use Rattle.radio_tables.specs.declared.kinds.Attempt.{Attempt}
use Rattle.radio_tables.specs.States.{owner}
use Rattle.radio_book.specs.State.{State, state_of, record_of}
use Rattle.radio_book.specs.Sound.{IsSound}
use Rattle.radio_book.proofs.Frame.{aimed_is_owned}
use Rattle.radio_book.proofs.SoundParts.{owned_traffic}
use Rattle.lab_runs.specs.Asked.{Entry, serving_channel, target_channel, taken_by, released_by, released_in}

owned_lies : (b : State) → IsSound b → TrafficLiesWithin b.site → (x : ChanId) (call : ℕ) → owner (state_of b x) ≡ Some call → x.tn < 8
owned_lies b sound within x call owned = (within x (owned_traffic b sound x call owned)).timeslot

pub serving_lies : (b : State) → IsSound b → TrafficLiesWithin b.site → (call : ℕ) → IfSome (serving_channel (record_of b call)) (λ x. x.tn < 8)
serving_lies b sound within call = by_record (record_of b call) refl
  where
    by_serving : (r : CallRecord) → record_of b call ≡ Some r → (o : Option ChanId) → r.serving ≡ o → IfSome o (λ x. x.tn < 8)
    by_serving r known None is = tt
    by_serving r known (Some x) is = owned_lies b sound within x call (sound.serving_is_owned call r x known is)

    by_record : (o : Option CallRecord) → record_of b call ≡ o → IfSome (serving_channel o) (λ x. x.tn < 8)
    by_record None known = tt
    by_record (Some r) known = by_serving r known r.serving refl

pub target_lies : (b : State) → IsSound b → TrafficLiesWithin b.site → (call : ℕ) → IfSome (target_channel (record_of b call)) (λ x. x.tn < 8)
target_lies b sound within call = by_record (record_of b call) refl
  where
    by_serving : (r : CallRecord) → record_of b call ≡ Some r → (o : Option ChanId) → r.serving ≡ o → IfSome o (λ x. x.tn < 8)
    by_serving r known None is = tt
    by_serving r known (Some x) is = owned_lies b sound within x call (sound.serving_is_owned call r x known is)

    by_target : (r : CallRecord) → record_of b call ≡ Some r → (a : Attempt) → r.attempt ≡ Some a → (o : Option ChanId) → a.target ≡ o
        → IfSome (option_or o r.serving) (λ x. x.tn < 8)
    by_target r known a opened None aims = by_serving r known r.serving refl
    by_target r known a opened (Some t) aims = owned_lies b sound within t call (aimed_is_owned b sound call r a t known opened aims)

    by_attempt : (r : CallRecord) → record_of b call ≡ Some r → (o : Option Attempt) → r.attempt ≡ o
        → IfSome (option_or (option_and_then (λ a. a.target) o) r.serving) (λ x. x.tn < 8)
    by_attempt r known None opened = by_serving r known r.serving refl
    by_attempt r known (Some a) opened = by_target r known a opened a.target refl

    by_record : (o : Option CallRecord) → record_of b call ≡ o → IfSome (target_channel o) (λ x. x.tn < 8)
    by_record None known = tt
    by_record (Some r) known = by_attempt r known r.attempt refl

-- what stands from a place on, by what stands there
at_place : {X : Type 0} (xs : List X) (n : ℕ) (x : X) → slice_get xs n ≡ Some x → drop n xs ≡ x ∷ drop (suc n) xs
at_place [] n x at = absurd cc
at_place (y ∷ ys) zero x at = ap (λ z. z ∷ ys) (same_Some y x at)
at_place (y ∷ ys) (suc n) x at = at_place ys n x at

past_all : {X : Type 0} (xs : List X) (n : ℕ) → slice_get xs n ≡ None → drop n xs ≡ drop (suc n) xs
past_all [] zero at = refl
past_all [] (suc n) at = refl
past_all (y ∷ ys) zero at = absurd cc
past_all (y ∷ ys) (suc n) at = past_all ys n at

pub one_at : {X : Type 0} (xs : List X) (n : ℕ) (x : X) → slice_get xs n ≡ Some x → drop n xs ≡ x ∷ drop (n + 1) xs
one_at xs n x at = at_place xs n x at ∙ ap (λ k. x ∷ drop k xs) (sym (add-one n))

pub none_at : {X : Type 0} (xs : List X) (n : ℕ) → slice_get xs n ≡ None → drop n xs ≡ drop (n + 1) xs
none_at xs n at = past_all xs n at ∙ ap (λ k. drop k xs) (sym (add-one n))

-- what is found from a place on is found in all
pub found_behind : (b : State) (call : ℕ) (h : List Entry) (n : ℕ) (x : ChanId) → released_in b call (drop n h) ≡ Some x → released_in b call h ≡ Some x
found_behind b call [] zero x found = found
found_behind b call [] (suc n) x found = found
found_behind b call (e ∷ h) zero x found = found
found_behind b call (e ∷ h) (suc n) x found = ap (λ o. option_or o (released_by b h (taken_by call e))) (found_behind b call h n x found)

or_none : (o : Option ChanId) → o ≡ option_or o None
or_none None = refl
or_none (Some x) = refl

next_place : (place : ℕ) → 0 < place → place - 1 + 1 ≡ place
next_place place some = omega (arith, some)

-- what is found from the place before one on, by what stands there
pub none_before : (b : State) (call : ℕ) (h : List Entry) (place : ℕ) → 0 < place → slice_get h (place - 1) ≡ None
    → released_in b call (drop (place - 1) h) ≡ option_or (released_in b call (drop place h)) None
none_before b call h place some at =
    ap (released_in b call) (none_at h (place - 1) at ∙ ap (λ k. drop k h) (next_place place some)) ∙ or_none (released_in b call (drop place h))

pub one_before : (b : State) (call : ℕ) (h : List Entry) (place : ℕ) (e : Entry) (found : Option ChanId) → 0 < place → slice_get h (place - 1) ≡ Some e
    → found ≡ released_by b (drop place h) (taken_by call e) → released_in b call (drop (place - 1) h) ≡ option_or (released_in b call (drop place h)) found
one_before b call h place e found some at is =
    ap (released_in b call) (one_at h (place - 1) e at ∙ ap (λ k. e ∷ drop k h) (next_place place some)) ∙ ap (option_or (released_in b call (drop place h))) (sym is)
