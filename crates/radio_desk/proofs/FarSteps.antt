-- A step that names neither an attempt's call nor a channel of its target's cell leaves the attempt as it is; so does any step one
-- that is over. And what a step does to an attempt, it does once.
use Rattle.std.proofs.Common.{◌≡◌, ◌⊎◌, inl, inr, ℕ, Bool, true, false, not, ◌&&◌, ◌==◌, if◌then◌else◌, is_some, Option, Some, None, refl, sym, ◌∙◌, ap}
use Rattle.std.proofs.lemmas.Bool.{and_parts, and_left, and_right, ne_eqb, both_ways}
use Rattle.channel_fsm.specs.declared.ChanId.{ChanId}
use Rattle.timeslots.specs.Parts.{sub_number}
use Rattle.radio_book.specs.declared.event.Event.{Event}
use Rattle.radio_book.specs.declared.facts.About.{About}
use Rattle.radio_book.specs.declared.facts.About.TheVariants.{Call, Channel}
use Rattle.radio_book.specs.declared.event.Refusal.{Refusal}
use Rattle.radio_book.specs.declared.event.Refusal.TheVariants.{NoCall, CallExists, WrongPhase, NoChannel, SameCell, ChannelBusy, RefBusy, Unexpected, NotArmed}
use Rattle.radio_book.specs.declared.undone.StepAt.{StepAt}
use Rattle.radio_book.specs.declared.following.Phase.{Phase}
use Rattle.radio_book.specs.declared.following.Phase.TheVariants.{Open, Awaiting, Settled, Completed}
use Rattle.radio_book.specs.declared.following.Followed.{Followed}
use Rattle.radio_book.specs.Table.{reference_held}
use Rattle.radio_book.specs.Facts.{event_facts}
use Rattle.radio_book.specs.Kinds.{call_in, channel_in, call_of, channel_of, released_by, number_of, refusal_of, is_accepted}
use Rattle.radio_book.specs.Found.{ended_by, undone_by, ends}
use Rattle.radio_book.specs.Undone.{is_call, is_channel, is_by_call, is_on_target, releases, reserves, comes_from}
use Rattle.radio_book.specs.Following.{stays, stays_in, holds, refused_in, after, phase_after, ended_with, number_with, leaves_off, is_over, is_over_in}
use Rattle.radio_book.proofs.FactsAgree.{facts_agree}
use Rattle.radio_desk.specs.Followers.{call_row, cell_row, target_row, asked_row, step_row, busy_in, refused_row}

-- WHAT AN EVENT IS ABOUT

-- an event is asked for a call, and is about no channel, or is a station's about a channel
record ByCall (e : Event) (c : ℕ) : Type 0 where
  about : (event_facts e).about ≡ Call c
  ended : (ended_by e ≡ None) ⊎ (ended_by e ≡ Some c)
  released : released_by e ≡ None

record ByStation (e : Event) (x : ChanId) : Type 0 where
  about : (event_facts e).about ≡ Channel x
  ended : ended_by e ≡ None
  released : (released_by e ≡ None) ⊎ (released_by e ≡ Some x)

abbrev Told : Event → Type 0
Told e = ((c : ℕ) × ByCall e c) ⊎ ((x : ChanId) × ByStation e x)

-- one of two is there just where the other is
either : {X : Type 0} (o p q : Option X) → (o ≡ None) ⊎ (o ≡ p) → p ≡ q → (o ≡ None) ⊎ (o ≡ q)
either o p q (inl none) same = inl none
either o p q (inr is) same = inr (is ∙ same)

neither : {X : Type 0} (o p : Option X) → (o ≡ None) ⊎ (o ≡ p) → p ≡ None → o ≡ None
neither o p (inl none) same = none
neither o p (inr is) same = is ∙ same

told : (e : Event) → Told e
told e = by (event_facts e).about refl
  where
    by : (about : About) → (event_facts e).about ≡ about → Told e
    by (Call c) is = inl (
      c,
      record {
        about = is;
        ended = either (ended_by e) (call_of e) (Some c) (facts_agree e).ends (ap call_in is);
        released = neither (released_by e) (channel_of e) (facts_agree e).releases (ap channel_in is);
      },
    )
    by (Channel x) is = inr (
      x,
      record {
        about = is;
        ended = neither (ended_by e) (call_of e) (facts_agree e).ends (ap call_in is);
        released = either (released_by e) (channel_of e) (Some x) (facts_agree e).releases (ap channel_in is);
      },
    )

-- FAR STEPS

-- the step names neither the attempt's call nor its target
pub record IsFar (p : Followed) (s : StepAt) : Type 0 where
  call : is_by_call p.call s ≡ false
  target : is_on_target p.target s ≡ false
  ended : is_call p.call (ended_by s.event) ≡ false
  released : releases p.target s ≡ false

no_channel : (t : Option ChanId) → is_channel t None ≡ false
no_channel None = refl
no_channel (Some x) = refl

other_call : (c d : ℕ) → (call_row c ≡ call_row d → ⊥) → is_call c (Some d) ≡ false
other_call c d apart = ne_eqb d c (λ same. apart (ap call_row (sym same)))

other_channel : (t : Option ChanId) (y : ChanId) → ((x : ChanId) → t ≡ Some x → x.cell ≡ y.cell → ⊥) → is_channel t (Some y) ≡ false
other_channel None y apart = refl
other_channel (Some x) y apart = and_left (y.cell == x.cell) (y.trx == x.trx && (y.tn == x.tn && sub_number y.sub == sub_number x.sub)) (ne_eqb y.cell x.cell (λ same. apart x refl (sym same)))

ended_no : (c d : ℕ) (o : Option ℕ) → is_call c (Some d) ≡ false → (o ≡ None) ⊎ (o ≡ Some d) → is_call c o ≡ false
ended_no c d o other (inl none) = ap (is_call c) none
ended_no c d o other (inr some) = ap (is_call c) some ∙ other

released_no : (t : Option ChanId) (y : ChanId) (o : Option ChanId) → is_channel t (Some y) ≡ false → (o ≡ None) ⊎ (o ≡ Some y) → is_channel t o ≡ false
released_no t y o other (inl none) = ap (is_channel t) none ∙ no_channel t
released_no t y o other (inr some) = ap (is_channel t) some ∙ other

module _ (p : Followed) (s : StepAt) (by_call : call_row p.call ≡ step_row s → ⊥) (by_cell : target_row p ≡ step_row s → ⊥) where
  far_by_call : (c : ℕ) → ByCall s.event c → IsFar p s
  far_by_call c it = record {
    call = ap (λ about. is_call p.call (call_in about)) it.about ∙ other;
    target = ap (λ about. is_channel p.target (channel_in about)) it.about ∙ no_channel p.target;
    ended = ended_no p.call c (ended_by s.event) other it.ended;
    released = ap (is_channel p.target) it.released ∙ no_channel p.target;
  }
    where
      other : is_call p.call (Some c) ≡ false
      other = other_call p.call c (λ same. by_call (same ∙ sym (ap asked_row it.about)))

  far_by_station : (y : ChanId) → ByStation s.event y → IsFar p s
  far_by_station y it = record {
    call = ap (λ about. is_call p.call (call_in about)) it.about;
    target = ap (λ about. is_channel p.target (channel_in about)) it.about ∙ other;
    ended = ap (is_call p.call) it.ended;
    released = released_no p.target y (released_by s.event) other it.released;
  }
    where
      other : is_channel p.target (Some y) ≡ false
      other = other_channel p.target y (λ x is same. by_cell (ap (cell_row p.call) is ∙ same ∙ sym (ap asked_row it.about)))

  by_told : Told s.event → IsFar p s
  by_told (inl it) = far_by_call it.0 it.1
  by_told (inr it) = far_by_station it.0 it.1

  pub is_far : IsFar p s
  is_far = by_told (told s.event)

choice_true : {X : Type 0} (b : Bool) (x y : X) → b ≡ true → (if b then x else y) ≡ x
choice_true true x y is = refl
choice_true false x y is = cc

choice_false : {X : Type 0} (b : Bool) (x y : X) → b ≡ false → (if b then x else y) ≡ y
choice_false true x y is = cc
choice_false false x y is = refl

module _ (p : Followed) (s : StepAt) (far : IsFar p s) where
  stays_by : (phase : Phase) → stays_in phase p.call p.target s ≡ true
  stays_by (Open n) = λ i. (not (far.call i) && not (far.target i))
  stays_by Awaiting = ap not far.target
  stays_by Settled = refl
  stays_by Completed = refl

  pub far_stays : stays p s ≡ true
  far_stays = stays_by p.phase

  same_number : (n : Option ℕ) → number_with p.call n s ≡ n
  same_number None = choice_false (reserves p.call s) (number_of s.event) None (ap (λ q. q && is_some (number_of s.event) && is_accepted s.reply) far.call)
  same_number (Some n) = refl

  same_phase : (phase : Phase) → phase_after phase p.call p.target s ≡ phase
  same_phase (Open n) =
      choice_false (ends p.call s) (ended_with s) (Open (number_with p.call n s)) (ap (λ q. q && is_accepted s.reply) far.ended)
      ∙ ap (λ n. Open n) (same_number n)
  same_phase Awaiting = choice_false (releases p.target s) Settled Awaiting far.released
  same_phase Settled = refl
  same_phase Completed = refl

  pub far_after : after p s ≡ p
  far_after = ap (λ phase. record p { phase = phase }) (same_phase p.phase)

-- A STEP THAT COMES TWICE

-- a step that ends an attempt releases no channel
no_release : (c : ℕ) (t : Option ChanId) (s : StepAt) → ends c s ≡ true → releases t s ≡ false
no_release c t s ends_it = by (told s.event)
  where
    by : Told s.event → releases t s ≡ false
    by (inl it) = ap (is_channel t) it.1.released ∙ no_channel t
    by (inr it) = absurd (both_ways (is_call c (ended_by s.event)) (ap (is_call c) it.1.ended) (and_parts (is_call c (ended_by s.event)) (is_accepted s.reply) ends_it).0)

-- no number
abbrev no_number_yet : Option ℕ
no_number_yet = None

none_both : (q : Bool) → (if q then no_number_yet else no_number_yet) ≡ no_number_yet
none_both true = refl
none_both false = refl

module _ (c : ℕ) (t : Option ChanId) (s : StepAt) where
  abbrev again : Phase → Phase
  again phase = phase_after phase c t s

  abbrev ended_if : Bool → Bool → Phase
  ended_if undone off = if undone then (if off then Awaiting else Settled) else Completed

  ended_again_if : ends c s ≡ true → (undone off : Bool) → again (ended_if undone off) ≡ ended_if undone off
  ended_again_if ends_it true true = choice_false (releases t s) Settled Awaiting (no_release c t s ends_it)
  ended_again_if ends_it true false = refl
  ended_again_if ends_it false off = refl

  ended_again : ends c s ≡ true → again (ended_with s) ≡ ended_with s
  ended_again ends_it = ended_again_if ends_it (is_some (undone_by s.event)) (leaves_off s.reply)

  reserved_again : (q : Bool) (n : Option ℕ) → reserves c s ≡ q → number_of s.event ≡ n → number_with c (if q then n else None) s ≡ (if q then n else None)
  reserved_again true None is named = ap (λ m. if reserves c s then m else None) named ∙ none_both (reserves c s)
  reserved_again true (Some n) is named = refl
  reserved_again false n is named = choice_false (reserves c s) (number_of s.event) None is

  number_again : (n : Option ℕ) → number_with c (number_with c n s) s ≡ number_with c n s
  number_again (Some n) = refl
  number_again None = reserved_again (reserves c s) (number_of s.event) refl refl

  ending_again : (n : Option ℕ) (q : Bool) → ends c s ≡ q → again (if q then ended_with s else Open (number_with c n s)) ≡ (if q then ended_with s else Open (number_with c n s))
  ending_again n true is = ended_again is
  ending_again n false is = choice_false (ends c s) (ended_with s) (Open (number_with c (number_with c n s) s)) is ∙ ap (λ n. Open n) (number_again n)

  releasing_again : (q : Bool) → releases t s ≡ q → again (if q then Settled else Awaiting) ≡ (if q then Settled else Awaiting)
  releasing_again true is = refl
  releasing_again false is = choice_false (releases t s) Settled Awaiting is

  phase_again : (phase : Phase) → again (again phase) ≡ again phase
  phase_again (Open n) = ending_again n (ends c s) refl
  phase_again Awaiting = releasing_again (releases t s) refl
  phase_again Settled = refl
  phase_again Completed = refl

-- a step that comes again leaves the attempt as it is
pub after_again : (p : Followed) (s : StepAt) → after (after p s) s ≡ after p s
after_again p s = ap (λ phase. record p { phase = phase }) (phase_again p.call p.target s p.phase)

-- ATTEMPTS THAT ARE OVER

module _ (c : ℕ) (t : Option ChanId) (s : StepAt) where
  over_stays_in : (phase : Phase) → is_over_in phase ≡ true → stays_in phase c t s ≡ true
  over_stays_in (Open n) over = cc
  over_stays_in Awaiting over = cc
  over_stays_in Settled over = refl
  over_stays_in Completed over = refl

  over_frees_in : (phase : Phase) → is_over_in phase ≡ true → refused_in phase t s ≡ false
  over_frees_in (Open n) over = cc
  over_frees_in Awaiting over = cc
  over_frees_in Settled over = refl
  over_frees_in Completed over = refl

  over_after_in : (phase : Phase) → is_over_in phase ≡ true → phase_after phase c t s ≡ phase
  over_after_in (Open n) over = cc
  over_after_in Awaiting over = cc
  over_after_in Settled over = refl
  over_after_in Completed over = refl

pub over_stays : (p : Followed) (s : StepAt) → is_over p ≡ true → stays p s ≡ true
over_stays p s over = over_stays_in p.call p.target s p.phase over

pub over_frees : (p : Followed) (s : StepAt) → is_over p ≡ true → holds p s ≡ false
over_frees p s over = and_right (stays p s) (refused_in p.phase p.target s) (over_frees_in p.call p.target s p.phase over)

pub over_after : (p : Followed) (s : StepAt) → is_over p ≡ true → after p s ≡ p
over_after p s over = ap (λ phase. record p { phase = phase }) (over_after_in p.call p.target s p.phase over)

-- REFUSALS

other_reference : (t : Option ChanId) (n : Option ℕ) (k m : ℕ) → ((x : ChanId) → t ≡ Some x → Some k ≡ Some x.cell → ⊥) → comes_from t (reference_held t n) (Some (RefBusy k m)) ≡ false
other_reference None n k m far = refl
other_reference (Some x) None k m far = refl
other_reference (Some x) (Some l) k m far = and_left (k == x.cell) (m == l) (ne_eqb k x.cell (λ same. far x refl (ap (λ k. Some k) same)))

free_of : (t : Option ChanId) (n : Option ℕ) (why : Option Refusal) → ((x : ChanId) → t ≡ Some x → busy_in why ≡ Some x.cell → ⊥) → comes_from t (reference_held t n) why ≡ false
free_of t n None far = refl
free_of t n (Some NoCall) far = refl
free_of t n (Some CallExists) far = refl
free_of t n (Some WrongPhase) far = refl
free_of t n (Some NoChannel) far = refl
free_of t n (Some SameCell) far = refl
free_of t n (Some (ChannelBusy y)) far = other_channel t y (λ x is same. far x is (ap (λ k. Some k) (sym same)))
free_of t n (Some (RefBusy k m)) far = other_reference t n k m far
free_of t n (Some (Unexpected x)) far = refl
free_of t n (Some NotArmed) far = refl

-- without a number there is no reference
no_number : (t : Option ChanId) (why : Option Refusal) → comes_from t (reference_held t None) why ≡ comes_from t None why
no_number None why = refl
no_number (Some x) why = refl

free_in : (t : Option ChanId) (s : StepAt) → ((x : ChanId) → t ≡ Some x → refused_row s ≡ Some x.cell → ⊥) → (phase : Phase) → refused_in phase t s ≡ false
free_in t s apart (Open n) = free_of t n (refusal_of s.reply) apart
free_in t s apart Awaiting = sym (no_number t (refusal_of s.reply)) ∙ free_of t None (refusal_of s.reply) apart
free_in t s apart Settled = refl
free_in t s apart Completed = refl

-- a step that was refused for nothing in the target's cell isn't held
pub far_frees : (p : Followed) (s : StepAt) → ((x : ChanId) → p.target ≡ Some x → refused_row s ≡ Some x.cell → ⊥) → holds p s ≡ false
far_frees p s apart = and_right (stays p s) (refused_in p.phase p.target s) (free_in p.target s apart p.phase)
