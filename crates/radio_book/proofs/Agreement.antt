-- What a taking away hides of a book, and rows that read the same without it.
use Rattle.std.proofs.Common.{◌≡◌, ◌≢◌, ◌⊎◌, ℕ, true, Option, Some, None, refl, sym, ◌∙◌, ap, subst, inl, inr}
use Rattle.std.proofs.lemmas.Bool.{cases_Bool}
use Rattle.std.specs.Option.{option_map}
use Rattle.std.specs.FinMap as map
use Rattle.channel_fsm.specs.declared.ChanId.{ChanId}
use Rattle.channel_fsm.specs.declared.ChanState.{ChanState}
use Rattle.channel_fsm.specs.declared.ChanState.TheVariants.{Free, Held, Pending, On, Off}
use Rattle.channel_fsm.specs.Slots.{is_used}
use Rattle.channel_fsm.proofs.WayFacts.{not_used, chan_cases, way_same, way_used, way_without}
use Rattle.radio_tables.specs.Maps.{Entry}
use Rattle.radio_tables.specs.declared.kinds.Attempt.{Attempt}
use Rattle.radio_tables.specs.declared.kinds.CallRecord.{CallRecord}
use Rattle.dense_tables.specs.declared.references.Reference.{Reference}
use Rattle.radio_book.specs.declared.event.Event.{Event}
use Rattle.radio_book.specs.declared.facts.About.{About}
use Rattle.radio_book.specs.declared.facts.About.TheVariants.{Call, Channel}
use Rattle.radio_book.specs.Facts.{event_facts}
use Rattle.radio_book.specs.declared.event.Refusal.{Refusal}
use Rattle.radio_book.specs.declared.event.Refusal.TheVariants.{ChannelBusy, RefBusy, Unexpected}
use Rattle.radio_book.specs.declared.event.Reply.{Reply}
use Rattle.radio_book.specs.declared.event.Reply.TheVariants.{Refused}
use Rattle.radio_book.specs.State.{State, Change, apply, state_of, record_of}
use Rattle.radio_book.specs.Table.{in_way, owner, detect_by, Outcome, Refuses, Accepts, row, book_after, reply_of, reply_to}
use Rattle.radio_book.specs.Sound.{IsSound}
use Rattle.radio_book.specs.Others.{Commutes}
use Rattle.radio_book.proofs.Frame.{aimed_is_owned, way_free}
use Rattle.radio_book.proofs.Changes.{Misses, ChangesApart, apply_swap, state_kept}

-- the change of an accepted event names other entries
abbrev pub Avoids : Outcome → Change → Type 0
Avoids (Refuses refusal) removal = Unit {0}
Avoids (Accepts change reply) removal = ChangesApart change removal

-- one outcome from the whole book and from what is left of it, which keeps away from what is gone
pub record Agrees (removal : Change) (whole left : Outcome) : Type 0 where
  pub same : left ≡ whole
  pub away : Avoids whole removal

abbrev pub AgreesAt : Change → State → Event → Type 0
AgreesAt removal b e = Agrees removal (row b e) (row (apply removal b) e)

pub agrees_commute : (removal : Change) (b : State) (e : Event) → AgreesAt removal b e → Commutes removal b e
agrees_commute removal b e agrees = record {
  book = over (row b e) agrees.away ∙ ap (λ o. book_after o (apply removal b)) (sym agrees.same);
  reply = ap reply_of agrees.same;
}
  where
    over : (o : Outcome) → Avoids o removal → apply removal (book_after o b) ≡ book_after o (apply removal b)
    over (Refuses refusal) away = refl
    over (Accepts change reply) away = apply_swap change removal b away

pub refused : (removal : Change) (refusal : Refusal) → Agrees removal (Refuses refusal) (Refuses refusal)
refused removal refusal = record { same = refl; away = tt }

-- what is left reads the same, one thing after another
pub as_read : {removal : Change} {whole left read : Outcome} → read ≡ left → Agrees removal whole left → Agrees removal whole read
as_read e agrees = record { same = e ∙ agrees.same; away = agrees.away }

-- What is gone are entries in use, and none that the other calls use. The other calls are those that the taking away doesn't name.
pub record Hides (removal : Change) (b : State) : Type 0 where
  pub free_channel : (x : ChanId) → state_of b x ≡ Free → Misses removal.channel x
  pub others_channel : (x : ChanId) (d : ℕ) → owner (state_of b x) ≡ Some d → Misses removal.call d → Misses removal.channel x
  -- another channel that waits for its station is not of the calls that the taking away names
  pub others_pending : (x : ChanId) (d : ℕ) → state_of b x ≡ Pending d → Misses removal.channel x → Misses removal.call d
  -- nor is another channel that is on, unless those calls don't move to it, before or after
  pub others_on :
      (x : ChanId) (d : ℕ) → state_of b x ≡ On d → Misses removal.channel x →
      Misses removal.call d ⊎ ((detect_by x d (record_of b d) ≡ Refuses (Unexpected x)) × (detect_by x d (record_of (apply removal b) d) ≡ Refuses (Unexpected x)))
  pub free_reference : (k : Reference) → map.get b.references k ≡ None → Misses removal.reference k
  pub others_reference : (k : Reference) (d : ℕ) → map.get b.references k ≡ Some d → Misses removal.call d → Misses removal.reference k
  pub others_timer : (d : ℕ) → Misses removal.call d → Misses removal.timer d

-- what an event is about isn't gone
abbrev pub IsAboutOther : Change → About → Type 0
IsAboutOther removal (Call d) = Misses removal.call d
IsAboutOther removal (Channel y) = Misses removal.channel y

-- the event is by another call, or a station's on another channel
abbrev pub IsOfOther : Change → Event → Type 0
IsOfOther removal e = IsAboutOther removal (event_facts e).about

-- the reply refuses for no channel and no reference that is gone
pub record IsNotHeld (removal : Change) (reply : Reply) : Type 0 where
  pub channel : (x : ChanId) → reply ≡ Refused (ChannelBusy x) → Misses removal.channel x
  pub reference : (k : Reference) → reply ≡ Refused (RefBusy k.cell k.number) → Misses removal.reference k

-- the row of an event agrees, whatever is gone of a sound book
abbrev pub AgreesWithOthers : Event → Type 0
AgreesWithOthers e = (removal : Change) (b : State) → IsSound b → Hides removal b → IsOfOther removal e → IsNotHeld removal (reply_to b e) → AgreesAt removal b e

-- what is in the way of a channel is so without what is gone, unless that was in the way
module _ (removal : Change) (b : State) (hides : Hides removal b) (y : ChanId) where
  way_by : (p : Option (Entry ChanId ChanState)) → removal.channel ≡ p → ((w : ChanId) → in_way b y ≡ Some w → Misses removal.channel w) → in_way (apply removal b) y ≡ in_way b y
  way_by None none not_it = way_same (state_of (apply removal b)) (state_of b) y (λ s. state_kept removal b (record y { sub = s }) (subst (λ p. Misses p (record y { sub = s })) (sym none) (λ touched. touched)))
  way_by (Some (z, v)) is not_it =
      let other : (x : ChanId) → x ≢ z → state_of (apply removal b) x ≡ state_of b x = λ x apart. state_kept removal b x (subst (λ p. Misses p x) (sym is) apart) in
      let touched : Misses removal.channel z → ⊥ = λ missed. subst (λ p. Misses p z) is missed refl in
      let used : is_used (state_of b z) ≡ true = by_used (state_of b z) refl (λ free. touched (hides.free_channel z free)) in
      elim (cases_Bool (is_used (state_of (apply removal b) z))) [
        | inl still ↦ way_used (state_of (apply removal b)) (state_of b) y (λ s. elim (chan_cases (record y { sub = s }) z) [
          | inl it ↦ ap (λ x. is_used (state_of (apply removal b) x)) it ∙ still ∙ sym used ∙ ap (λ x. is_used (state_of b x)) (sym it)
          | inr apart ↦ ap is_used (other (record y { sub = s }) apart)
        ])
        | inr gone ↦ sym (way_without (state_of b) (state_of (apply removal b)) y z (λ x apart. sym (other x apart)) (not_used (state_of (apply removal b) z) gone) (λ e. touched (not_it z e)))
      ]
    where
      by_used : (s : ChanState) → state_of b z ≡ s → (state_of b z ≡ Free → ⊥) → is_used s ≡ true
      by_used Free is busy = absurd (busy is)
      by_used (Held c) is busy = refl
      by_used (Pending c) is busy = refl
      by_used (On c) is busy = refl
      by_used Off is busy = refl

  pub way_kept : ((w : ChanId) → in_way b y ≡ Some w → Misses removal.channel w) → in_way (apply removal b) y ≡ in_way b y
  way_kept not_it = way_by removal.channel refl not_it

  -- a row that requires that nothing is in the way of a channel: the channel is none that is gone, or a refusal comes from it
  pub requires_free :
      (f : Option ChanId → Outcome) → ((w : ChanId) → f (Some w) ≡ Refuses (ChannelBusy w)) → (Misses removal.channel y → Avoids (f None) removal) →
      ((w : ChanId) → reply_of (f (in_way b y)) ≡ Refused (ChannelBusy w) → Misses removal.channel w) →
      Agrees removal (f (in_way b y)) (f (in_way (apply removal b) y))
  requires_free f busy away not_held =
      let not_it : (w : ChanId) → in_way b y ≡ Some w → Misses removal.channel w = λ w e. not_held w (ap (λ o. reply_of (f o)) e ∙ ap reply_of (busy w)) in
      record { same = ap f (way_kept not_it); away = avoided (in_way b y) refl }
    where
      avoided : (o : Option ChanId) → in_way b y ≡ o → Avoids (f o) removal
      avoided None none = away (hides.free_channel y (way_free b y none))
      avoided (Some w) e = subst (λ o. Avoids o removal) (sym (busy w)) tt

-- of channels that aren't gone the states read the same
pub states_kept : {X : Type 0} (removal : Change) (b : State) (f : ChanId → ChanState → X) (o : Option ChanId) → ((x : ChanId) → o ≡ Some x → Misses removal.channel x) →
    option_map (λ x. f x (state_of (apply removal b) x)) o ≡ option_map (λ x. f x (state_of b x)) o
states_kept removal b f None misses = refl
states_kept removal b f (Some x) misses = ap (λ s. Some (f x s)) (state_kept removal b x (misses x refl))

module _ (removal : Change) (b : State) (sound : IsSound b) (hides : Hides removal b) (d : ℕ) (other : Misses removal.call d) (r : CallRecord) (is : record_of b d ≡ Some r) where
  -- the channels of another call aren't gone
  pub serving_missed : (x : ChanId) → r.serving ≡ Some x → Misses removal.channel x
  serving_missed x serves = hides.others_channel x d (sound.serving_is_owned d r x is serves) other

  pub target_missed : (a : Attempt) → r.attempt ≡ Some a → (x : ChanId) → a.target ≡ Some x → Misses removal.channel x
  target_missed a has x aims = hides.others_channel x d (aimed_is_owned b sound d r a x is has aims) other
