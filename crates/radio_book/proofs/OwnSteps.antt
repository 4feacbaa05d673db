-- An attempt that opens adds to the book what it has, and nothing else.
use Rattle.std.proofs.Common.{◌≡◌, inl, inr, ℕ, Bool, true, false, Option, Some, None, ◌==◌, IsTrue, refl, sym, ◌∙◌, ap, subst}
use Rattle.std.specs.Option.{option_map}
use Rattle.std.specs.Cmp.{nat_cmp_total}
use Rattle.std.specs.FinMap as map
use Rattle.std.specs.FinMap.{nat_cmp-IsAntisymmetric}
use Rattle.channel_fsm.specs.declared.ChanId.{ChanId}
use Rattle.channel_fsm.specs.declared.ChanState.{ChanState}
use Rattle.channel_fsm.specs.declared.ChanState.TheVariants.{Free, Held, Pending, On, Off}
use Rattle.attempt_journal.specs.declared.Timer.{Timer}
use Rattle.attempt_journal.specs.declared.Timer.TheVariants.{T7}
use Rattle.radio_tables.specs.declared.kinds.AttemptKind.{AttemptKind}
use Rattle.radio_tables.specs.declared.kinds.AttemptKind.TheVariants.{Internal, Incoming, Outgoing}
use Rattle.radio_book.specs.declared.event.Kind.{Kind}
use Rattle.radio_book.specs.declared.event.Kind.TheVariants as kind
use Rattle.radio_tables.specs.declared.kinds.Stage.TheVariants.{Taken, Required}
use Rattle.radio_tables.specs.declared.kinds.Attempt.{Attempt}
use Rattle.radio_tables.specs.declared.kinds.CallRecord.{CallRecord}
use Rattle.radio_book.specs.declared.event.Event.{Event}
use Rattle.radio_book.specs.declared.event.Event.TheVariants as event
use Rattle.cell_table.specs.Site.{is_traffic}
use Rattle.radio_tables.specs.Maps.{put, with_change}
use Rattle.radio_book.specs.State.{State, apply, or_free, state_of, record_of}
use Rattle.radio_book.specs.Table.{in_way, Outcome, Refuses, Accepts, row, reply_of, reply_to, step, book_after, with_entry, resting_record, taking_change, take_row, begin_row, taken_attempt, require_row}
use Rattle.radio_book.specs.Sound.{IsSound, armed_in}
use Rattle.radio_book.specs.Kinds.{is_accepted}
use Rattle.radio_book.specs.Others.{without_attempt_of, without_attempt_in, IsOpen, AddsTheAttempt, OpeningsAddTheAttempt}
use Rattle.radio_book.proofs.Rows.{take_at, take_from, require_at, require_from}
use Rattle.radio_tables.proofs.KeyFacts.{chan_total, chan_exact}
use Rattle.radio_tables.proofs.MapFacts.{get_put_same, put_put_same, put_again, record_same}
use Rattle.radio_book.proofs.Frame.{attempting, way_free}
use Rattle.radio_book.proofs.SoundParts.{rests}

-- a free channel has no entry
no_entry : (b : State) → IsSound b → (x : ChanId) → state_of b x ≡ Free → map.get b.channels x ≡ None
no_entry b sound x free =
    elim (map.get b.channels x) as (λ o. map.get b.channels x ≡ o → or_free o ≡ Free → o ≡ None) [
      | None ↦ λ is h. refl
      | Some s ↦ λ is h. absurd (sound.not_free x s is h)
    ] refl free

-- the attempt is open, and what differs from the book before is gone with it
record Opened (b : State) (c : ℕ) (target : Option ChanId) (after : State) : Type 0 where
  rest : without_attempt_of c after ≡ b
  still : IsOpen c target None after

abbrev Adds : State → ℕ → Option ChanId → Outcome → Type 0
Adds b c target (Refuses refusal) = Unit {0}
Adds b c target (Accepts change reply) = Opened b c target (apply change b)

module _ (b : State) (sound : IsSound b) (c : ℕ) where
  -- a timer that isn't armed
  unarmed : map.get b.timers c ≡ None → with_change b.timers (option_map (λ m. (c, None)) (map.get b.timers c)) ≡ b.timers
  unarmed absent = ap (λ o. with_change b.timers (option_map (λ (m : Timer). (c, None)) o)) absent

  taken : (x : ChanId) (s : Option ChanId) (k : AttemptKind) (was : Option CallRecord) → record_of b c ≡ was → resting_record k (attempting s k Taken (Some x) None) ≡ was → armed_in was ≡ None → state_of b x ≡ Free →
      Opened b c (Some x) (apply (taking_change c x (attempting s k Taken (Some x) None)) b)
  taken x s k was known rest none free =
      let r = attempting s k Taken (Some x) None in
      let absent = no_entry b sound x free in
      let channels = put_put_same chan_total chan_exact b.channels x (Some (Held c)) None ∙ put_again chan_total chan_exact b.channels x None absent in
      let calls = put_put_same nat_cmp_total nat_cmp-IsAntisymmetric b.calls c (Some r) (resting_record k r) ∙ ap (put b.calls c) rest
      ∙ put_again nat_cmp_total nat_cmp-IsAntisymmetric b.calls c was known in
      let timers = unarmed (sound.timers c ∙ ap armed_in known ∙ none) in
      let still = record_same b.calls c (Some r) in
      record {
        rest = ap (λ o. without_attempt_in c o (apply (taking_change c x r) b)) still
            ∙ (λ i. record { site = b.site; channels = channels i; calls = calls i; references = b.references; timers = timers i });
        still = record { call_record = r; attempt = _; of_call = still; of_record = refl; aims = refl; has = refl };
      }

  required : (y : ChanId) → record_of b c ≡ Some (rests y) → Opened b c None (apply (record { channel = None; call = with_entry c (attempting (Some y) Outgoing Required None None); reference = None; timer = with_entry c T7 }) b)
  required y known =
      let r = attempting (Some y) Outgoing Required None None in
      let calls = put_put_same nat_cmp_total nat_cmp-IsAntisymmetric b.calls c (Some r) (Some (rests y)) ∙ put_again nat_cmp_total nat_cmp-IsAntisymmetric b.calls c (Some (rests y)) known in
      let timers = ap (λ o. with_change (put b.timers c (Some T7)) (option_map (λ (m : Timer). (c, None)) o)) (get_put_same nat_cmp_total b.timers c (Some T7))
      ∙ put_put_same nat_cmp_total nat_cmp-IsAntisymmetric b.timers c (Some T7) None
      ∙ put_again nat_cmp_total nat_cmp-IsAntisymmetric b.timers c None (sound.timers c ∙ ap armed_in known) in
      let still = record_same b.calls c (Some r) in
      record {
        rest = ap (λ o. without_attempt_in c o (apply (record { channel = None; call = with_entry c r; reference = None; timer = with_entry c T7 }) b)) still
            ∙ (λ i. record { site = b.site; channels = b.channels; calls = calls i; references = b.references; timers = timers i });
        still = record { call_record = r; attempt = _; of_call = still; of_record = refl; aims = refl; has = refl };
      }

  -- Take of a call of this controller
  from_adds : (x y : ChanId) (serving : ChanState) (traffic same : Bool) (z : Option ChanId) → record_of b c ≡ Some (rests y) → in_way b x ≡ z → Adds b c (Some x) (take_from c x (rests y) serving traffic same z)
  from_adds x y Free traffic same z known is = tt
  from_adds x y (Held d) traffic same z known is = tt
  from_adds x y (Pending d) traffic same z known is = tt
  from_adds x y Off traffic same z known is = tt
  from_adds x y (On d) false same z known is = tt
  from_adds x y (On d) true true z known is = tt
  from_adds x y (On d) true false None known is = taken x (Some y) Internal (Some (rests y)) known refl refl (way_free b x is)
  from_adds x y (On d) true false (Some z) known is = tt

  internal_adds : (x : ChanId) (s : Option ChanId) (o : Option Attempt) (traffic : Bool) → record_of b c ≡ Some (record { serving = s; attempt = o }) → Adds b c (Some x) (take_at c x (record { serving = s; attempt = o }) o s (state_of b) traffic)
  internal_adds x s (Some a) traffic known = tt
  internal_adds x None None traffic known = tt
  internal_adds x (Some y) None traffic known = from_adds x y (state_of b y) traffic (y.cell == x.cell) (in_way b x) known refl

  -- and of one of another
  incoming_adds : (x : ChanId) (o : Option CallRecord) (traffic : Bool) (z : Option ChanId) → record_of b c ≡ o → in_way b x ≡ z → Adds b c (Some x) (begin_row c x (record { serving = None; attempt = Some (taken_attempt Incoming x) }) (Held c) o traffic z)
  incoming_adds x (Some r) traffic z known is = tt
  incoming_adds x None false z known is = tt
  incoming_adds x None true None known is = taken x None Incoming None known refl refl (way_free b x is)
  incoming_adds x None true (Some z) known is = tt

  take_adds : (k : Kind) (x : ChanId) (o : Option CallRecord) → record_of b c ≡ o → Adds b c (Some x) (take_row c k x o (state_of b) (is_traffic b.site x))
  take_adds kind.Internal x None known = tt
  take_adds kind.Internal x (Some r) known = internal_adds x r.serving r.attempt (is_traffic b.site x) known
  take_adds kind.Incoming x o known = incoming_adds x o (is_traffic b.site x) (in_way b x) known refl

  require_from_adds : (y : ChanId) (z : ChanState) → record_of b c ≡ Some (rests y) → Adds b c None (require_from c (rests y) z)
  require_from_adds y Free known = tt
  require_from_adds y (Held d) known = tt
  require_from_adds y (Pending d) known = tt
  require_from_adds y (On d) known = required y known
  require_from_adds y Off known = tt

  require_at_adds : (s : Option ChanId) (o : Option Attempt) → record_of b c ≡ Some (record { serving = s; attempt = o }) → Adds b c None (require_at c (record { serving = s; attempt = o }) o s (state_of b))
  require_at_adds s (Some a) known = tt
  require_at_adds None None known = tt
  require_at_adds (Some y) None known = require_from_adds y (state_of b y) known

  require_adds : (o : Option CallRecord) → record_of b c ≡ o → Adds b c None (require_row c o (state_of b))
  require_adds None known = tt
  require_adds (Some r) known = require_at_adds r.serving r.attempt known

  -- an opening that is accepted
  accepted_adds : (target : Option ChanId) (o : Outcome) → Adds b c target o → IsTrue (is_accepted (reply_of o)) → Opened b c target (book_after o b)
  accepted_adds target (Refuses refusal) adds accepted = cc
  accepted_adds target (Accepts change reply) adds accepted = adds

  opened : (target : Option ChanId) (e : Event) → Opened b c target (step b e) → AddsTheAttempt c target b e
  opened target e is = record { rest = is.rest; opened = is.still }

pub openings_add_the_attempt : OpeningsAddTheAttempt
openings_add_the_attempt e c target b sound (inl (k, x, is, aims)) accepted =
    subst (λ target. AddsTheAttempt c target b e) (sym aims)
    (subst (λ e. IsTrue (is_accepted (reply_to b e)) → AddsTheAttempt c (Some x) b e) (sym is)
    (λ accepted. opened b sound c (Some x) (event.Take c k x) (accepted_adds b sound c (Some x) (row b (event.Take c k x)) (take_adds b sound c k x (record_of b c) refl) accepted)) accepted)
openings_add_the_attempt e c target b sound (inr (is, none)) accepted =
    subst (λ target. AddsTheAttempt c target b e) (sym none)
    (subst (λ e. IsTrue (is_accepted (reply_to b e)) → AddsTheAttempt c None b e) (sym is)
    (λ accepted. opened b sound c None (event.Require c) (accepted_adds b sound c None (row b (event.Require c)) (require_adds b sound c (record_of b c) refl) accepted)) accepted)
