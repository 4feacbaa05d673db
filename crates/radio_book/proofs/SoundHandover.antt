-- The steps of a handover that follow the activation of its target, and those towards another controller, keep a book sound.
use Rattle.std.proofs.Common.{◌≡◌, ◌≢◌, inl, inr, ℕ, Bool, true, false, Option, Some, None, refl, sym, ◌∙◌, ap}
use Rattle.std.specs.Option.{option_map}
use Rattle.std.specs.FinMap as map
use Rattle.std.specs.Cmp.{nat_cmp_total}
use Rattle.channel_fsm.specs.declared.ChanId.{ChanId}
use Rattle.channel_fsm.specs.declared.ChanState.{ChanState}
use Rattle.channel_fsm.specs.declared.ChanState.TheVariants.{Free, Held, Pending, On, Off}
use Rattle.attempt_journal.specs.declared.Timer.{Timer}
use Rattle.attempt_journal.specs.declared.Timer.TheVariants.{T3103, T7, T8}
use Rattle.radio_tables.specs.declared.kinds.AttemptKind.{AttemptKind}
use Rattle.radio_tables.specs.declared.kinds.AttemptKind.TheVariants.{Outgoing}
use Rattle.radio_tables.specs.declared.kinds.Stage.{Stage}
use Rattle.radio_tables.specs.declared.kinds.Stage.TheVariants.{Taken, Reserved, Sent, Refused, Confirmed, Commanded, Detected, Required, Ordered}
use Rattle.radio_tables.specs.declared.kinds.Attempt.{Attempt}
use Rattle.radio_tables.specs.declared.kinds.CallRecord.{CallRecord}
use Rattle.dense_tables.specs.declared.references.Reference.{Reference}
use Rattle.radio_book.specs.declared.event.Event.TheVariants as event
use Rattle.radio_book.specs.declared.event.Refusal.TheVariants.{Unexpected}
use Rattle.radio_tables.specs.Maps.{Entry, with_change}
use Rattle.radio_book.specs.State.{State, apply, or_free, state_of, record_of}
use Rattle.radio_book.specs.Table.{owner, step, book_after, with_entry, without_entry, reference_held, command_row, complete_change, complete_row, require_row, order_row, left_row, detect_row, detect_by, owner_row, is_target, needs}
use Rattle.radio_book.specs.Sound.{IsSound, HasTarget, armed_in}
use Rattle.radio_book.proofs.Rows.{command_by, command_at, complete_by, complete_at, require_at, require_from, order_by, order_at, left_by, left_at, detect_of, detect_at}
use Rattle.radio_tables.proofs.KeyFacts.{chan_total, chan_exact}
use Rattle.radio_tables.proofs.MapFacts.{get_put_same, record_same}
use Rattle.radio_book.proofs.Frame.{same_some, at_some, call_of, resting_call, attempting, attempt_of, attempting_call, aimed_is_owned, serving_is_on, get_untouched, concerned_sound}
use Rattle.radio_book.proofs.SoundParts.{one_owner, owned_not_free, owned_traffic, rests, at_option, touched_at, other_than, restaged}

-- Command

armed_timer : (b : State) (c : ℕ) (m : Timer) → map.get (with_change b.timers (with_entry c m)) c ≡ Some m
armed_timer b c m = get_put_same nat_cmp_total b.timers c (Some m)

commanded : (b : State) → IsSound b → (c : ℕ) (s : Option ChanId) (k : AttemptKind) (o : Option ChanId) (n : Option ℕ) → record_of b c ≡ Some (attempting s k Confirmed o n) →
    IsSound (book_after (command_at c (attempting s k Confirmed o n) (record { kind = k; stage = Confirmed; target = o; reference = n }) Confirmed) b)
commanded b sound c s k o n e =
    let has = attempt_of _ _ c s k Confirmed o n (call_of b sound c _ e) in
    restaged b sound c s k Confirmed o n e Commanded has.state (with_entry c T3103) refl (armed_timer b c T3103)
    (record { stage_of_kind = has.stage_of_kind; reference_by_stage = has.reference_by_stage })

command_sound : (b : State) → IsSound b → (c : ℕ) (s : Option ChanId) (k : AttemptKind) (g : Stage) (o : Option ChanId) (n : Option ℕ) → record_of b c ≡ Some (attempting s k g o n) →
    IsSound (book_after (command_at c (attempting s k g o n) (record { kind = k; stage = g; target = o; reference = n }) g) b)
command_sound b sound c s k Taken o n e = sound
command_sound b sound c s k Reserved o n e = sound
command_sound b sound c s k Sent o n e = sound
command_sound b sound c s k Refused o n e = sound
command_sound b sound c s k Confirmed o n e = commanded b sound c s k o n e
command_sound b sound c s k Commanded o n e = sound
command_sound b sound c s k Detected o n e = sound
command_sound b sound c s k Required o n e = sound
command_sound b sound c s k Ordered o n e = sound

command_by_sound : (b : State) → IsSound b → (c : ℕ) (s : Option ChanId) (o : Option Attempt) → record_of b c ≡ Some (record { serving = s; attempt = o }) → IsSound (book_after (command_by c (record { serving = s; attempt = o }) o) b)
command_by_sound b sound c s None e = sound
command_by_sound b sound c s (Some a) e = command_sound b sound c s a.kind a.stage a.target a.reference e

command_row_sound : (b : State) → IsSound b → (c : ℕ) (o : Option CallRecord) → record_of b c ≡ o → IsSound (book_after (command_row c o) b)
command_row_sound b sound c None e = sound
command_row_sound b sound c (Some r) e = command_by_sound b sound c r.serving r.attempt e

pub sound_command : (b : State) → IsSound b → (c : ℕ) → IsSound (step b (event.Command c))
sound_command b sound c = command_row_sound b sound c (record_of b c) refl

-- Complete: of the call there is left that it is served on its target

completed : (b : State) → IsSound b → (c : ℕ) (s : Option ChanId) (k : AttemptKind) (g : Stage) (t : ChanId) (n : Option ℕ) → record_of b c ≡ Some (attempting s k g (Some t) n) →
    IsSound (apply (complete_change c (attempting s k g (Some t) n) (record { kind = k; stage = g; target = Some t; reference = n })) b)
completed b sound c s k g t n e =
    let has = attempt_of _ _ c s k g (Some t) n (call_of b sound c _ e) in
    let off : ChanId → Entry ChanId ChanState = λ s. (s, Some Off) in
    let drop : Reference → Entry Reference ℕ = λ j. (j, None) in
    let owned : (x : ChanId) → s ≡ Some x → owner (state_of b x) ≡ Some c = λ x serves. ap owner (serving_is_on c (state_of b) k s x has.serving_while_open serves) in
    let target : owner (state_of b t) ≡ Some c = aimed_is_owned b sound c _ _ t e refl refl in
    let stays = get_untouched chan_total chan_exact b.channels (option_map off s) t
    (other_than (λ x. Some Off) s t (λ x serves here. has.cells_differ x t serves refl (ap (λ z. z.cell) (sym here)))) in
    concerned_sound b sound (complete_change c (attempting s k g (Some t) n) (record { kind = k; stage = g; target = Some t; reference = n })) c (Some (attempting s k g (Some t) n)) (Some (rests t)) (record {
      before = e;
      after = record_same b.calls c (Some (rests t));
      call = refl;
      channel_was = at_option off s _ (λ x serves d h. one_owner (state_of b x) c d (owned x serves) h);
      channel_is = at_option off s _ (λ x serves d h. cc);
      entry = at_option off s _ (λ x serves z h. (owned_traffic b sound x c (owned x serves), at_some (λ z. z ≢ Free) Off z (λ i. cc) h, inl (owned_not_free (state_of b x) c (owned x serves))));
      channels = λ y u h. elim h [ inl i ↦ absurd (u (touched_at off s y i)) | inr i ↦ inl i ];
      reference_was = at_option drop (reference_held (Some t) n) _ (λ j h d i. sym (same_some c d (sym (has.reference_is_used j h) ∙ i)));
      reference_is = at_option drop (reference_held (Some t) n) _ (λ j h d i. cc);
      references = λ j u h. absurd (u (touched_at drop (reference_held (Some t) n) j h));
      sound = resting_call _ _ c t (ap (λ o. owner (or_free o)) stays ∙ target);
      timer = refl;
      armed = get_put_same nat_cmp_total b.timers c None;
    })

complete_if_aimed : (b : State) → IsSound b → (c : ℕ) (s : Option ChanId) (k : AttemptKind) (g : Stage) (o : Option ChanId) (n : Option ℕ) → record_of b c ≡ Some (attempting s k g o n) → HasTarget c (Some On) o (state_of b) →
    IsSound (apply (complete_change c (attempting s k g o n) (record { kind = k; stage = g; target = o; reference = n })) b)
complete_if_aimed b sound c s k g None n e has = absurd has
complete_if_aimed b sound c s k g (Some t) n e has = completed b sound c s k g t n e

complete_sound : (b : State) → IsSound b → (c : ℕ) (s : Option ChanId) (k : AttemptKind) (g : Stage) (o : Option ChanId) (n : Option ℕ) → record_of b c ≡ Some (attempting s k g o n) →
    IsSound (book_after (complete_at c (attempting s k g o n) (record { kind = k; stage = g; target = o; reference = n }) g) b)
complete_sound b sound c s k Taken o n e = sound
complete_sound b sound c s k Reserved o n e = sound
complete_sound b sound c s k Sent o n e = sound
complete_sound b sound c s k Refused o n e = sound
complete_sound b sound c s k Confirmed o n e = sound
complete_sound b sound c s k Commanded o n e = complete_if_aimed b sound c s k Commanded o n e (sound.target_by_stage c _ _ e refl)
complete_sound b sound c s k Detected o n e = complete_if_aimed b sound c s k Detected o n e (sound.target_by_stage c _ _ e refl)
complete_sound b sound c s k Required o n e = sound
complete_sound b sound c s k Ordered o n e = sound

complete_by_sound : (b : State) → IsSound b → (c : ℕ) (s : Option ChanId) (o : Option Attempt) → record_of b c ≡ Some (record { serving = s; attempt = o }) → IsSound (book_after (complete_by c (record { serving = s; attempt = o }) o) b)
complete_by_sound b sound c s None e = sound
complete_by_sound b sound c s (Some a) e = complete_sound b sound c s a.kind a.stage a.target a.reference e

complete_row_sound : (b : State) → IsSound b → (c : ℕ) (o : Option CallRecord) → record_of b c ≡ o → IsSound (book_after (complete_row c o) b)
complete_row_sound b sound c None e = sound
complete_row_sound b sound c (Some r) e = complete_by_sound b sound c r.serving r.attempt e

pub sound_complete : (b : State) → IsSound b → (c : ℕ) → IsSound (step b (event.Complete c))
sound_complete b sound c = complete_row_sound b sound c (record_of b c) refl

-- Detect

detected : (b : State) → IsSound b → (c : ℕ) (x : ChanId) (s : Option ChanId) (k : AttemptKind) (o : Option ChanId) (n : Option ℕ) → record_of b c ≡ Some (attempting s k Commanded o n) →
    IsSound (book_after (detect_at x c (attempting s k Commanded o n) (record { kind = k; stage = Commanded; target = o; reference = n }) Commanded) b)
detected b sound c x s k o n e =
    let has = attempt_of _ _ c s k Commanded o n (call_of b sound c _ e) in
    restaged b sound c s k Commanded o n e Detected has.state None tt (sound.timers c ∙ ap armed_in e)
    (record { stage_of_kind = has.stage_of_kind; reference_by_stage = has.reference_by_stage })

detect_sound : (b : State) → IsSound b → (c : ℕ) (x : ChanId) (s : Option ChanId) (k : AttemptKind) (g : Stage) (o : Option ChanId) (n : Option ℕ) → record_of b c ≡ Some (attempting s k g o n) →
    IsSound (book_after (detect_at x c (attempting s k g o n) (record { kind = k; stage = g; target = o; reference = n }) g) b)
detect_sound b sound c x s k Taken o n e = sound
detect_sound b sound c x s k Reserved o n e = sound
detect_sound b sound c x s k Sent o n e = sound
detect_sound b sound c x s k Refused o n e = sound
detect_sound b sound c x s k Confirmed o n e = sound
detect_sound b sound c x s k Commanded o n e = detected b sound c x s k o n e
detect_sound b sound c x s k Detected o n e = sound
detect_sound b sound c x s k Required o n e = sound
detect_sound b sound c x s k Ordered o n e = sound

detect_if_aimed : (b : State) → IsSound b → (c : ℕ) (x : ChanId) (s : Option ChanId) (a : Attempt) (aimed : Bool) → record_of b c ≡ Some (record { serving = s; attempt = Some a }) →
    IsSound (book_after (needs aimed (Unexpected x) (detect_at x c (record { serving = s; attempt = Some a }) a a.stage)) b)
detect_if_aimed b sound c x s a true e = detect_sound b sound c x s a.kind a.stage a.target a.reference e
detect_if_aimed b sound c x s a false e = sound

detect_of_sound : (b : State) → IsSound b → (c : ℕ) (x : ChanId) (s : Option ChanId) (o : Option Attempt) → record_of b c ≡ Some (record { serving = s; attempt = o }) → IsSound (book_after (detect_of x c (record { serving = s; attempt = o }) o) b)
detect_of_sound b sound c x s None e = sound
detect_of_sound b sound c x s (Some a) e = detect_if_aimed b sound c x s a (is_target x a.target) e

detect_by_sound : (b : State) → IsSound b → (c : ℕ) (x : ChanId) (o : Option CallRecord) → record_of b c ≡ o → IsSound (book_after (detect_by x c o) b)
detect_by_sound b sound c x None e = sound
detect_by_sound b sound c x (Some r) e = detect_of_sound b sound c x r.serving r.attempt e

detect_row_sound : (b : State) → IsSound b → (x : ChanId) (z : ChanState) → IsSound (book_after (detect_row x z (record_of b)) b)
detect_row_sound b sound x Free = sound
detect_row_sound b sound x (Held c) = sound
detect_row_sound b sound x (Pending c) = sound
detect_row_sound b sound x (On c) = detect_by_sound b sound c x (record_of b c) refl
detect_row_sound b sound x Off = sound

pub sound_detect : (b : State) → IsSound b → (x : ChanId) → IsSound (step b (event.Detect x))
sound_detect b sound x = detect_row_sound b sound x (state_of b x)

-- Owner

owner_row_sound : (b : State) → IsSound b → (x : ChanId) (o : Option ℕ) → IsSound (book_after (owner_row x o) b)
owner_row_sound b sound x None = sound
owner_row_sound b sound x (Some c) = sound

pub sound_owner : (b : State) → IsSound b → (x : ChanId) → IsSound (step b (event.Owner x))
sound_owner b sound x = owner_row_sound b sound x (owner (state_of b x))

-- Require

required : (b : State) → IsSound b → (c : ℕ) (x : ChanId) → record_of b c ≡ Some (rests x) → state_of b x ≡ On c →
    IsSound (apply (record { channel = None; call = with_entry c (attempting (Some x) Outgoing Required None None); reference = None; timer = with_entry c T7 }) b)
required b sound c x e on =
    concerned_sound b sound (record { channel = None; call = with_entry c (attempting (Some x) Outgoing Required None None); reference = None; timer = with_entry c T7 }) c (Some (rests x)) (Some (attempting (Some x) Outgoing Required None None)) (record {
      before = e;
      after = record_same b.calls c (Some (attempting (Some x) Outgoing Required None None));
      call = refl;
      channel_was = tt;
      channel_is = tt;
      entry = tt;
      channels = λ y u h. elim h [ inl i ↦ inl i | inr i ↦ cc ];
      reference_was = tt;
      reference_is = tt;
      references = λ j u h. cc;
      sound = attempting_call _ _ c (Some x) Outgoing Required None None (record {
        stage_of_kind = tt;
        state = tt;
        cells_differ = λ y z h i. cc;
        serving_while_open = on;
        reference_is_used = λ j h. cc;
        reference_by_stage = refl;
      });
      timer = refl;
      armed = armed_timer b c T7;
    })

require_on_sound : (b : State) → IsSound b → (c : ℕ) (x : ChanId) (z : ChanState) → record_of b c ≡ Some (rests x) → state_of b x ≡ z → IsSound (book_after (require_from c (rests x) z) b)
require_on_sound b sound c x Free e is = sound
require_on_sound b sound c x (Held d) e is = sound
require_on_sound b sound c x (Pending d) e is = sound
require_on_sound b sound c x (On d) e is =
    let own : d ≡ c = one_owner (On d) c d (sym (ap owner is) ∙ sound.serving_is_owned c (rests x) x e refl) refl in
    required b sound c x e (is ∙ ap On own)
require_on_sound b sound c x Off e is = sound

require_at_sound : (b : State) → IsSound b → (c : ℕ) (s : Option ChanId) (o : Option Attempt) → record_of b c ≡ Some (record { serving = s; attempt = o }) → IsSound (book_after (require_at c (record { serving = s; attempt = o }) o s (state_of b)) b)
require_at_sound b sound c s (Some a) e = sound
require_at_sound b sound c None None e = sound
require_at_sound b sound c (Some x) None e = require_on_sound b sound c x (state_of b x) e refl

require_row_sound : (b : State) → IsSound b → (c : ℕ) (o : Option CallRecord) → record_of b c ≡ o → IsSound (book_after (require_row c o (state_of b)) b)
require_row_sound b sound c None e = sound
require_row_sound b sound c (Some r) e = require_at_sound b sound c r.serving r.attempt e

pub sound_require : (b : State) → IsSound b → (c : ℕ) → IsSound (step b (event.Require c))
sound_require b sound c = require_row_sound b sound c (record_of b c) refl

-- Order

ordered : (b : State) → IsSound b → (c : ℕ) (s : Option ChanId) (k : AttemptKind) (o : Option ChanId) (n : Option ℕ) → record_of b c ≡ Some (attempting s k Required o n) →
    IsSound (book_after (order_at c (attempting s k Required o n) (record { kind = k; stage = Required; target = o; reference = n }) Required) b)
ordered b sound c s k o n e =
    let has = attempt_of _ _ c s k Required o n (call_of b sound c _ e) in
    restaged b sound c s k Required o n e Ordered has.state (with_entry c T8) refl (armed_timer b c T8)
    (record { stage_of_kind = has.stage_of_kind; reference_by_stage = has.reference_by_stage })

order_sound : (b : State) → IsSound b → (c : ℕ) (s : Option ChanId) (k : AttemptKind) (g : Stage) (o : Option ChanId) (n : Option ℕ) → record_of b c ≡ Some (attempting s k g o n) →
    IsSound (book_after (order_at c (attempting s k g o n) (record { kind = k; stage = g; target = o; reference = n }) g) b)
order_sound b sound c s k Taken o n e = sound
order_sound b sound c s k Reserved o n e = sound
order_sound b sound c s k Sent o n e = sound
order_sound b sound c s k Refused o n e = sound
order_sound b sound c s k Confirmed o n e = sound
order_sound b sound c s k Commanded o n e = sound
order_sound b sound c s k Detected o n e = sound
order_sound b sound c s k Required o n e = ordered b sound c s k o n e
order_sound b sound c s k Ordered o n e = sound

order_by_sound : (b : State) → IsSound b → (c : ℕ) (s : Option ChanId) (o : Option Attempt) → record_of b c ≡ Some (record { serving = s; attempt = o }) → IsSound (book_after (order_by c (record { serving = s; attempt = o }) o) b)
order_by_sound b sound c s None e = sound
order_by_sound b sound c s (Some a) e = order_sound b sound c s a.kind a.stage a.target a.reference e

order_row_sound : (b : State) → IsSound b → (c : ℕ) (o : Option CallRecord) → record_of b c ≡ o → IsSound (book_after (order_row c o) b)
order_row_sound b sound c None e = sound
order_row_sound b sound c (Some r) e = order_by_sound b sound c r.serving r.attempt e

pub sound_order : (b : State) → IsSound b → (c : ℕ) → IsSound (step b (event.Order c))
sound_order b sound c = order_row_sound b sound c (record_of b c) refl

-- Left: nothing is left of the call but its channel, whose release is awaited

departed : (b : State) → IsSound b → (c : ℕ) (s : Option ChanId) (k : AttemptKind) (n : Option ℕ) → record_of b c ≡ Some (attempting s k Ordered None n) →
    IsSound (apply (record { channel = option_map (λ s. (s, Some Off)) s; call = Some (c, None); reference = None; timer = without_entry c }) b)
departed b sound c s k n e =
    let has = attempt_of _ _ c s k Ordered None n (call_of b sound c _ e) in
    let off : ChanId → Entry ChanId ChanState = λ s. (s, Some Off) in
    let owned : (x : ChanId) → s ≡ Some x → owner (state_of b x) ≡ Some c = λ x serves. ap owner (serving_is_on c (state_of b) k s x has.serving_while_open serves) in
    concerned_sound b sound (record { channel = option_map off s; call = Some (c, None); reference = None; timer = without_entry c }) c (Some (attempting s k Ordered None n)) None (record {
      before = e;
      after = record_same b.calls c None;
      call = refl;
      channel_was = at_option off s _ (λ x serves d h. one_owner (state_of b x) c d (owned x serves) h);
      channel_is = at_option off s _ (λ x serves d h. cc);
      entry = at_option off s _ (λ x serves z h. (owned_traffic b sound x c (owned x serves), at_some (λ z. z ≢ Free) Off z (λ i. cc) h, inl (owned_not_free (state_of b x) c (owned x serves))));
      channels = λ y u h. elim h [ inl i ↦ absurd (u (touched_at off s y i)) | inr i ↦ cc ];
      reference_was = tt;
      reference_is = tt;
      references = λ j u h. cc;
      sound = tt;
      timer = refl;
      armed = get_put_same nat_cmp_total b.timers c None;
    })

left_if_not_aimed : (b : State) → IsSound b → (c : ℕ) (s : Option ChanId) (k : AttemptKind) (o : Option ChanId) (n : Option ℕ) → record_of b c ≡ Some (attempting s k Ordered o n) → HasTarget c None o (state_of b) →
    IsSound (book_after (left_at c (attempting s k Ordered o n) Ordered) b)
left_if_not_aimed b sound c s k None n e has = departed b sound c s k n e
left_if_not_aimed b sound c s k (Some t) n e has = absurd has

left_sound : (b : State) → IsSound b → (c : ℕ) (s : Option ChanId) (k : AttemptKind) (g : Stage) (o : Option ChanId) (n : Option ℕ) → record_of b c ≡ Some (attempting s k g o n) →
    IsSound (book_after (left_at c (attempting s k g o n) g) b)
left_sound b sound c s k Taken o n e = sound
left_sound b sound c s k Reserved o n e = sound
left_sound b sound c s k Sent o n e = sound
left_sound b sound c s k Refused o n e = sound
left_sound b sound c s k Confirmed o n e = sound
left_sound b sound c s k Commanded o n e = sound
left_sound b sound c s k Detected o n e = sound
left_sound b sound c s k Required o n e = sound
left_sound b sound c s k Ordered o n e = left_if_not_aimed b sound c s k o n e (sound.target_by_stage c _ _ e refl)

left_by_sound : (b : State) → IsSound b → (c : ℕ) (s : Option ChanId) (o : Option Attempt) → record_of b c ≡ Some (record { serving = s; attempt = o }) → IsSound (book_after (left_by c (record { serving = s; attempt = o }) o) b)
left_by_sound b sound c s None e = sound
left_by_sound b sound c s (Some a) e = left_sound b sound c s a.kind a.stage a.target a.reference e

left_row_sound : (b : State) → IsSound b → (c : ℕ) (o : Option CallRecord) → record_of b c ≡ o → IsSound (book_after (left_row c o) b)
left_row_sound b sound c None e = sound
left_row_sound b sound c (Some r) e = left_by_sound b sound c r.serving r.attempt e

pub sound_left : (b : State) → IsSound b → (c : ℕ) → IsSound (step b (event.Left c))
sound_left b sound c = left_row_sound b sound c (record_of b c) refl
