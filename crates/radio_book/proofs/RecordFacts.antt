-- What a sound book says of the channels that an event reads.
use Rattle.std.proofs.Common.{◌≡◌, ◌==◌, ◌<◌, ℕ, true, false, if◌then◌else◌, [], length, slice_get, unwrap_or, option_and_then, Option, Some, None, is_some, Result, Ok, Err, OnOk, OnErr, refl, sym, ap, ◌∙◌, subst}
use Rattle.std.proofs.lemmas.Bool.{eq-eqb, false≢true}
use Rattle.std.specs.Option.{option_map}
use Rattle.std.specs.List.{list_any}
use Rattle.std.proofs.lemmas.Option.{slice_get_within}
use Rattle.std.specs.FinMap as map
use Rattle.channel_fsm.specs.declared.ChanId.{ChanId}
use Rattle.channel_fsm.specs.declared.ChanState.{ChanState}
use Rattle.channel_fsm.specs.declared.ChanState.TheVariants.{Held, Pending}
use Rattle.radio_tables.specs.declared.kinds.Stage.{Stage}
use Rattle.radio_tables.specs.declared.kinds.Attempt.{Attempt}
use Rattle.radio_tables.specs.declared.kinds.CallRecord.{CallRecord}
use Rattle.radio_book.specs.declared.event.Event.{Event}
use Rattle.radio_book.specs.declared.event.Event.TheVariants.{Take, Reserve}
use Rattle.radio_book.specs.declared.event.Kind.{Kind}
use Rattle.radio_book.specs.declared.event.Kind.TheVariants.{Internal, Incoming}
use Rattle.radio_book.specs.declared.event.Refusal.TheVariants.{ChannelBusy}
use Rattle.cell_table.specs.Site.{SiteView, slots_with, is_traffic}
use Rattle.channel_fsm.specs.declared.ChanEvent.TheVariants.{Send}
use Rattle.radio_book.specs.Channels.{entry_of, channel_step}
use Rattle.radio_book.specs.State.{State, or_free, state_of, record_of}
use Rattle.radio_book.specs.Sound.{IsSound, HasTarget, armed_in}
use Rattle.radio_book.specs.Table.{Refuses, MayBeRefused, in_way, step, begin_row, with_entry}
use Rattle.radio_tables.specs.Stages.{stage_row, sent_inverses, opening_inverse}
use Rattle.radio_book.specs.Journal.{journal_of, or_zero, or_origin}
use Rattle.radio_book.proofs.Frame.{aimed_is_owned, way_free}
use Rattle.radio_book.proofs.SoundParts.{owned_traffic}
use Rattle.radio_book.proofs.SoundSteps.{sent_stage, sound_step}

-- a held channel of a call that asks for it
pub sent : (x : ChanId) (c : ℕ) → channel_step x (Send c) (Held c) ≡ with_entry x (Pending c)
sent x c = ap (λ same. option_map (λ after. (x, entry_of after)) (if same then Some (Pending c) else None)) (eq-eqb c c refl)

-- a traffic channel lies in an own cell
traffic_cell : (site : SiteView) (x : ChanId) → is_traffic site x ≡ true → x.cell < length site.cells
traffic_cell site x traffic =
    elim (slice_get site.cells x.cell) as (λ o. slice_get site.cells x.cell ≡ o → x.cell < length site.cells) [
      | None ↦ λ is.
          let none : is_traffic site x ≡ false = ap (λ o. list_any (λ tn. tn == x.tn) (unwrap_or (option_map (slots_with x.sub) (option_and_then (λ found. slice_get found.trx x.trx) o)) [])) is in
          cc
      | Some found ↦ λ is. slice_get_within site.cells x.cell found is
    ] refl

-- and so does the target of an attempt
pub target_cell : (b : State) → IsSound b → (c : ℕ) (r : CallRecord) (a : Attempt) (t : ChanId) →
    record_of b c ≡ Some r → r.attempt ≡ Some a → a.target ≡ Some t → t.cell < length b.site.cells
target_cell b sound c r a t known opened aims =
    traffic_cell b.site t (owned_traffic b sound t c (aimed_is_owned b sound c r a t known opened aims))

no_record : (o : Option CallRecord) → is_some o ≡ false → o ≡ None
no_record None h = refl
no_record (Some r) h = cc

pub begin_is_busy : (b : State) (c : ℕ) (x : ChanId) (r : CallRecord) (v : ChanState) (y : ChanId) → is_some (record_of b c) ≡ false → is_traffic b.site x ≡ true → in_way b x ≡ Some y → begin_row c x r v (record_of b c) (is_traffic b.site x) (in_way b x) ≡ Refuses (ChannelBusy y)
begin_is_busy b c x r v y new traffic busy =
    ap (λ o. begin_row c x r v o (is_traffic b.site x) (in_way b x)) (no_record (record_of b c) new)
    ∙ ap (λ t. begin_row c x r v None t (in_way b x)) traffic ∙ ap (λ w. begin_row c x r v None true w) busy

-- in whose way nothing is has no entry
pub no_entry : (b : State) (x : ChanId) → IsSound b → in_way b x ≡ None → map.get b.channels x ≡ None
no_entry b x sound none = by (map.get b.channels x) refl
  where
    by : (o : Option ChanState) → map.get b.channels x ≡ o → o ≡ None
    by None e = refl
    by (Some s) e = absurd (sound.not_free x s e (sym (ap or_free e) ∙ way_free b x none))

-- no timer is armed for a call that isn't there
pub unarmed : (b : State) (c : ℕ) → IsSound b → record_of b c ≡ None → map.get b.timers c ≡ None
unarmed b c sound none = sound.timers c ∙ ap armed_in none

-- an attempt of the call that has the channel as its target keeps its inverses at the stage
abbrev pub MayMove : ℕ → ChanId → Stage → State → Type 0
MayMove c x s b =
    (r : CallRecord) (a : Attempt) → record_of b c ≡ Some r → r.attempt ≡ Some a → a.target ≡ Some x →
    journal_of (Some (record a { stage = s })) ≡ journal_of (Some a)

-- the inverses stay where a target that was asked for is answered
pub pending_moves : (b : State) (c : ℕ) (x : ChanId) (s : Stage) → IsSound b → map.get b.channels x ≡ Some (Pending c) → (stage_row s).inverses ≡ sent_inverses → MayMove c x s b
pending_moves b c x s sound pending same r a known opened aims =
    let is = subst (λ o. HasTarget c (stage_row a.stage).target o (state_of b)) aims (sound.target_by_stage c r a known opened) in
    let sent = sent_stage c (state_of b) x a.stage is (ap or_free pending) in
    ap (λ f. f (opening_inverse a.kind) (or_origin a.target) (or_zero a.reference)) same
    ∙ sym (ap (λ g. (stage_row g).inverses (opening_inverse a.kind) (or_origin a.target) (or_zero a.reference)) sent)

-- a book is sound after a step, whether or not memory was refused
pub stepped_sound : {T E : Type 0} (r : Result T E) (b n : State) (e : Event) → IsSound b → OnOk r (n ≡ step b e) → OnErr r (n ≡ b) → IsSound n
stepped_sound (Ok x) b n e sound stepped same = subst IsSound (sym stepped) (sound_step b e sound)
stepped_sound (Err f) b n e sound stepped same = subst IsSound (sym same) sound

-- where no change in place is refused memory, a Take that is refused it begins a call
pub begins_call : (c : ℕ) (kind : Kind) (x : ChanId) → MayBeRefused false (Take c kind x) → kind ≡ Incoming
begins_call c Internal x refused = absurd (false≢true refused)
begins_call c Incoming x refused = refl

-- and no Reserve is refused it
pub never_reserve : (c n : ℕ) → MayBeRefused false (Reserve c n) → ⊥
never_reserve c n refused = false≢true refused
