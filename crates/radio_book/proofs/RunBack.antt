-- What running a call's inverses leads to.
use Rattle.std.proofs.Common.{◌≡◌, ℕ, Bool, true, false, List, [], ◌∷◌, ◌++◌, Option, Some, None, is_some, refl, sym, ap, ◌∙◌}
use Rattle.std.specs.FinMap as map
use Rattle.channel_fsm.specs.declared.ChanState.{ChanState}
use Rattle.radio_tables.specs.declared.kinds.Attempt.{Attempt}
use Rattle.radio_tables.specs.declared.kinds.CallRecord.{CallRecord}
use Rattle.radio_book.specs.declared.event.Event.TheVariants.{Undo}
use Rattle.radio_book.specs.declared.event.Refusal.{Refusal}
use Rattle.radio_book.specs.declared.event.Refusal.TheVariants.{WrongPhase, NotArmed}
use Rattle.radio_book.specs.declared.event.Reply.TheVariants.{Record}
use Rattle.radio_book.specs.declared.event.Why.{Why}
use Rattle.radio_book.specs.declared.event.Why.TheVariants.{Asked, Expired}
use Rattle.attempt_journal.specs.declared.Inverse.{Inverse}
use Rattle.radio_book.specs.State.{State, state_of, record_of}
use Rattle.radio_book.specs.Sound.{IsSound}
use Rattle.radio_book.specs.Table.{step, reply_to, reply_of, book_after, undo_attempt, undo_row, is_armed, needs}
use Rattle.radio_book.specs.Journal.{run_inverse, run_back, journal_of}
use Rattle.radio_book.proofs.Inverses.{inverses_undo}

-- the inverse that was pushed last runs first
pub runs_last_first : (c : ℕ) (before : List Inverse) (last : Inverse) (b : State) → run_back c (before ++ last ∷ []) b ≡ run_back c before (run_inverse c last b)
runs_last_first c [] last b = refl
runs_last_first c (first ∷ rest) last b = ap (run_inverse c first) (runs_last_first c rest last b)

-- where an attempt is open, they are its undo
pub taken_back : (c : ℕ) (r : CallRecord) (refusal : Refusal) (b : State) → IsSound b → record_of b c ≡ Some r → is_some r.attempt ≡ true →
    run_back c (journal_of r.attempt) b ≡ book_after (undo_attempt c refusal r r.attempt (state_of b) (map.get b.timers c)) b
taken_back c r refusal b sound known opened =
    elim r.attempt as (λ o. r.attempt ≡ o → is_some o ≡ true → run_back c (journal_of o) b ≡ book_after (undo_attempt c refusal r o (state_of b) (map.get b.timers c)) b) [
      | None ↦ λ is h. cc
      | Some a ↦ λ is h. ap (λ o. run_back c (journal_of o) b) (sym is) ∙ inverses_undo c r a b sound known is
    ] refl opened

-- An undo that is answered with a record leads where the inverses of that record's attempt lead: by the attempt,
attempt_undone : (c : ℕ) (r : CallRecord) (refusal : Refusal) (o : Option Attempt) (shown : CallRecord) (s : Option ChanState) (b : State) →
    IsSound b → record_of b c ≡ Some r → r.attempt ≡ o →
    reply_of (undo_attempt c refusal r o (state_of b) (map.get b.timers c)) ≡ Record shown s →
    book_after (undo_attempt c refusal r o (state_of b) (map.get b.timers c)) b ≡ run_back c (journal_of shown.attempt) b
attempt_undone c r refusal None shown s b sound known is e = cc
attempt_undone c r refusal (Some a) shown s b sound known is e =
    let same : r ≡ shown = cc in
    sym (inverses_undo c r a b sound known is) ∙ ap (λ x. run_back c (journal_of x.attempt) b) same

-- by the timer that expired,
expiry_undone : (c : ℕ) (r : CallRecord) (armed : Bool) (shown : CallRecord) (s : Option ChanState) (b : State) →
    IsSound b → record_of b c ≡ Some r →
    reply_of (needs armed NotArmed (undo_attempt c NotArmed r r.attempt (state_of b) (map.get b.timers c))) ≡ Record shown s →
    book_after (needs armed NotArmed (undo_attempt c NotArmed r r.attempt (state_of b) (map.get b.timers c))) b ≡ run_back c (journal_of shown.attempt) b
expiry_undone c r true shown s b sound known e = attempt_undone c r NotArmed r.attempt shown s b sound known refl e
expiry_undone c r false shown s b sound known e = cc

-- by the record that the book has.
record_undone : (c : ℕ) (why : Why) (found : Option CallRecord) (shown : CallRecord) (s : Option ChanState) (b : State) →
    IsSound b → record_of b c ≡ found →
    reply_of (undo_row c why found (state_of b) (map.get b.timers c)) ≡ Record shown s →
    book_after (undo_row c why found (state_of b) (map.get b.timers c)) b ≡ run_back c (journal_of shown.attempt) b
record_undone c why None shown s b sound known e = cc
record_undone c Asked (Some r) shown s b sound known e = attempt_undone c r WrongPhase r.attempt shown s b sound known refl e
record_undone c (Expired m) (Some r) shown s b sound known e = expiry_undone c r (is_armed m (map.get b.timers c)) shown s b sound known e

pub undone : (c : ℕ) (why : Why) (shown : CallRecord) (s : Option ChanState) (b : State) →
    IsSound b → reply_to b (Undo c why) ≡ Record shown s → step b (Undo c why) ≡ run_back c (journal_of shown.attempt) b
undone c why shown s b sound e = record_undone c why (record_of b c) shown s b sound refl e
