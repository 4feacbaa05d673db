-- The reasons of refusals, behind one record more.
use Rattle.std.proofs.Common.{◌≡◌, inl, inr, ◌+◌, ◌^◌, ◌<◌, ℕ, List, [], ◌∷◌, ◌++◌, length, length-append, take, drop, append_assoc, Result, Ok, Err, IsErrAnd, IfErr, refl, sym, subst, ◌∙◌, ap, arith}
use Rattle.std.proofs.lemmas.List.{take_at, take-append-drop}
use Rattle.cell_table.specs.Site.{SiteView}
use Rattle.radio_book.specs.State.{State, empty_book}
use Rattle.radio_book.specs.Run.{run_book, run_replies}
use Rattle.trace_entries.specs.Entries.{entries_of, events_of, HasReplies}
use Rattle.journal_records.specs.Records.{record_text, BeginsWith}
use Rattle.journal_records.specs.declared.file.FileFault.{FileFault}
use Rattle.journal_records.specs.declared.file.FileFault.TheVariants as file
use Rattle.journal_records.specs.Files.{kind, first_line, Begins}
use Rattle.journal_resume.specs.declared.resuming.ResumeFault.{ResumeFault}
use Rattle.journal_resume.specs.declared.resuming.ResumeFault.TheVariants as fault
use Rattle.journal_resume.specs.Heads.{BeginsWithLine}
use Rattle.journal_resume.specs.Resume.{records_text, events_in, IsReadable}
use Rattle.journal_resume.specs.Refusals.{IsRecordReason, IsNextReason, IsReasonBehind, IsHeadReason, IsReason}
use Rattle.journal_resume.proofs.Steps.{SoFar, none_taken, taken_in_front, led_in_front}

-- a text that begins with a line isn't shorter, and has the line in front
pub line_is_short : (line text : List ℕ) → BeginsWithLine line text → length text < length line → ⊥
line_is_short line text (behind, is) short = omega (arith, ap length is, length-append line behind, short)

pub line_in_front : (line text : List ℕ) → BeginsWithLine line text → take (length line) text ≡ line
line_in_front line text (behind, is) = ap (take (length line)) is ∙ take_at line behind (length line) refl

pub front_is_line : (line text : List ℕ) → take (length line) text ≡ line → BeginsWithLine line text
front_is_line line text is = (drop (length line) text, sym (take-append-drop (length line) text) ∙ ap (λ f. f ++ drop (length line) text) is)

-- what `?` hands on
pub handed_on : {T : Type 0} (r : Result T ResumeFault) (x : ResumeFault) (P : ResumeFault → Type 0) → IsErrAnd r (λ y. y ≡ x) → P x → IfErr r P
handed_on (Ok t) x P is why = absurd is
handed_on (Err y) x P is why = subst P (sym is) why

-- why a record isn't taken, where it stands
pub record_reason : (f : ResumeFault) (b : State) (next number : ℕ) (left body behind : List ℕ) → BeginsWith left number body behind → IsRecordReason f b next number body → IsNextReason f b next left
record_reason (fault.Misplaced n) b next number left body behind begins (is, other) = inl (is, (number, body, behind, begins, other))
record_reason (fault.Unreadable n) b next number left body behind begins (is, same, why) = (is, (body, behind, subst (λ k. BeginsWith left k body behind) same begins, why))
record_reason (fault.OtherReply n) b next number left body behind begins (is, same, readable, other) = (is, (body, behind, subst (λ k. BeginsWith left k body behind) same begins, (readable, other)))
record_reason fault.NoMemory b next number left body behind begins why = tt
record_reason (fault.File _) b next number left body behind begins why = absurd why
record_reason fault.NoHead b next number left body behind begins why = absurd why
record_reason fault.Renamed b next number left body behind begins why = absurd why
record_reason fault.AnotherSite b next number left body behind begins why = absurd why
record_reason (fault.Damaged _) b next number left body behind begins why = absurd why

-- behind the records that were taken
pub reason_so_far : (f : ResumeFault) (b : State) (before : ℕ) (octets : List ℕ) (b' : State) (last next : ℕ) (left : List ℕ) →
    SoFar b before octets b' last left → next ≡ last + 1 → IsNextReason f b' next left → IsReasonBehind f b (before + 1) octets
reason_so_far f b before octets b' last next left so_far is why =
    let place : next ≡ before + 1 + length so_far.records = omega (arith, is, so_far.last_number) in
    (so_far.records, left, so_far.text, so_far.taken, subst (λ k. IsNextReason f (run_book b (events_in so_far.records)) k left) place (subst (λ x. IsNextReason f x next left) so_far.book why))

-- at the head
pub reason_at_head : (f : ResumeFault) (b : State) (number : ℕ) (octets : List ℕ) → IsNextReason f b number octets → IsReasonBehind f b number octets
reason_at_head f b number octets why =
    let place : number ≡ number + 0 = omega arith in
    ([], octets, refl, none_taken b number, subst (λ k. IsNextReason f b k octets) place why)

-- behind the highest number there is none
pub no_number_behind : (b : State) (number : ℕ) (octets : List ℕ) → number + 1 ≡ 2 ^ 64 → IsReasonBehind (fault.Misplaced number) b (number + 1) octets
no_number_behind b number octets is = ([], octets, refl, none_taken b (number + 1), inr (is, omega (arith, is)))

-- behind the head
pub reason_behind_head : (f : ResumeFault) (b opening : State) (number : ℕ) (octets head behind : List ℕ) → BeginsWith octets number head behind →
    opening ≡ run_book b (events_of (entries_of head)) → IsReadable head → HasReplies head (run_replies b (events_of (entries_of head))) →
    IsReasonBehind f opening (number + 1) behind → IsReasonBehind f b number octets
reason_behind_head f b opening number octets head behind begins is readable replies (records, left, text, taken, why) =
    let place : number + 1 + length records ≡ number + length ((number, head) ∷ records) = omega arith in
    let book = led_in_front b opening number head records is in (
      (number, head) ∷ records,
      left,
      begins.text ∙ ap (λ t. record_text number head ++ t) text ∙ sym (append_assoc (record_text number head) (records_text records) left),
      taken_in_front b opening number head records is readable replies taken,
      subst (λ x. IsNextReason f x (number + length ((number, head) ∷ records)) left) book (subst (λ k. IsNextReason f (run_book opening (events_in records)) k left) place why),
    )

-- of the file
pub file_reason : (f : ResumeFault) (sum : ℕ) (site : SiteView) (number : ℕ) (octets behind : List ℕ) → octets ≡ first_line ++ behind → IsReasonBehind f (empty_book site) number behind → IsReason f sum site number octets
file_reason (fault.Damaged n) sum site number octets behind line why = (behind, line, why)
file_reason (fault.Misplaced n) sum site number octets behind line why = (behind, line, why)
file_reason (fault.Unreadable n) sum site number octets behind line why = (behind, line, why)
file_reason (fault.OtherReply n) sum site number octets behind line why = (behind, line, why)
file_reason fault.NoMemory sum site number octets behind line why = tt
file_reason (fault.File _) sum site number octets behind line (records, left, text, taken, why) = absurd why
file_reason fault.NoHead sum site number octets behind line (records, left, text, taken, why) = absurd why
file_reason fault.Renamed sum site number octets behind line (records, left, text, taken, why) = absurd why
file_reason fault.AnotherSite sum site number octets behind line (records, left, text, taken, why) = absurd why

-- by the first line
pub kind_reason : {T : Type 0} (r : Result T FileFault) (f : FileFault) (sum : ℕ) (site : SiteView) (number : ℕ) (octets : List ℕ) → r ≡ Err f →
    (r ≡ Err file.NotAJournal → Begins kind octets → ⊥) → (r ≡ Err file.UnknownVersion → Begins kind octets × (Begins first_line octets → ⊥)) →
    IsReason (fault.File f) sum site number octets
kind_reason r file.NotAJournal sum site number octets is other version = other is
kind_reason r file.UnknownVersion sum site number octets is other version = version is

pub head_reason : (f : ResumeFault) (sum : ℕ) (site : SiteView) (number : ℕ) (octets behind : List ℕ) → octets ≡ first_line ++ behind → IsHeadReason f number behind → IsReason f sum site number octets
head_reason fault.NoHead sum site number octets behind line why = (behind, line, why)
head_reason fault.Renamed sum site number octets behind line why = (behind, line, why)
head_reason fault.NoMemory sum site number octets behind line why = absurd why
head_reason (fault.File _) sum site number octets behind line why = absurd why
head_reason fault.AnotherSite sum site number octets behind line why = absurd why
head_reason (fault.Damaged _) sum site number octets behind line why = absurd why
head_reason (fault.Misplaced _) sum site number octets behind line why = absurd why
head_reason (fault.Unreadable _) sum site number octets behind line why = absurd why
head_reason (fault.OtherReply _) sum site number octets behind line why = absurd why
