-- Facts of one turn.
use Rattle.std.proofs.Common.{◌≡◌, ◌++◌, ℕ, List, [], drop, length, sym, ap, subst, ◌∙◌, append-nil}
use Rattle.std.specs.List.{All}
use Rattle.std.proofs.Math.Seq.{drop-append_seam}
use Rattle.exchange.specs.declared.Inbound.{Inbound}
use Rattle.ho_procedure.specs.Claims.{Entry}
use Rattle.trace_text.specs.declared.trace.Step.{Step}
use Rattle.lab_runs.specs.declared.noting.Note.{Note}
use Rattle.run_listeners.specs.declared.turn.Answer.{Answer}
use Rattle.run_listeners.specs.declared.turn.Answer.TheVariants.{Sent, Undecoded}
use Rattle.lab_runs.specs.Notes.{IsTrueNote, AreTrueSteps, with_notes}
use Rattle.lab_runs.specs.Turns.{Position, Answers, asked_in}
use Rattle.lab_runs.proofs.StepFacts.{asked_with_notes, true_with_notes}

-- what stands behind the history as it was
record Gained (s s' : Position) : Type 0 where
  pub entries : List Entry
  pub grown : s'.0.desk.history ≡ s.0.desk.history ++ entries

gained : {A : Type 0} (s s' : Position) (input : Inbound A) (a : Answer A) → Answers s input a s' → Gained s s'
gained s s' input (Sent out) h = record { entries = _; grown = h.2.entries }
gained s s' input (Undecoded bad) h = record { entries = []; grown = ap (λ (v : _). v.desk.history) h.1 ∙ sym (append-nil s.0.desk.history) }

-- what a turn tells of the steps
pub record Told (s s' : Position) (steps : List Step) : Type 0 where
  pub asked : s'.0.desk.history ≡ s.0.desk.history ++ asked_in steps
  pub none_free : AreTrueSteps s.0.desk.opening s.0.desk.history steps
  pub noted : steps ≡ with_notes (length s.0.desk.history) (drop (length s.0.notes) s'.0.notes) (asked_in steps)

pub told : {A : Type 0} (s s' : Position) (input : Inbound A) (a : Answer A) (steps : List Step) (first place : ℕ) (notes : List Note)
    → Answers s input a s' → s'.0.desk.opening ≡ s.0.desk.opening → first ≡ length s.0.desk.history → place ≡ length s.0.notes
    → notes ≡ drop place s'.0.notes → All (IsTrueNote s'.0.desk) notes → steps ≡ with_notes first notes (drop first s'.0.desk.history) → Told s s' steps
told s s' input a steps first place notes h opening from at those all e =
    let more = gained s s' input a h in
    let left : drop first s'.0.desk.history ≡ more.entries = ap (λ n. drop n s'.0.desk.history) from ∙ (ap (λ es. drop (length s.0.desk.history) es) more.grown ∙ drop-append_seam s.0.desk.history more.entries) in
    let entries : asked_in steps ≡ more.entries = ap asked_in e ∙ (asked_with_notes first notes (drop first s'.0.desk.history) ∙ left) in
    let grown : s'.0.desk.history ≡ s.0.desk.history ++ asked_in steps = more.grown ∙ ap (λ es. s.0.desk.history ++ es) (sym entries) in
    let holds : AreTrueSteps s'.0.desk.opening s.0.desk.history (with_notes first notes (asked_in steps)) = true_with_notes s'.0.desk s.0.desk.history (asked_in steps) first notes grown from all in
    let same : steps ≡ with_notes first notes (asked_in steps) = e ∙ ap (λ es. with_notes first notes es) (left ∙ sym entries) in
    record {
      asked = grown;
      none_free = subst (λ book. AreTrueSteps book s.0.desk.history steps) opening (subst (AreTrueSteps s'.0.desk.opening s.0.desk.history) (sym same) holds);
      noted = same ∙ (ap (λ n. with_notes n notes (asked_in steps)) from ∙ ap (λ ns. with_notes (length s.0.desk.history) ns (asked_in steps)) (those ∙ ap (λ n. drop n s'.0.notes) at));
    }
