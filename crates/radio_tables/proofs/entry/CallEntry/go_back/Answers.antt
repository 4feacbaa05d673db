use Rattle.std.proofs.Common.{List, [], ◌∷◌, ◌++◌, sym, ◌∙◌, ap}
use Rattle.attempt_journal.specs.declared.Inverse.{Inverse}
use Rattle.attempt_journal.specs.declared.Inverse.TheVariants.{Uncommand, Undetect, Disarm}
use Rattle.attempt_journal.specs.declared.Timer.TheVariants.{T3103}
use Rattle.radio_tables.specs.declared.kinds.Stage.{Stage}
use Rattle.radio_tables.specs.declared.kinds.Stage.TheVariants.{Confirmed, Commanded}
use Rattle.radio_tables.specs.declared.kinds.Attempt.{Attempt}
use Rattle.radio_tables.specs.Stages.{stage_row, opening_inverse}
use Rattle.radio_tables.specs.Journal.{journal_of, or_origin, or_zero}
use Rattle.radio_tables.proofs.JournalFacts.{popped}
use Rattle.radio_tables.proofs.entry.CallEntry.go_back.Goals as goal

-- the inverses of the attempt at a stage
abbrev at : Attempt → Stage → List Inverse
at a g = (stage_row g).inverses (opening_inverse a.kind) (or_origin a.target) (or_zero a.reference)

pub invariant_of-self : goal.invariant_of-self
invariant_of-self c =
    let a = c.in-Some.attempt in
    let before = c.self.invariant ∙ ap journal_of c.in-Some.is ∙ ap (at a) c.in-Commanded.is in
    let once = popped (at a Confirmed ++ Uncommand ∷ []) c.pop.new.self (Disarm T3103) c.pop.result (sym before ∙ c.pop.ensures.items) c.pop.ensures.empty in
    popped (at a Confirmed) c.pop-in-Commanded.new.self Uncommand c.pop-in-Commanded.result (sym once ∙ c.pop-in-Commanded.ensures.items) c.pop-in-Commanded.ensures.empty

pub invariant_of-self-in-Detected : goal.invariant_of-self-in-Detected
invariant_of-self-in-Detected c =
    let a = c.in-Some.attempt in
    let before = c.self.invariant ∙ ap journal_of c.in-Some.is ∙ ap (at a) c.in-Detected.is in
    popped (at a Commanded) c.pop-in-Detected.new.self Undetect c.pop-in-Detected.result (sym before ∙ c.pop-in-Detected.ensures.items) c.pop-in-Detected.ensures.empty
