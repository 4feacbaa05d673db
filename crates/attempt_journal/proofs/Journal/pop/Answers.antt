use Rattle.std.proofs.Common.{◌+◌, ◌-◌, ◌<◌, ◌≡◌, ◌∷◌, [], ◌++◌, length, take, drop, set, get_or, ap, sym, ◌∙◌, arith}
use Rattle.std.proofs.lemmas.List.{length-set, take_more, take-set}
use Rattle.timeslots.specs.declared.Sub.TheVariants.{Full}
use Rattle.attempt_journal.specs.declared.Inverse.TheVariants.{Settle, FreeChannel}
use Rattle.attempt_journal.specs.Padding.{pad}
use Rattle.attempt_journal.proofs.PadFacts.{popped_rest}
use Rattle.attempt_journal.proofs.Journal.pop.Goals as goal

pub invariant_of-self : goal.invariant_of-self
invariant_of-self c =
    let journal = c.self.inside in
    let some : journal.pushed ≡ (journal.pushed - 1) + 1 = omega (arith, c.if-self-eq0.false) in (
      omega (arith, c.self.invariant.0),
      length-set journal.inverses c.from-2.result Settle ∙ c.self.invariant.1,
      ap (λ n. drop (journal.pushed - 1) (set journal.inverses n Settle)) c.from-2.ensures
          ∙ popped_rest journal.inverses (journal.pushed - 1) (omega (arith, some, c.self.invariant.0)) c.self.invariant.1
          (ap (λ n. drop n journal.inverses) (sym some) ∙ c.self.invariant.2 ∙ ap pad some),
    )

pub returns-clause-items : goal.returns-clause-items
returns-clause-items c =
    let journal = c.self.inside in
    let last = journal.pushed - 1 in
    let none = FreeChannel (record { cell = 0; trx = 0; tn = 0; sub = Full }) in
    let some : journal.pushed ≡ last + 1 = omega (arith, c.if-self-eq0.false) in
    let within : last < length journal.inverses = omega (arith, some, c.self.invariant.0, c.self.invariant.1) in
    sym c.self.view_is
    ∙ ap (λ n. take n journal.inverses) some
    ∙ take_more journal.inverses last none within
    ∙ ap (λ n. take last journal.inverses ++ get_or journal.inverses n none ∷ []) (sym c.from.ensures)
    ∙ ap (λ front. front ++ get_or journal.inverses c.from.result none ∷ []) (sym (ap (λ n. take last (set journal.inverses n Settle)) c.from-2.ensures ∙ take-set journal.inverses last Settle))
