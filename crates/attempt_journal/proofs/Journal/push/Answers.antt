use Rattle.std.proofs.Common.{◌+◌, ◌<◌, length, drop, set, ap, ◌∙◌, arith}
use Rattle.std.proofs.lemmas.List.{length-set, length-take}
use Rattle.attempt_journal.proofs.PadFacts.{pushed_rest}
use Rattle.attempt_journal.proofs.Journal.push.Goals as goal

pub invariant_of-self : goal.invariant_of-self
invariant_of-self c =
    let journal = c.self.inside in
    let few : journal.pushed < 7 = omega (arith, ap length c.self.view_is, length-take journal.pushed journal.inverses, c.self.invariant.1, c.requires.room) in (
      omega (arith, few),
      length-set journal.inverses c.from.result c.args.inverse ∙ c.self.invariant.1,
      ap (λ n. drop (journal.pushed + 1) (set journal.inverses n c.args.inverse)) c.from.ensures
          ∙ pushed_rest journal.inverses journal.pushed c.args.inverse few c.self.invariant.1 c.self.invariant.2,
    )
