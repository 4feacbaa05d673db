use Rattle.std.proofs.Common.{[], ◌∷◌, sym, ◌∙◌, rules}
use Rattle.std.proofs.lemmas.List.{take_at}
use Rattle.std.proofs.lemmas.Bool.{eqb-true}
use Rattle.screen_text.proofs.tally.Tally.pass.Goals as goal

pub returns-else-not-is_full-clause-stand : goal.returns-else-not-is_full-clause-stand
returns-else-not-is_full-clause-stand c =
    let full = eqb-true _ _ (sym c.is_full.ensures.value ∙ c.if-not-is_full.false) in
    let same = take_at c.args.self.now.begun.items (c.args.octet ∷ []) 7 full in
    search (rules, same)
