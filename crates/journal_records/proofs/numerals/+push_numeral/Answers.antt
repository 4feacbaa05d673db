use Rattle.std.proofs.Common.{◌-◌, ◌/◌, ◌++◌, ◌∷◌, [], ap, ◌∙◌, arith}
use Rattle.journal_records.specs.Numerals.{numeral}
use Rattle.journal_records.proofs.ReadBack.{none_behind, one_behind}
use Rattle.journal_records.proofs.numerals.+push_numeral.Goals as goal

pub returns-then-width-eq0-clause-items : goal.returns-then-width-eq0-clause-items
returns-then-width-eq0-clause-items g t c = none_behind c.args.base c.args.width c.args.number c.args.text.now.items c.if-width-eq0.true

pub returns-clause-items : goal.returns-clause-items
returns-clause-items g t c =
    c.push.ensures.items ∙ ap (λ xs. xs ++ c.digit.result ∷ []) c.push_numeral.ensures.items
    ∙ ap (λ d. (c.args.text.now.items ++ numeral c.args.base (c.args.width - 1) (c.args.number / c.args.base)) ++ d ∷ []) c.digit.ensures
    ∙ one_behind c.args.base c.args.width c.args.number c.args.text.now.items (omega (arith, c.if-width-eq0.false))
