use Rattle.std.proofs.Common.{◌+◌, sym, ◌∙◌, ap, fold, drop}
use Rattle.std.proofs.lemmas.List.{at_drop_more, at_drop_all}
use Rattle.journal_records.specs.Numerals.{after_digit}
use Rattle.journal_records.proofs.numerals.number_of.Goals as goal

pub loop-octet-preserved : goal.loop-octet-preserved
loop-octet-preserved c =
    let next = after_digit c.args.base in
    let more = at_drop_more (fold next c.loop-octet.number) c.args.text.now c.loop-octet.octet-index 0 c.loop-octet-test.true in
    ap (λ n. fold next n (drop (c.loop-octet.octet-index + 1) c.args.text.now)) c.after_digit-number.ensures ∙ sym more ∙ c.loop-octet.invariant

pub returns : goal.returns
returns c =
    sym (at_drop_all (fold (after_digit c.args.base) c.loop-octet.number) c.args.text.now c.loop-octet.octet-index c.loop-octet-test.false) ∙ c.loop-octet.invariant
