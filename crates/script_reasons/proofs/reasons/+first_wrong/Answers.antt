use Rattle.std.proofs.Common.{sym, ◌∙◌, rules}
use Rattle.script_reasons.proofs.ReasonLemmas.{one_behind, all_taken, one_fits, one_wrong}
use Rattle.script_reasons.proofs.reasons.+first_wrong.Goals as goal

pub returns-in_default : goal.returns-in_default
returns-in_default t c = search rules

pub returns-in_default-slots : goal.returns-in_default-slots
returns-in_default-slots t c =
    rw c.in-Some.is (one_behind c.args.form c.args.slots.now _ _ c.in_default-slots.len_below c.cut_word.ensures.first)

pub returns-then-takes_rest : goal.returns-then-takes_rest
returns-then-takes_rest t c =
    rw c.in-Some.is (c.rest_reason.ensures ∙ all_taken c.args.form c.args.slots.now _ c.in-len1-up.len_at_least (sym c.takes_rest.ensures.rest ∙ c.if-takes_rest.true))

pub returns-then-fits : goal.returns-then-fits
returns-then-fits t c =
    rw c.in-Some.is
    (c.first_wrong.ensures ∙ one_fits c.args.form c.args.slots.now _ _ _ c.in-len1-up.len_at_least (sym c.takes_rest.ensures.rest ∙ c.if-takes_rest.false) c.cut_word.ensures.first c.cut_word.ensures.rest (sym c.fits.ensures.fits ∙ c.if-fits.true))

pub returns-else-fits : goal.returns-else-fits
returns-else-fits t c =
    rw c.in-Some.is (one_wrong c.args.form c.args.slots.now _ _ c.in-len1-up.len_at_least (sym c.takes_rest.ensures.rest ∙ c.if-takes_rest.false) c.cut_word.ensures.first (sym c.fits.ensures.fits ∙ c.if-fits.false))
