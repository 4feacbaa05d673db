use Rattle.script_reasons.proofs.ReasonLemmas.{nothing_missing, one_missing}
use Rattle.script_reasons.proofs.reasons.missing.Goals as goal

pub returns-in-empty : goal.returns-in-empty
returns-in-empty c = nothing_missing c.args.form c.args.slots.now c.in-empty.len_below

pub returns-in-len1-up : goal.returns-in-len1-up
returns-in-len1-up c = rw (c.without_word.ensures.fault, c.without_word.ensures.found) (one_missing c.args.form c.args.slots.now c.in-len1-up.len_at_least)
