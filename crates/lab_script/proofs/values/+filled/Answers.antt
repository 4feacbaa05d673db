use Rattle.std.proofs.Common.{sym, ◌∙◌}
use Rattle.lab_script.proofs.ValueFacts.{one_behind, all_taken, one_put, one_unfit}
use Rattle.lab_script.proofs.values.+filled.Goals as goal

pub returns-in_default-slots : goal.returns-in_default-slots
returns-in_default-slots t c =
    rw c.in-Some.is (one_behind c.args.slots.now _ c.args.values c.args.kept.now c.in_default-slots.len_below)

pub returns-then-takes_rest : goal.returns-then-takes_rest
returns-then-takes_rest t c =
    rw c.in-Some.is
    (c.none_left-then-takes_rest.ensures ∙ all_taken c.args.slots.now _ c.args.values c.args.kept.now c.in-len1-up.len_at_least (sym c.takes_rest.ensures.rest ∙ c.if-takes_rest.true))

pub returns-in-Some-put : goal.returns-in-Some-put
returns-in-Some-put t c =
    rw c.in-Some.is
    (c.filled.ensures ∙ one_put c.args.slots.now _ _ _ c.args.values c.in-Some-put.values c.args.kept.now c.in-len1-up.len_at_least (sym c.takes_rest.ensures.rest ∙ c.if-takes_rest.false) c.cut_word.ensures.first c.cut_word.ensures.rest (sym c.put.ensures ∙ c.in-Some-put.is))

pub returns-in-None : goal.returns-in-None
returns-in-None t c =
    rw c.in-Some.is
    (one_unfit c.args.slots.now _ _ c.args.values c.args.kept.now c.in-len1-up.len_at_least (sym c.takes_rest.ensures.rest ∙ c.if-takes_rest.false) c.cut_word.ensures.first (sym c.put.ensures ∙ c.in-None.is))
