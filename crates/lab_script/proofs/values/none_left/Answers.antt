use Rattle.lab_script.proofs.ValueFacts.{none_missing, one_missing}
use Rattle.lab_script.proofs.values.none_left.Goals as goal

pub returns-in-empty : goal.returns-in-empty
returns-in-empty c = none_missing c.args.slots.now c.args.values c.args.kept.now c.in-empty.len_below

pub returns-in-len1-up : goal.returns-in-len1-up
returns-in-len1-up c = one_missing c.args.slots.now c.args.values c.args.kept.now c.in-len1-up.len_at_least
