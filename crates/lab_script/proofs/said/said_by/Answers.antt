use Rattle.std.proofs.Common.{rules}
use Rattle.lab_script.proofs.SaidFacts.{said_by-values}
use Rattle.lab_script.proofs.said.said_by.Goals as goal

pub returns-in_err-values : goal.returns-in_err-values
returns-in_err-values c =
    let said = said_by-values c.args.side c.args.form c.slots.result.now _ c.values_of.result c.slots.ensures.slots c.values_of.ensures in
    rw said (search rules)

pub returns-in_err-said_of : goal.returns-in_err-said_of
returns-in_err-said_of c =
    let said = said_by-values c.args.side c.args.form c.slots.result.now _ c.values_of.result c.slots.ensures.slots c.values_of.ensures in
    rw said (search rules)

pub returns : goal.returns
returns c =
    let said = said_by-values c.args.side c.args.form c.slots.result.now _ c.values_of.result c.slots.ensures.slots c.values_of.ensures in
    rw said (search rules)
