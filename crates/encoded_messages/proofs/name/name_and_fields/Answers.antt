use Rattle.encoded_messages.proofs.NameLemmas.{name_alone, fields_alone, name_before, blank_behind}
use Rattle.encoded_messages.proofs.name.name_and_fields.Goals as goal

pub returns-in_default : goal.returns-in_default
returns-in_default c =
    let both = name_alone c.args.text.now c.in_default.ensures in
    record { name = both.0; fields = both.1 }

pub returns-in_default-around_last_blank : goal.returns-in_default-around_last_blank
returns-in_default-around_last_blank c =
    let both = fields_alone c.args.text.now c.in-Some.front.now c.in-Some.field-0-1.now c.in-Some.ensures.0 c.in_default-around_last_blank.ensures in
    record { name = both.0; fields = both.1 }

pub returns-in-Some-behind : goal.returns-in-Some-behind
returns-in-Some-behind c =
    let both = name_before c.args.text.now c.in-Some.front.now c.in-Some.field-0-1.now c.in-Some-around_last_blank.name.now c.in-Some-around_last_blank.field-0-1.now c.in-Some-behind.fields.now
    c.in-Some.ensures.0 c.in-Some.ensures.1 c.in-Some-around_last_blank.ensures.0 c.in-Some-around_last_blank.ensures.1 c.in-Some-behind.ensures in
    record { name = both.0; fields = both.1 }

pub returns-in-None : goal.returns-in-None
returns-in-None c = absurd (blank_behind c.args.text.now c.in-Some.front.now c.in-Some.field-0-1.now c.in-Some-around_last_blank.name.now c.in-Some-around_last_blank.field-0-1.now
    c.in-Some.ensures.0 c.in-Some-around_last_blank.ensures.0 c.in-None.ensures)
