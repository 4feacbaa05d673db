use Rattle.std.proofs.Common.{◌<◌, ◌∙◌, sym, length, arith}
use Rattle.radio_book.specs.declared.event.Event.TheVariants.{Look}
use Rattle.radio_book.specs.declared.event.Reply.TheVariants.{Done}
use Rattle.trace_entries.specs.declared.entries.Entry.{Entry}
use Rattle.trace_entries.proofs.ReplyLemmas.{none_left, others_on}
use Rattle.trace_entries.proofs.entries.first_among.Goals as goal

abbrev none : Entry
none = record { index = 0; event = Look 0 }

pub loop-place-preserved : goal.loop-place-preserved
loop-place-preserved g c =
    let es = c.args.entries.now in
    let ts = c.args.texts.now in
    let rs = c.args.replies.now in
    let i = c.loop-place.place in
    let within = c.loop-place-test.true in
    let in_es : i < length es = omega (arith, within, c.min-count.ensures, c.min.ensures) in
    let in_ts : i < length ts = omega (arith, within, c.min-count.ensures, c.min.ensures) in
    let in_rs : i < length rs = omega (arith, within, c.min-count.ensures, c.min.ensures) in
    record { left = others_on es ts rs i none _ Done in_es in_ts in_rs (sym c.in_ok-is_reply.ensures.word ∙ c.if-not-branch.false) ∙ c.loop-place.invariant.left }

pub returns : goal.returns
returns g c =
    sym (none_left c.loop-place.place c.args.entries.now c.args.texts.now c.args.replies.now (omega (arith, c.loop-place-test.false, c.min-count.ensures, c.min.ensures))) ∙ c.loop-place.invariant.left
